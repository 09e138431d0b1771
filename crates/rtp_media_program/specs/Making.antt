-- What the program answers to the commands that make ends.
use Rattle.std.specs.Prelude.{ℕ, ◌≡◌, ◌⊎◌, ◌==◌, ◌-◌, ◌&&◌, nat_le, List}
use Rattle.std.specs.Prelude.{[], ◌∷◌, ◌++◌, slice_set, Option, Some, None}
use Rattle.media_types.specs.Codecs.{codec_named}
use Rattle.rtp_wire.specs.Elements.{Numbering}
use Rattle.rtp_wire.specs.Kinds.{extension_of}
use Rattle.rtp_wire.specs.Maps.{empty_map}
use Rattle.sdp_formats_rows.specs.declared.format.FormatParams.{FormatParams}
use Rattle.sdp_formats_rows.specs.Formats.{format_of, no_format}
use Rattle.sdp_formats_rows.specs.Rows.{Row, new_row}
use Rattle.rtp_media_exchange.specs.declared.errors.EndError.{EndError}
use Rattle.rtp_media_exchange.specs.Exchanges.{bare_session}
use Rattle.rtp_media_exchange.specs.Refusals.{refusal_of_new}
use Rattle.rtp_media_ends.specs.Ends.{EndState, fixed_end, new_end}
use Rattle.rtp_media_ends.specs.Stops.{Where}
use Rattle.rtp_media_program.specs.declared.exchange.RowCommand.{RowCommand}
use Rattle.rtp_media_program.specs.declared.exchange.ExtCommand.{ExtCommand}
use Rattle.rtp_media_program.specs.declared.exchange.EndCommand.{EndCommand}
use Rattle.rtp_media_program.specs.declared.reply.Reply.{Reply}
use Rattle.rtp_media_program.specs.declared.reply.Reply.TheVariants as reply
use Rattle.rtp_media_program.specs.Replies.{Prints, memory}
use Rattle.rtp_media_program.specs.EndErrorNames.{end_error_name}

-- What a letter stands for: its end, if made, and the draft of the next one.
pub record EndAndDraft : Type 0 where
  pub end : Option EndState
  pub rows : List Row
  pub exts : Numbering

-- This end or none, and an empty draft.
abbrev pub empty_draft : Option EndState → EndAndDraft
empty_draft end = record { end = end; rows = []; exts = empty_map }

-- The format of a command; none for a dash.
abbrev pub format_for : Option (List ℕ) → FormatParams
format_for None = no_format
format_for (Some text) = format_of text

-- The row that a command drafts.
abbrev pub drafted_row : RowCommand → Row
drafted_row c = record (new_row c.pt c.resend
    (record {
      codec = codec_named c.codec;
      clock_rate = c.clock_rate;
      channels = c.channels;
      format =
          format_for c.format;
    })) { red = c.red }

-- row E PT RTX RED CODEC CLOCK CHANNELS FMTP: the clock rate must be at least 1
abbrev pub AnswersRow : EndAndDraft → RowCommand → EndAndDraft → List Reply → Type 0
AnswersRow old c new replies =
    Where (c.clock_rate == 0) ((new ≡ old) × Prints replies reply.ErrorLine)
    ((new ≡ record old { rows = old.rows ++ drafted_row c ∷ [] }) × Prints replies reply.Done)

-- ext E ID URI: the id must be 1 to 16
abbrev pub AnswersExt : EndAndDraft → ExtCommand → EndAndDraft → List Reply → Type 0
AnswersExt old c new replies =
    Where (nat_le 1 c.id && nat_le c.id 16)
    ((new ≡ record old { exts = slice_set old.exts (c.id - 1) (Some (extension_of c.uri)) })
    × Prints replies reply.Done)
    ((new ≡ old) × Prints replies reply.ErrorLine)

-- end E SESSION: the draft is emptied, whether or not it is refused
abbrev pub AnswersEnd : EndAndDraft → EndCommand → Option EndError → EndAndDraft → List Reply → Type 0
AnswersEnd old c None new replies =
    (new ≡ empty_draft (Some (new_end (bare_session c.session) old.exts (record { rows = old.rows; distances = [] }))))
    × Prints replies reply.Done
AnswersEnd old c (Some error) new replies =
    (new ≡ empty_draft old.end) × Prints replies (reply.Refused (end_error_name error))

abbrev pub refusal_of_draft : EndAndDraft → Option EndError
refusal_of_draft kept = refusal_of_new kept.rows kept.exts

-- Either the same, or memory runs out and the draft is emptied.
abbrev pub MakesEnd : EndAndDraft → EndCommand → EndAndDraft → List Reply → Type 0
MakesEnd old c new replies =
    AnswersEnd old c (refusal_of_draft old) new replies
    ⊎ ((new ≡ empty_draft old.end) × Prints replies (reply.Refused memory))

-- fixed E: an end of one row, or memory ran out
abbrev pub AnswersFixed : Option EndState → Option EndState → List Reply → Type 0
AnswersFixed old new replies =
    ((new ≡ Some fixed_end) × Prints replies reply.Done)
    ⊎ ((new ≡ old) × Prints replies (reply.Refused memory))
