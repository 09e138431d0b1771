-- What making an end of a draft answers.
use Rattle.std.specs.Prelude.{ℕ, [], Option, Some, None}
use Rattle.rtp_media_exchange.specs.declared.errors.EndError.{EndError}
use Rattle.rtp_media_exchange.specs.declared.errors.EndError.TheVariants as end_error
use Rattle.rtp_media_exchange.specs.Exchanges.{bare_session}
use Rattle.rtp_media_exchange.specs.Refusals.{refusal_of_new}
use Rattle.rtp_media_ends.specs.Ends.{new_end}
use Rattle.jilqamur.specs.Codes.{ok, memory, row_not_plain, types_not_distinct, not_writable}
use Rattle.jilqamur.specs.Drafts.{without_media}
use Rattle.jilqamur.specs.HeldEnds.{HeldEndState, new_state, with_draft}

-- The number of a refusal to make an end.
abbrev pub end_code : EndError → ℕ
end_code (end_error.RowNotPlain row) = row_not_plain
end_code (end_error.TypesNotDistinct pt) = types_not_distinct
end_code end_error.NotWritable = not_writable
end_code end_error.Memory = memory

abbrev pub end_outcome : Option EndError → ℕ
end_outcome None = ok
end_outcome (Some error) = end_code error

-- The result of making an end of a draft, not counting lack of memory.
abbrev pub make_outcome : HeldEndState → ℕ
make_outcome p = end_outcome (refusal_of_new p.draft.rows p.draft.exts)

-- The draft's rows and map are used up.
abbrev pub without_draft : HeldEndState → HeldEndState
without_draft p = with_draft p (without_media p.draft)

-- The end of a draft, which is emptied; nothing is remembered of a browser.
abbrev pub made : HeldEndState → ℕ → HeldEndState
made p session = record (without_draft p) {
  end = Some (new_end (bare_session session) p.draft.exts (record { rows = p.draft.rows; distances = [] }));
  state = new_state;
}
