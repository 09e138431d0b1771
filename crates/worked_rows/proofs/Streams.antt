-- The streams of an exchange of a codec whose packets are pieces of samples, and samples that they take.
use Rattle.std.proofs.Common.{◌≡◌, ℕ, ◌<◌, ◌≤◌, ◌^◌, zero, suc, refl, sym, ◌∙◌, ap, subst, arith, Bool, true}
use Rattle.std.proofs.Common.{List, [], ◌∷◌, length, Option, Some, None}
use Rattle.std.specs.Prelude.{All, IfSome}
use Rattle.media_types.specs.declared.codec.Codec.{Codec}
use Rattle.h26x_payload.specs.Codings as codings
use Rattle.h26x_payload.specs.Codings.{Forms, Settings, forms_for}
use Rattle.rtp_wire.specs.Carried.{AreValues}
use Rattle.rtp_wire.specs.Values.{absent}
use Rattle.sdp_formats_rows.specs.Rows.{Row}
use Rattle.rtp_media_schedules.specs.SentSamples.{Timed}
use Rattle.rtp_media_schedules.specs.Samples.{AreWellFormed}
use Rattle.rtp_media_streams.specs.Rows.{settings_in}
use Rattle.rtp_media_streams.specs.Sending.{Sample, Sending, opened_sender, packet_limit, samples_of}
use Rattle.rtp_media_streams.specs.declared.row_format.RowFormat.{RowFormat}
use Rattle.rtp_media_streams.specs.declared.types.PayloadTypes.{PayloadTypes}
use Rattle.rtp_wire.specs.Values.{Numbering}
use Rattle.rtp_media_sections.specs.Agreement.{agreed_row_of}
use Rattle.rtp_media_ends.specs.Ends.{EndState, agreed_format, agreed_red, new_sender, sender_types}
use Rattle.rtp_media_ends.specs.Ends.{row_format_in}
use Rattle.rtp_media_ends.specs.Ends.{stream_map, with_distances}
use Rattle.rtp_media_ends.specs.FullArrival.{AreSound, IsSender}
use Rattle.rtp_media_ends.specs.Repairs.{IsKeyBeside}
use Rattle.rtp_media_streams.specs.declared.types.RepairKey.{RepairKey}
use Rattle.rtp_media_ends.specs.OpensAt.{SendsAt}
use Rattle.rtp_media_ends.specs.declared.params.StreamParams.{StreamParams}
use Rattle.rtp_media_runs.proofs.Exchanged.{agreed-is}
use Rattle.worked_rows.specs.Call.{IsShortSample, SendsPieces, sends_pieces}
use Rattle.worked_rows.proofs.Whole.{of-pieces}

pub row-kept : (s : Sending) (red : Option ℕ) (d : Option (List ℕ)) → (with_distances s red d).row ≡ s.row
row-kept s red None = refl
row-kept s red (Some ds) = refl

low : (ssrc : ℕ) (o : Option RepairKey) → IsKeyBeside ssrc o → IfSome o (λ key. key.ssrc < 2 ^ 32)
low ssrc None h = tt
low ssrc (Some key) h = h.2

-- the SSRC of a stream's repairs fits a header
pub key-low : (e : EndState) (mid : List ℕ) (ssrc pt : ℕ) (p : StreamParams) → IsSender (new_sender e mid ssrc pt p)
    → IfSome (sender_types e mid ssrc pt).repair (λ key. key.ssrc < 2 ^ 32)
key-low e mid ssrc pt p s = go p.red s where
  opened : Sending
  opened = opened_sender ssrc (sender_types e mid ssrc pt) (stream_map e mid) (agreed_format e mid pt) p.picture_id
      p.for_browsers p.first p.mtu p.limit

  go : (d : Option (List ℕ)) → IsSender (with_distances opened (agreed_red e mid pt) d)
      → IfSome (sender_types e mid ssrc pt).repair (λ key. key.ssrc < 2 ^ 32)
  go None s = low ssrc (sender_types e mid ssrc pt).repair s.beside
  go (Some ds) s = low ssrc (sender_types e mid ssrc pt).repair s.beside

-- a stream of an agreed row of such a codec
pub sends-pieces : (e : EndState) (mid : List ℕ) (ssrc pt : ℕ) (p : StreamParams)
    → IfSome (agreed_row_of e.exchange.agreed mid pt) SendsPieces → SendsAt e mid ssrc pt
    → sends_pieces (new_sender e mid ssrc pt p).row.codec ≡ true
sends-pieces e mid ssrc pt p pieces at =
    ap (λ (row : RowFormat). sends_pieces row.codec)
    (row-kept (opened_sender ssrc (sender_types e mid ssrc pt) (stream_map e mid) (agreed_format e mid pt) p.picture_id
    p.for_browsers p.first p.mtu p.limit) (agreed_red e mid pt) p.red)
    ∙ ap (λ (o : Option Row). sends_pieces (row_format_in o).codec) (agreed-is e mid ssrc pt at)
    ∙ subst (λ (o : Option Row). IfSome o SendsPieces) (agreed-is e mid ssrc pt at) pieces

good-pieces : (f : Forms) (settings : Settings) (id : Bool) (codec : Codec) (limit : ℕ) (xs : List Timed)
    → sends_pieces codec ≡ true → All (λ x. 0 < length x.bytes) xs
    → AreWellFormed (codings.coding_in f settings id codec) limit xs
good-pieces f settings id codec limit [] is some = tt
good-pieces f settings id codec limit (x ∷ xs) is some = (
  of-pieces (λ (c : Codec). (codings.coding_in f settings id c).IsWellFormed limit x.bytes)
      (some 0 x (omega arith)) (some 0 x (omega arith)) (some 0 x (omega arith)) (some 0 x (omega arith)) codec is,
  good-pieces f settings id codec limit xs is (λ k d lt. some (suc k) d (omega arith)),
)

some-arrive : (s : Sending) (xs : List Sample) → All IsShortSample xs → All (λ x. 0 < length x.bytes) (samples_of s xs)
some-arrive s [] short k d lt = absurd (omega arith)
some-arrive s (x ∷ xs) short zero d lt = (short 0 x (omega arith)).some
some-arrive s (x ∷ xs) short (suc k) d lt = some-arrive s xs (λ j e lt'. short (suc j) e (omega arith)) k d
    (omega arith)

pub no-values : AreValues absent
no-values = record {
  transport_cc = tt;
  mid = tt;
  rid = tt;
  rid_repair = tt;
  video_orientation = tt;
  video_content_type = tt;
  abs_capture_time = tt;
}

-- short samples are well-formed
pub sound-short : (s : Sending) (samples : List Sample) → sends_pieces s.row.codec ≡ true → All IsShortSample samples
    → AreSound s samples
sound-short s samples is short = record {
  well_formed = good-pieces (forms_for s.for_browsers) (settings_in s.row) s.has_id s.row.codec (packet_limit s)
      (samples_of s samples) is
      (some-arrive s samples short);
  values = λ k d lt. subst AreValues (sym (short k d lt).values) no-values;
}

-- with redundancy or without, a packet has room for 1,199 bytes of a payload of 1,200
pub has-room : (ssrc : ℕ) (types : PayloadTypes) (map : Numbering) (row : RowFormat) (p : StreamParams)
    (red : Option ℕ) (d : Option (List ℕ)) → p.mtu ≡ 1200
    → 1199 ≤ packet_limit
    (with_distances (opened_sender ssrc types map row p.picture_id p.for_browsers p.first p.mtu p.limit) red d)
has-room ssrc types map row p red None h = omega (arith, h)
has-room ssrc types map row p red (Some ds) h = omega (arith, h)
