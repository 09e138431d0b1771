-- Samples that one packet has room for are sent whole, if packets are pieces of samples.
use Rattle.std.proofs.Common.{◌≡◌, ℕ, ◌<◌, ◌≤◌, refl, sym, ◌∙◌, ap, ap₂, arith, Bool, true, false, List, [], ◌∷◌}
use Rattle.std.proofs.Common.{length, map, true≢false}
use Rattle.std.proofs.lemmas.List.{take_all, drop_all}
use Rattle.payload_core_base.specs.Packing as packing
use Rattle.payload_core_base.specs.Packing.{marked}
use Rattle.payload_core_base.specs.Pieces.{pieces}
use Rattle.media_types.specs.declared.codec.Codec.{Codec}
use Rattle.media_types.specs.declared.codec.Codec.TheVariants.{Opus, PCMU, PCMA, G722, CN, AmrWb, H264, H265}
use Rattle.media_types.specs.declared.codec.Codec.TheVariants.{H266, Vp8, Vp9, Av1, Tele, Rtx, Red, Null}
use Rattle.media_types.specs.declared.codec.Codec.TheVariants.{Unknown}
use Rattle.payload_core_base.proofs.PieceLemmas.{pieces-empty, pieces-step}
use Rattle.payload_core_audio.specs.Plain.{pieces_coding, pieces_packing, plain_format}
use Rattle.payload_core_base.specs.Stateless.{unit_of_piece}
use Rattle.h26x_payload.specs.Codings as codings
use Rattle.h26x_payload.specs.Codings.{Forms, Settings, forms_for}
use Rattle.rtp_media_schedules.specs.SentSamples.{Timed}
use Rattle.rtp_media_schedules.specs.Samples.{SentSample, sent_by}
use Rattle.rtp_media_streams.specs.Rows.{format_of, settings_in}
use Rattle.rtp_media_streams.specs.Sending.{Sample, Sending, packet_limit, samples_of}
use Rattle.rtp_media_streams.specs.declared.row_format.RowFormat.{RowFormat}
use Rattle.rtp_media_ends.specs.FullArrival.{sent_samples}
use Rattle.worked_rows.specs.Call.{sends_pieces}

-- each has a byte, and room in a packet of the limit
abbrev pub AreShort : ℕ → List Timed → Type 0
AreShort limit [] = Unit {0}
AreShort limit (x ∷ xs) = (0 < length x.bytes) × (length x.bytes ≤ limit) × AreShort limit xs

one-piece : (limit : ℕ) (bytes : List ℕ) → 0 < length bytes → length bytes ≤ limit → pieces limit bytes ≡ bytes ∷ []
one-piece limit bytes some short =
    pieces-step limit bytes (omega arith) some
    ∙ ap₂ (λ (p : List ℕ) (ps : List (List ℕ)). p ∷ ps) (take_all limit bytes short)
    (ap (pieces limit) (drop_all limit bytes short) ∙ pieces-empty limit)

-- a sample in one packet
abbrev pub sent_whole : Timed → SentSample
sent_whole x = record {
  time = x.time;
  values = x.values;
  packets = record { payload = x.bytes; marker = false } ∷ [];
  units = (x.bytes ∷ []) ∷ [];
}

sent-pieces : (limit : ℕ) (state : packing.Sender) (xs : List Timed) → AreShort limit xs
    → sent_by pieces_coding limit state xs ≡ map sent_whole xs
sent-pieces limit state [] short = refl
sent-pieces limit state (x ∷ xs) short =
    ap₂ (λ (ps : List (List ℕ)) (ss : List SentSample). record {
      time = x.time;
      values = x.values;
      packets = marked pieces_packing ps;
      units = map unit_of_piece ps;
    } ∷ ss) (one-piece limit x.bytes short.0 short.1) (sent-pieces limit state xs short.2)

-- what holds of the four codecs whose packets are pieces
pub of-pieces : (P : Codec → Type 0) → P Opus → P PCMU → P PCMA → P G722 → (codec : Codec)
    → sends_pieces codec ≡ true → P codec
of-pieces P opus pcmu pcma g722 Opus is = opus
of-pieces P opus pcmu pcma g722 PCMU is = pcmu
of-pieces P opus pcmu pcma g722 PCMA is = pcma
of-pieces P opus pcmu pcma g722 G722 is = g722
of-pieces P opus pcmu pcma g722 CN is = absurd (true≢false (sym is))
of-pieces P opus pcmu pcma g722 AmrWb is = absurd (true≢false (sym is))
of-pieces P opus pcmu pcma g722 H264 is = absurd (true≢false (sym is))
of-pieces P opus pcmu pcma g722 H265 is = absurd (true≢false (sym is))
of-pieces P opus pcmu pcma g722 H266 is = absurd (true≢false (sym is))
of-pieces P opus pcmu pcma g722 Vp8 is = absurd (true≢false (sym is))
of-pieces P opus pcmu pcma g722 Vp9 is = absurd (true≢false (sym is))
of-pieces P opus pcmu pcma g722 Av1 is = absurd (true≢false (sym is))
of-pieces P opus pcmu pcma g722 Tele is = absurd (true≢false (sym is))
of-pieces P opus pcmu pcma g722 Rtx is = absurd (true≢false (sym is))
of-pieces P opus pcmu pcma g722 Red is = absurd (true≢false (sym is))
of-pieces P opus pcmu pcma g722 Null is = absurd (true≢false (sym is))
of-pieces P opus pcmu pcma g722 Unknown is = absurd (true≢false (sym is))

sent-short : (f : Forms) (settings : Settings) (id : Bool) (codec : Codec) (limit : ℕ) (state : packing.Sender)
    (xs : List Timed) → sends_pieces codec ≡ true → AreShort limit xs
    → sent_by (codings.coding_in f settings id codec) limit state xs
    ≡ map sent_whole xs
sent-short f settings id codec limit state xs is short =
    let here : sent_by pieces_coding limit state xs ≡ map sent_whole xs = sent-pieces limit state xs short in
    of-pieces (λ (c : Codec). sent_by (codings.coding_in f settings id c) limit state xs ≡ map sent_whole xs)
    here here here here codec is

pub sent-whole : (s : Sending) (samples : List Sample) → sends_pieces s.row.codec ≡ true
    → AreShort (packet_limit s) (samples_of s samples) → sent_samples s samples ≡ map sent_whole (samples_of s samples)
sent-whole s samples is short =
    sent-short (forms_for s.for_browsers) (settings_in s.row) s.has_id s.row.codec (packet_limit s) s.packetizer
    (samples_of s samples) is short

pub plain-format : (row : RowFormat) → sends_pieces row.codec ≡ true → format_of row ≡ plain_format
unfolding format_of
plain-format row is =
    of-pieces (λ (c : Codec). (codings.coding_of (settings_in row) false c).format ≡ plain_format) refl refl refl refl
    row.codec is
