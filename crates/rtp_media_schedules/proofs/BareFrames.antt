-- Frames among packets without header extension values.
use Rattle.std.proofs.Common.{◌≡◌, ℕ, zero, suc, ◌+◌, ◌-◌, Bool, refl, ◌∙◌, ap, ap₂}
use Rattle.std.proofs.Common.{List, [], ◌∷◌, length, map, drop, take}
use Rattle.std.specs.Prelude.{Option, Some, None, Ok, ◌||◌, if◌then◌else◌, nat_lt, slice_range}
use Rattle.std.specs.List.{cons_option, drop-map, filter_map, range_with_len, take-map}
use Rattle.payload_core_base.specs.Format.{Format, Fragment, Run}
use Rattle.payload_core_base.specs.declared.error.PacketError.{PacketError}
use Rattle.payload_core_base.specs.declared.extra.CodecExtra.{CodecExtra}
use Rattle.payload_core_buffer.specs.Frames.{complete_frames, due_frame, due_of, frame_at, frame_of_run, frames_among}
use Rattle.payload_core_buffer.specs.Frames.{goes_on, is_head_at, is_joined_at, is_next, is_tail_at, kept_run}
use Rattle.payload_core_buffer.specs.Frames.{lowest_of}
use Rattle.payload_core_buffer.specs.Frames.{meta_at, number_at, packet_at, packets_between, run_or_head}
use Rattle.payload_core_buffer.specs.Frames.{run_start}
use Rattle.payload_core_buffer.specs.Packets.{Packet, metas_of, payloads_of}
use Rattle.payload_core_buffer.specs.Pops.{no_extra, run_of}
use Rattle.payload_core_base.specs.Format.{read_all}
use Rattle.payload_core_buffer.specs.Steps.{answer_among, answer_by, answer_of, MediaUnit, run_among, unit_from}
use Rattle.payload_core_buffer.specs.declared.frame.Frame.{Frame}
use Rattle.payload_core_buffer.specs.declared.held.RtpMeta.{RtpMeta}
use Rattle.rtp_media_schedules.specs.Bare.{bare_answer, bare_meta, bare_packet}
use Rattle.rtp_media_schedules.specs.Bare.{bare_unit}

abbrev unit_by : RtpMeta → RtpMeta → List ℕ → CodecExtra → MediaUnit
unit_by a b bytes extra = record {
  first = a.seq_no;
  last = b.seq_no;
  time = a.time;
  values = b.ext_vals;
  bytes = bytes;
  extra = extra;
}

pub same-length : (ps : List Packet) → length (map bare_packet ps) ≡ length ps
same-length [] = refl
same-length (p ∷ ps) = ap suc (same-length ps)

-- the packet at a place
pub at-place : (ps : List Packet) (k : ℕ) → packet_at (map bare_packet ps) k ≡ bare_packet (packet_at ps k)
at-place [] k = refl
at-place (p ∷ ps) zero = refl
at-place (p ∷ ps) (suc k) = at-place ps k

pub number-same : (ps : List Packet) (k : ℕ) → number_at (map bare_packet ps) k ≡ number_at ps k
number-same ps k = ap (λ (p : Packet). p.meta.seq_no) (at-place ps k)

-- complete frames
module _ (format : Format) (ps : List Packet) where
  head-same : (k : ℕ) → is_head_at format (map bare_packet ps) k ≡ is_head_at format ps k
  head-same k = ap (λ (p : Packet). format.head p.payload) (at-place ps k)

  tail-same : (k : ℕ) → is_tail_at format (map bare_packet ps) k ≡ is_tail_at format ps k
  tail-same k = ap (λ (p : Packet). format.tail p.meta.marker p.payload) (at-place ps k)

  joined-same : (k : ℕ) → is_joined_at format (map bare_packet ps) k ≡ is_joined_at format ps k
  joined-same zero = refl
  joined-same (suc k) = ap₂ (λ (p q : Packet). goes_on format p q) (at-place ps k) (at-place ps (suc k))

  run-same : (k : ℕ) → run_start format (map bare_packet ps) k ≡ run_start format ps k
  run-same zero = refl
  run-same (suc k) =
      ap (λ (h : Bool). run_or_head (kept_run (is_joined_at format (map bare_packet ps) k)
      (run_start format (map bare_packet ps) k)) h k) (head-same k)
      ∙ ap₂ (λ (j : Bool) (r : Option ℕ). run_or_head (kept_run j r) (is_head_at format ps k) k) (joined-same k)
      (run-same k)

  frame-same : (k : ℕ) → frame_at format (map bare_packet ps) k ≡ frame_at format ps k
  frame-same k =
      ap₂ (λ (t : Bool) (r : Option ℕ). frame_of_run t r (k + 1)) (tail-same k) (run-same (k + 1))

  frames-same : (xs : List ℕ) → filter_map (frame_at format (map bare_packet ps)) xs
      ≡ filter_map (frame_at format ps) xs
  frames-same [] = refl
  frames-same (x ∷ xs) = ap₂ (λ (o : Option Frame) (fs : List Frame). cons_option o fs) (frame-same x) (frames-same xs)

  complete-same : complete_frames format (map bare_packet ps) ≡ complete_frames format ps
  unfolding frames_among
  complete-same =
      frames-same (range_with_len 0 (length (map bare_packet ps)))
      ∙ ap (λ (n : ℕ). filter_map (frame_at format ps) (range_with_len 0 n)) (same-length ps)

  due-of-same : (cutoff : Option ℕ) (hold_back : ℕ) (f : Option Frame) (n : ℕ)
      → due_of cutoff hold_back (map bare_packet ps) f n ≡ due_of cutoff hold_back ps f n
  due-of-same cutoff hold_back None n = refl
  due-of-same cutoff hold_back (Some f) n =
      ap (λ (x : ℕ). if is_next cutoff x || nat_lt hold_back n then Some f else None) (number-same ps f.start)

  pub due-frame-same : (cutoff : Option ℕ) (hold_back : ℕ)
      → due_frame format cutoff hold_back (map bare_packet ps) ≡ due_frame format cutoff hold_back ps
  due-frame-same cutoff hold_back =
      due-of-same cutoff hold_back (lowest_of (complete_frames format (map bare_packet ps)))
      (length (complete_frames format (map bare_packet ps)))
      ∙ ap (λ (fs : List Frame). due_of cutoff hold_back ps (lowest_of fs) (length fs)) complete-same

-- what is read
range-same : (ps : List Packet) (a b : ℕ) → slice_range (map bare_packet ps) a b ≡ map bare_packet (slice_range ps a b)
range-same ps a b =
    ap (λ (qs : List Packet). take (b - a) qs) (drop-map bare_packet a ps) ∙ take-map bare_packet (b - a) (drop a ps)

payloads-same : (ps : List Packet) → payloads_of (map bare_packet ps) ≡ payloads_of ps
payloads-same [] = refl
payloads-same (p ∷ ps) = ap (λ (xs : List (List ℕ)). p.payload ∷ xs) (payloads-same ps)

pub run-among-same : (format : Format) (fragment : Fragment) (ps : List Packet) (f : Frame)
    → run_among format fragment (map bare_packet ps) f ≡ run_among format fragment ps f
run-among-same format fragment ps f =
    ap (run_of format fragment) (range-same ps f.start f.end)
    ∙ ap (λ (xs : List (List ℕ)). read_all format fragment no_extra xs) (payloads-same (packets_between ps f))

metas-same : (ps : List Packet) → metas_of (map bare_packet ps) ≡ map bare_meta (metas_of ps)
metas-same [] = refl
metas-same (p ∷ ps) = ap (λ (xs : List RtpMeta). bare_meta p.meta ∷ xs) (metas-same ps)

meta-same : (ms : List RtpMeta) (k : ℕ) → meta_at (map bare_meta ms) k ≡ bare_meta (meta_at ms k)
meta-same [] k = refl
meta-same (m ∷ ms) zero = refl
meta-same (m ∷ ms) (suc k) = meta-same ms k

pub length-metas : (ms : List RtpMeta) → length (map bare_meta ms) ≡ length ms
length-metas [] = refl
length-metas (m ∷ ms) = ap suc (length-metas ms)

unit-same : (ms : List RtpMeta) (bytes : List ℕ) (extra : CodecExtra)
    → unit_from (map bare_meta ms) bytes extra ≡ bare_unit (unit_from ms bytes extra)
unit-same ms bytes extra =
    ap (λ (n : ℕ). unit_by (meta_at (map bare_meta ms) 0) (meta_at (map bare_meta ms) (n - 1)) bytes extra)
    (length-metas ms)
    ∙ ap₂ (λ (a b : RtpMeta). unit_by a b bytes extra) (meta-same ms 0) (meta-same ms (length ms - 1))

answer-by-same : (fault : Option PacketError) (ms : List RtpMeta) (bytes : List ℕ) (extra : CodecExtra)
    → answer_by fault (map bare_meta ms) bytes extra ≡ bare_answer (answer_by fault ms bytes extra)
answer-by-same None ms bytes extra = ap (λ (u : MediaUnit). Ok (Some u)) (unit-same ms bytes extra)
answer-by-same (Some e) ms bytes extra = refl

pub answer-same : (format : Format) (fragment : Fragment) (ps : List Packet) (f : Option Frame)
    → answer_among format fragment (map bare_packet ps) f ≡ bare_answer (answer_among format fragment ps f)
answer-same format fragment ps None = refl
answer-same format fragment ps (Some f) =
    ap₂ (λ (ms : List RtpMeta) (r : Run). answer_of ms r)
    (ap metas_of (range-same ps f.start f.end) ∙ metas-same (packets_between ps f))
    (run-among-same format fragment ps f)
    ∙ answer-by-same (run_among format fragment ps f).fault (metas_of (packets_between ps f))
    (run_among format fragment ps f).written (run_among format fragment ps f).extra
