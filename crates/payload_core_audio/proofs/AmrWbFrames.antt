-- Frames of a packet one after the other, and each by its place.
use Rattle.std.proofs.Common.{◌≡◌, ℕ, zero, suc, ◌+◌, ◌*◌, ◌/◌, ◌≤◌, Bool, true, false, leb, List, [], ◌∷◌}
use Rattle.std.proofs.Common.{◌++◌, length, take, slice_get, flat_map, Option, Some, None, if◌then◌else◌, refl, sym}
use Rattle.std.proofs.Common.{ap, subst, ◌∙◌, add_assoc, arith}
use Rattle.std.proofs.lemmas.List.Sums.{sum_by-cons}
use Rattle.payload_core_audio.specs.AmrWb.{behind, entry_place, field_size, frame_then, frames_from, header_at}
use Rattle.payload_core_audio.specs.AmrWb.{speech_bits, speech_of}
use Rattle.payload_core_audio.specs.AmrWbLayout.{Frame, IsFrameAt, field_bits, fields_bits, frame_bytes}
use Rattle.payload_core_audio.proofs.AmrWbLemmas.{behind_none, frames_go, is_room}

-- frames whose entries begin with the k-th, and whose speech is from a place on and ends within the packet
abbrev pub Stand : Bool → List ℕ → ℕ → ℕ → List Frame → Type 0
Stand o packet k place [] = Unit {0}
Stand o packet k place (f ∷ fs) = IsFrameAt packet (entry_place o k) place f
    × (place + field_bits o f ≤ 8 * length packet) × Stand o packet (k + 1) (place + field_bits o f) fs

-- such frames are read
pub frames_come : (o : Bool) (packet : List ℕ) (k place : ℕ) (fs : List Frame) → Stand o packet k place fs
    → frames_from o packet (length fs) k place ≡ Some (flat_map frame_bytes fs)
frames_come o packet k place [] s = refl
frames_come o packet k place (f ∷ fs) s =
    sym (behind_none (frames_from o packet (suc (length fs)) k place))
    ∙ frames_go o packet (length fs) k place f.header [] s.0.header f.size (sym s.0.size) s.1
    ∙ ap (behind (f.header ∷ speech_of packet place f.size))
    (frames_come o packet (k + 1) (place + field_bits o f) fs s.2)
    ∙ ap (λ (speech : List ℕ). Some ((f.header ∷ speech) ++ flat_map frame_bytes fs)) (sym s.0.speech)

-- and what is read is so many of them
abbrev pub AreRead : Bool → List ℕ → ℕ → ℕ → ℕ → List ℕ → Type 0
AreRead o packet n k place bytes = (fs : List Frame) × (length fs ≡ n) × Stand o packet k place fs
    × (bytes ≡ flat_map frame_bytes fs)

module _ (o : Bool) (packet : List ℕ) (n k place : ℕ) (bytes : List ℕ)
    (later : (next : ℕ) (rest : List ℕ) → frames_from o packet n (k + 1) next ≡ Some rest
    → AreRead o packet n (k + 1) next rest) where
  by_rest : (h size : ℕ) → h ≡ header_at packet (entry_place o k) → speech_bits (h / 8) ≡ Some size
      → place + field_size o size ≤ 8 * length packet → (rest : Option (List ℕ))
      → frames_from o packet n (k + 1) (place + field_size o size) ≡ rest
      → behind (h ∷ speech_of packet place size) rest ≡ Some bytes → AreRead o packet (suc n) k place bytes
  by_rest h size header is room None e b = absurd cc
  by_rest h size header is room (Some rest) e b =
      let r = later (place + field_size o size) rest e in
      let f : Frame = record { header = h; size = size; speech = speech_of packet place size } in
      let both : bytes ≡ (h ∷ speech_of packet place size) ++ rest = cc in (
        f ∷ r.0,
        ap suc r.1,
        (record { header = header; size = is; speech = refl }, room, r.2),
        both ∙ ap (λ (others : List ℕ). (h ∷ speech_of packet place size) ++ others) r.3,
      )

  by_room : (h size : ℕ) → h ≡ header_at packet (entry_place o k) → speech_bits (h / 8) ≡ Some size
      → (fits : Bool) → leb (place + field_size o size) (8 * length packet) ≡ fits
      → (if fits then behind (h ∷ speech_of packet place size)
      (frames_from o packet n (k + 1) (place + field_size o size)) else None) ≡ Some bytes
      → AreRead o packet (suc n) k place bytes
  by_room h size header is true e b =
      by_rest h size header is (is_room (place + field_size o size) (8 * length packet) e)
      (frames_from o packet n (k + 1) (place + field_size o size)) refl b
  by_room h size header is false e b = absurd cc

  by_type : (h : ℕ) → h ≡ header_at packet (entry_place o k) → (bits : Option ℕ) → speech_bits (h / 8) ≡ bits
      → frame_then o packet h bits place (λ next. frames_from o packet n (k + 1) next) ≡ Some bytes
      → AreRead o packet (suc n) k place bytes
  by_type h header None is b = absurd cc
  by_type h header (Some size) is b =
      by_room h size header is (leb (place + field_size o size) (8 * length packet)) refl b

pub are_read : (o : Bool) (packet : List ℕ) (n k place : ℕ) (bytes : List ℕ)
    → frames_from o packet n k place ≡ Some bytes → AreRead o packet n k place bytes
are_read o packet zero k place bytes e = let none : bytes ≡ [] = cc in ([], refl, tt, none)
are_read o packet (suc n) k place bytes e =
    let h : ℕ = header_at packet (entry_place o k) in
    by_type o packet n k place bytes (λ next rest. are_read o packet n (k + 1) next rest) h refl (speech_bits (h / 8))
    refl e

-- a frame at other names of its places
pub at_same : (packet : List ℕ) (entry place other next : ℕ) (f : Frame) → entry ≡ other → place ≡ next
    → IsFrameAt packet entry place f → IsFrameAt packet other next f
at_same packet entry place other next f a b at = record {
  header = at.header ∙ ap (header_at packet) a;
  size = at.size;
  speech = at.speech ∙ ap (λ p. speech_of packet p f.size) b;
}

-- the speech of one frame more in front
more_bits : (o : Bool) (place : ℕ) (f : Frame) (fs : List Frame)
    → place + field_bits o f + fields_bits o fs ≡ place + fields_bits o (f ∷ fs)
more_bits o place f fs = add_assoc place (field_bits o f) (fields_bits o fs)
    ∙ ap (λ n. place + n) (sym (sum_by-cons (field_bits o) f fs))

-- the entry and the speech of the j-th frame
abbrev pub IsNext : Bool → List ℕ → ℕ → ℕ → List Frame → ℕ → Frame → Type 0
IsNext o packet k place fs j f =
    IsFrameAt packet (entry_place o (k + j)) (place + fields_bits o (take j fs)) f

next_later : (o : Bool) (packet : List ℕ) (k place : ℕ) (g : Frame) (gs : List Frame) (j : ℕ) (f : Frame)
    → IsNext o packet (k + 1) (place + field_bits o g) gs j f → IsNext o packet k place (g ∷ gs) (suc j) f
next_later o packet k place g gs j f at =
    let entry : k + 1 + j ≡ k + suc j = omega arith in
    at_same packet (entry_place o (k + 1 + j)) (place + field_bits o g + fields_bits o (take j gs))
    (entry_place o (k + suc j)) (place + fields_bits o (g ∷ take j gs)) f (ap (entry_place o) entry)
    (more_bits o place g (take j gs)) at

next_sooner : (o : Bool) (packet : List ℕ) (k place : ℕ) (g : Frame) (gs : List Frame) (j : ℕ) (f : Frame)
    → IsNext o packet k place (g ∷ gs) (suc j) f → IsNext o packet (k + 1) (place + field_bits o g) gs j f
next_sooner o packet k place g gs j f at =
    let entry : k + suc j ≡ k + 1 + j = omega arith in
    at_same packet (entry_place o (k + suc j)) (place + fields_bits o (g ∷ take j gs))
    (entry_place o (k + 1 + j)) (place + field_bits o g + fields_bits o (take j gs)) f (ap (entry_place o) entry)
    (sym (more_bits o place g (take j gs))) at

-- frames that are so are each at their places
pub each_stands : (o : Bool) (packet : List ℕ) (k place : ℕ) (fs : List Frame) → Stand o packet k place fs → (j : ℕ)
    (f : Frame) → slice_get fs j ≡ Some f → IsNext o packet k place fs j f
each_stands o packet k place [] s j f e = absurd cc
each_stands o packet k place (g ∷ gs) s zero f e =
    let same : g ≡ f = cc in
    let first : k ≡ k + 0 = omega arith in
    let start : place ≡ place + 0 = omega arith in
    at_same packet (entry_place o k) place (entry_place o (k + 0)) (place + 0) f (ap (entry_place o) first) start
    (subst (λ (x : Frame). IsFrameAt packet (entry_place o k) place x) same s.0)
each_stands o packet k place (g ∷ gs) s (suc j) f e =
    next_later o packet k place g gs j f
    (each_stands o packet (k + 1) (place + field_bits o g) gs s.2 j f e)

-- and end within the packet
pub stand_within : (o : Bool) (packet : List ℕ) (k place : ℕ) (fs : List Frame) → place ≤ 8 * length packet
    → Stand o packet k place fs → place + fields_bits o fs ≤ 8 * length packet
stand_within o packet k place [] le s = let none : place ≡ place + 0 = omega arith in
    subst (λ n. n ≤ 8 * length packet) none le
stand_within o packet k place (g ∷ gs) le s = subst (λ n. n ≤ 8 * length packet) (more_bits o place g gs)
    (stand_within o packet (k + 1) (place + field_bits o g) gs s.1 s.2)

-- what is in front of others that fit
pub front_fits : (a b c : ℕ) → a + b ≤ c → a ≤ c
front_fits a b c le = omega arith

-- frames that are each at their places, and end within the packet, are so
pub stand_by : (o : Bool) (packet : List ℕ) (k place : ℕ) (fs : List Frame)
    → ((j : ℕ) (f : Frame) → slice_get fs j ≡ Some f → IsNext o packet k place fs j f)
    → place + fields_bits o fs ≤ 8 * length packet → Stand o packet k place fs
stand_by o packet k place [] each within = tt
stand_by o packet k place (g ∷ gs) each within =
    let first : k + 0 ≡ k = omega arith in
    let start : place + 0 ≡ place = omega arith in
    let rest : place + field_bits o g + fields_bits o gs ≤ 8 * length packet =
    subst (λ n. n ≤ 8 * length packet) (sym (more_bits o place g gs)) within in (
      at_same packet (entry_place o (k + 0)) (place + 0) (entry_place o k) place g (ap (entry_place o) first) start
          (each 0 g refl),
      front_fits (place + field_bits o g) (fields_bits o gs) (8 * length packet) rest,
      stand_by o packet (k + 1) (place + field_bits o g) gs
          (λ j f e. next_sooner o packet k place g gs j f (each (suc j) f e)) rest,
    )
