-- Packets lost, and pages of those that are heard.
use Rattle.std.proofs.Common.{◌≡◌, ◌++◌, ◌+◌, ◌-◌, ◌<◌, ◌≤◌, ◌==◌, suc, zero, ℕ, Bool, true, false, List, [], ◌∷◌}
use Rattle.std.proofs.Common.{length, map, get_or, drop, refl, sym, ap, ◌∙◌, subst, append_assoc, Option, Some, None}
use Rattle.std.proofs.Common.{is_some, Bor, drop-cons, add-one, arith, unwrap_or, Any}
use Rattle.std.proofs.lemmas.List.{get_or-map, length-map}
use Rattle.media_files.specs.Opus.{from_sound, item, sound, if_sound, is_sound, opus_head, opus_tags, Stream, IsLong}
use Rattle.media_files.specs.Opus.{kept_of, is_empty, sound_pages, sound_page, playing, playing_after, opus_duration}
use Rattle.media_files.specs.Opus.{heard_of, opus_file, head_page, tags_page}
use Rattle.media_files.specs.Ogg.{page, flags_of}
use Rattle.media_files_captures.specs.Numbers.{u16_le, u32_le}

pub is_some-if_sound : (b : Bool) (p : List ℕ) → is_some (if_sound b p) ≡ b
is_some-if_sound true p = refl
is_some-if_sound false p = refl

pub from_sound-lost : (x : Option (List ℕ)) (xs : List (Option (List ℕ))) → is_some (sound x) ≡ false
    → from_sound (x ∷ xs) ≡ from_sound xs
unfolding sound
from_sound-lost None xs lost = refl
from_sound-lost (Some p) xs lost =
    let none : is_sound p ≡ false = sym (is_some-if_sound (is_sound p) p) ∙ lost in
    rw none refl

pub from_sound-found : (x : Option (List ℕ)) (xs : List (Option (List ℕ))) → is_some (sound x) ≡ true
    → from_sound (x ∷ xs) ≡ x ∷ xs
unfolding sound
from_sound-found None xs found = cc
from_sound-found (Some p) xs found =
    let one : is_sound p ≡ true = sym (is_some-if_sound (is_sound p) p) ∙ found in
    rw one refl

-- the packets from a place on
pub items-from : (packets : List (Option (Bor (List ℕ)))) (i : ℕ) (d : Option (Bor (List ℕ))) → i < length packets
    → map item (drop i packets) ≡ item (get_or packets i d) ∷ map item (drop (i + 1) packets)
items-from packets i d below = rw (add-one, drop-cons packets i d) refl

pub length-opus_head : (s : Stream) → length (opus_head s) ≡ 19
unfolding opus_head u16_le u32_le
length-opus_head s = refl

pub length-opus_tags : length opus_tags ≡ 27
unfolding opus_tags u32_le
length-opus_tags = refl

-- a long packet that came whole
pub long-sound : (x : Option (List ℕ)) → IsLong (sound x) → IsLong x
unfolding sound
long-sound None long = long
long-sound (Some p) long = go (is_sound p) long where
  go : (b : Bool) → IsLong (if_sound b p) → IsLong (Some p)
  go true l = l
  go false l = absurd l

-- what stays the last whole packet
pub kept-is : (found : Option (Bor (List ℕ))) (previous : Bor (List ℕ))
    → (unwrap_or found previous).now ≡ kept_of (item found) previous.now
kept-is None previous = refl
kept-is (Some p) previous = refl

-- whether any packet is left
pub none-left : (packets : List (Option (Bor (List ℕ)))) (n : ℕ) → n ≤ length packets
    → is_empty (map item (drop n packets)) ≡ (n == length packets)
none-left [] zero within = refl
none-left (p ∷ packets) zero within = grind arith
none-left [] (suc n) within = absurd (omega arith)
none-left (p ∷ packets) (suc n) within = none-left packets n (omega arith) ∙ grind arith

pub is_some-item : (r : Option (Bor (List ℕ))) → is_some (item r) ≡ is_some r
is_some-item None = refl
is_some-item (Some p) = refl

pub lost-more : (packets : List (Option (Bor (List ℕ)))) (i : ℕ) (d r : Option (Bor (List ℕ))) → i < length packets
    → item r ≡ sound (item (get_or packets i d)) → is_some r ≡ false
    → from_sound (map item (drop i packets)) ≡ from_sound (map item (drop (i + 1) packets))
lost-more packets i d r below read none =
    rw (items-from packets i d below)
    (from_sound-lost (item (get_or packets i d)) (map item (drop (i + 1) packets))
    (ap (λ (o : Option (List ℕ)). is_some o) (sym read) ∙ is_some-item r ∙ none))

pub lost-found : (packets : List (Option (Bor (List ℕ)))) (i : ℕ) (d r : Option (Bor (List ℕ))) → i < length packets
    → item r ≡ sound (item (get_or packets i d)) → is_some r ≡ true
    → from_sound (map item (drop i packets)) ≡ map item (drop i packets)
lost-found packets i d r below read one =
    rw (items-from packets i d below)
    (from_sound-found (item (get_or packets i d)) (map item (drop (i + 1) packets))
    (ap (λ (o : Option (List ℕ)). is_some o) (sym read) ∙ is_some-item r ∙ one))

-- a long packet among those that are heard
pub long-among : (packets : List (Option (Bor (List ℕ)))) (i : ℕ) (d r : Option (Bor (List ℕ))) → i < length packets
    → item r ≡ sound (item (get_or packets i d)) → IsLong (item r) → Any IsLong (map item packets)
long-among packets i d r below read long = (
  i,
  item (get_or packets i d),
  rw length-map below,
  get_or-map item packets i d (item (get_or packets i d)) below,
  long-sound (item (get_or packets i d)) (subst IsLong read long),
)

-- a page more
page-more : (serial g s k : ℕ) (p q : List ℕ) (x y : Option (List ℕ)) (rest : List (Option (List ℕ))) (b : Bool)
    (out written whole : List ℕ) → y ≡ sound x → q ≡ kept_of y p → k ≡ opus_duration q → is_empty rest ≡ b
    → written ≡ out ++ page (record { flags = flags_of false b; granule = g + k; serial = serial; sequence = s })
    (heard_of y p)
    → out ++ sound_pages serial (playing p g s) (x ∷ rest) ≡ whole
    → written ++ sound_pages serial (playing q (g + k) (s + 1)) rest ≡ whole
page-more serial g s k p q x y rest b out written whole heard kept long last added before =
    let back : s + 1 - 1 ≡ s = omega arith in
    cc (
      append_assoc out (sound_page serial (playing p g s) x (is_empty rest))
          (sound_pages serial (playing_after (playing p g s) x) rest),
      back,
    )

pub pages-more : (serial g s k : ℕ) (packets : List (Option (Bor (List ℕ)))) (i : ℕ) (d found : Option (Bor (List ℕ)))
    (previous kept : Bor (List ℕ)) (out written whole : List ℕ) → i < length packets
    → item found ≡ sound (item (get_or packets i d)) → kept ≡ unwrap_or found previous
    → k ≡ opus_duration kept.now
    → written ≡ out ++ page (record {
      flags = flags_of false ((i + 1) == length packets);
      granule = g + k;
      serial = serial;
      sequence = s;
    }) (heard_of (item found) previous.now)
    → out ++ sound_pages serial (playing previous.now g s) (map item (drop i packets)) ≡ whole
    → written ++ sound_pages serial (playing kept.now (g + k) (s + 1)) (map item (drop (i + 1) packets)) ≡ whole
pages-more serial g s k packets i d found previous kept out written whole below heard is_kept long added before =
    page-more serial g s k previous.now kept.now (item (get_or packets i d)) (item found)
    (map item (drop (i + 1) packets)) ((i + 1) == length packets) out written whole heard
    (ap (λ (b : Bor (List ℕ)). b.now) is_kept ∙ kept-is found previous) long
    (none-left packets (i + 1) (omega arith)) added
    (ap (λ xs. out ++ sound_pages serial (playing previous.now g s) xs) (sym (items-from packets i d below)) ∙ before)

pub none-at-all : (packets : List (Option (Bor (List ℕ)))) → is_empty (map item packets) ≡ (length packets == 0)
none-at-all [] = refl
none-at-all (p ∷ packets) = grind arith

-- the pages of a whole file
pub opus_file-is : (s : Stream) (packets : List (Option (List ℕ))) (heard : List (Option (Bor (List ℕ)))) (b : Bool)
    (fresh heads tags out : List ℕ) → fresh ≡ [] → heads ≡ fresh ++ head_page s
    → tags ≡ heads ++ tags_page s.serial b
    → out ≡ tags ++ sound_pages s.serial (playing [] 0 2) (map item heard)
    → b ≡ (length heard == 0) → map item heard ≡ from_sound packets
    → out ≡ opus_file s packets
unfolding opus_file
opus_file-is s packets heard b fresh heads tags out none headed tagged made last same =
    let is_last : b ≡ is_empty (from_sound packets) =
    last ∙ sym (none-at-all heard) ∙ ap (λ (ps : List (Option (List ℕ))). is_empty ps) same in
    let head : heads ≡ head_page s = headed ∙ ap (λ (v : List ℕ). v ++ head_page s) none in
    let pages : List ℕ = sound_pages s.serial (playing [] 0 2) (from_sound packets) in
    let parts : out ≡ (head_page s ++ tags_page s.serial b) ++ pages =
    cc in
    parts ∙ append_assoc (head_page s) (tags_page s.serial b) pages
    ∙ ap (λ (x : Bool). head_page s ++ (tags_page s.serial x ++ pages)) is_last
