-- Sections by their names.
use Rattle.std.proofs.Common.{◌≡◌, ◌∙◌, ap, sym, refl, ℕ, Bool, true, false, ◌&&◌, ◌||◌, List, [], ◌∷◌, None}
use Rattle.std.proofs.Common.{Some, cond}
use Rattle.std.specs.Cmp.Lexicographic.{bytes_decides}
use Rattle.rtp_media_sections.specs.Lines.{mid_of}
use Rattle.sdp_formats_data.specs.declared.media.MediaLine.{MediaLine}
use Rattle.rtp_media_browsers.specs.Following.{has_name, section_named}
use Rattle.rtp_media_browsers.specs.Names.{is_among, mids_of}

pub not_true : {A : Type 0} → false ≡ true → A
not_true h = cc

pub both : (a b : Bool) → a ≡ true → b ≡ true → (a && b) ≡ true
both a b x y = rw (x, y) refl

pub some_inside : {A : Type 0} (x y : A) → Some x ≡ Some y → x ≡ y
some_inside x y h = cc

pub none_is : {A B : Type 0} (x : A) → None ≡ Some x → B
none_is x h = cc

found_step : (x : MediaLine) (xs : List MediaLine) (mid : List ℕ) (m : MediaLine)
    → (section_named xs mid ≡ Some m → mid_of m ≡ mid) → (b : Bool) → has_name mid x ≡ b
    → cond b (Some x) (section_named xs mid) ≡ Some m → mid_of m ≡ mid
found_step x xs mid m rest true is h =
    sym (ap mid_of (some_inside x m h)) ∙ sym ((bytes_decides mid (mid_of x)).0 is)
found_step x xs mid m rest false is h = rest h

-- the section that is found has the name
pub found_name : (ms : List MediaLine) (mid : List ℕ) (m : MediaLine) → section_named ms mid ≡ Some m → mid_of m ≡ mid
found_name [] mid m h = none_is m h
found_name (x ∷ xs) mid m h = found_step x xs mid m (found_name xs mid m) (has_name mid x) refl h

among_step : (x : MediaLine) (xs : List MediaLine) (mid : List ℕ)
    → (is_among (mids_of xs) mid ≡ true → (m : MediaLine) × (section_named xs mid ≡ Some m)) → (b : Bool)
    → (b || is_among (mids_of xs) mid) ≡ true → (m : MediaLine) × (cond b (Some x) (section_named xs mid) ≡ Some m)
among_step x xs mid rest true h = (x, refl)
among_step x xs mid rest false h = rest h

-- a name that is among those of sections is that of one
pub is_found_among : (ms : List MediaLine) (mid : List ℕ) → is_among (mids_of ms) mid ≡ true
    → (m : MediaLine) × (section_named ms mid ≡ Some m)
is_found_among [] mid h = not_true h
is_found_among (x ∷ xs) mid h = among_step x xs mid (is_found_among xs mid) (has_name mid x) h
