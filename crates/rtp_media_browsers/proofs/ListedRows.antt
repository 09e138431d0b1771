-- The rows that an answer lists in a section were offered there.
use Rattle.std.proofs.Common.{◌≡◌, ◌∙◌, ap, refl, sym, ℕ, Bool, true, false, not, ◌==◌, cond, List, [], ◌∷◌, ◌++◌}
use Rattle.std.proofs.Common.{Option, None, Some, find, inl, inr}
use Rattle.std.specs.List.{flat_map}
use Rattle.std.specs.Option.{option_map, option_or}
use Rattle.rtp_media_sections.specs.Answered.{has_pt}
use Rattle.sdp_formats_data.specs.declared.media.MediaLine.{MediaLine}
use Rattle.sdp_formats_rounds.specs.Members.{IsEach, IsIn}
use Rattle.sdp_formats_rows.specs.Rows.{Row}
use Rattle.sdp_formats_section_rows.specs.SectionRows.{listed, rows_of}
use Rattle.rtp_media_browsers.specs.Listing.{fits, is_listed, is_other_type, is_same_type, linked_type}
use Rattle.rtp_media_browsers.specs.Listing.{listed_row, row_for, row_listed, rows_listed}
use Rattle.rtp_media_browsers.specs.ListingLaws.{IsLinked, IsOffered}
use Rattle.rtp_media_browsers.proofs.Named.{none_is, some_inside}
use Rattle.rtp_media_browsers.proofs.WithTransport.{both_of}

-- what is found passes
found_by : (p : Row → Bool) (x : Row) (rest : Option Row) (a : Row) (b : Bool) → p x ≡ b
    → (rest ≡ Some a → p a ≡ true) → cond b (Some x) rest ≡ Some a → p a ≡ true
found_by p x rest a true is later h = ap p (sym (some_inside x a h)) ∙ is
found_by p x rest a false is later h = later h

found_passes : (p : Row → Bool) (xs : List Row) (a : Row) → find p xs ≡ Some a → p a ≡ true
found_passes p [] a h = none_is a h
found_passes p (x ∷ xs) a h = found_by p x (find p xs) a (p x) refl (found_passes p xs a) h

either_fits : (os : List Row) (o a : Row) (x y : Option Row) → (x ≡ Some a → is_same_type o a ≡ true)
    → (y ≡ Some a → is_other_type os o a ≡ true) → option_or x y ≡ Some a → fits o a ≡ true
either_fits os o a None y left right h = (both_of (not (has_pt os a.pt)) (fits o a) (right h)).1
either_fits os o a (Some x) y left right h = (both_of (a.pt == o.pt) (fits o a) (left h)).1

row_fits : (os as' : List Row) (o a : Row) → row_for os as' o ≡ Some a → fits o a ≡ true
row_fits os as' o a h =
    either_fits os o a (find (is_same_type o) as') (find (is_other_type os o) as')
    (found_passes (is_same_type o) as' a) (found_passes (is_other_type os o) as' a) h

-- a linked type is offered
linked_by : (types : List ℕ) (u t : ℕ) (b : Bool) → is_listed types u ≡ b → cond b (Some u) None ≡ Some t
    → (Some u ≡ Some t) × (is_listed types t ≡ true)
linked_by types u t true is h = (h, ap (is_listed types) (sym (inside h)) ∙ is) where
  inside : Some u ≡ Some t → u ≡ t
  inside h = cc
linked_by types u t false is h = absurd (cc)

linked : (offered : MediaLine) (there own : Option ℕ) → IsLinked offered (linked_type offered.pts there own) there
linked offered None own t h = absurd (cc)
linked offered (Some u) None t h = absurd (cc)
linked offered (Some u) (Some own) t h = linked_by offered.pts u t (is_listed offered.pts u) refl h

module _ (offered own : MediaLine) (as' : List Row) where
  abbrev pub all : List Row
  all = rows_of offered.pts offered.attrs

  offered_row : (o a : Row) → IsIn o all → is_listed offered.pts o.pt ≡ true → fits o a ≡ true
      → IsOffered offered (listed_row offered own o a)
  offered_row o a one there means = record {
    there = o;
    one_of = one;
    pt = refl;
    listed = there;
    means = means;
    resend = linked offered o.resend a.resend;
    red = linked offered o.red a.red;
    transport_cc = λ h. (both_of _ _ h).0;
    nack = λ h. (both_of _ _ h).0;
    pli = λ h. (both_of _ _ h).0;
    fir = λ h. (both_of _ _ h).0;
    remb = λ h. (both_of _ _ h).0;
  }

  one_by : (o : Row) → IsIn o all → is_listed offered.pts o.pt ≡ true → (w : Option Row) → row_for all as' o ≡ w
      → IsEach (IsOffered offered) (listed (option_map (listed_row offered own o) w))
  one_by o one there None is = tt
  one_by o one there (Some a) is = (offered_row o a one there (row_fits all as' o a is), tt)

  one_if : (o : Row) → IsIn o all → (b : Bool) → is_listed offered.pts o.pt ≡ b
      → IsEach (IsOffered offered) (cond b (listed (option_map (listed_row offered own o) (row_for all as' o))) [])
  one_if o one true is = one_by o one is (row_for all as' o) refl
  one_if o one false is = tt

  one_each : (o : Row) → IsIn o all → IsEach (IsOffered offered) (row_listed offered own all as' o)
  unfolding row_listed
  one_each o one = one_if o one (is_listed offered.pts o.pt) refl

  both_each : (xs ys : List Row) → IsEach (IsOffered offered) xs → IsEach (IsOffered offered) ys
      → IsEach (IsOffered offered) (xs ++ ys)
  both_each [] ys h k = k
  both_each (x ∷ xs) ys h k = (h.0, both_each xs ys h.1 k)

  each_of : (os : List Row) → ((o : Row) → IsIn o os → IsIn o all)
      → IsEach (IsOffered offered) (flat_map (row_listed offered own all as') os)
  each_of [] within = tt
  each_of (o ∷ os) within =
      both_each (row_listed offered own all as' o) (flat_map (row_listed offered own all as') os)
      (one_each o (within o (inl refl))) (each_of os (λ x there. within x (inr there)))

pub each_offered : (offered own : MediaLine) → IsEach (IsOffered offered) (rows_listed offered own)
each_offered offered own =
    each_of offered own (rows_of own.pts own.attrs) (rows_of offered.pts offered.attrs) (λ o there. there)
