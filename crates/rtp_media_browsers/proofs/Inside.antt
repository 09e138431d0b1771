-- The sections of an end's text are in its bundle.
use Rattle.std.proofs.Common.{◌≡◌, ◌⊎◌, ◌==◌, ◌&&◌, ◌||◌, ap, refl, sym, subst, ℕ, Bool, true, false, not, cond, length}
use Rattle.std.proofs.Common.{List, [], ◌∷◌, Option, None, Some, inl, inr}
use Rattle.std.specs.Cmp.Lexicographic.{nat_list_eq_equiv}
use Rattle.std.specs.Option.{option_or, unwrap_or}
use Rattle.std.proofs.lemmas.Bool.{or_right}
use Rattle.rtp_media_sections.specs.Lines.{mid_of}
use Rattle.sdp_formats_data.specs.Lookups.{first_of}
use Rattle.sdp_formats_data.specs.WholeTexts.{is_name}
use Rattle.sdp_formats_data.specs.declared.media.MediaLine.{MediaLine}
use Rattle.sdp_formats_data.specs.declared.session.SessionAttribute.{SessionAttribute}
use Rattle.sdp_formats_data.specs.declared.session.SessionAttribute.TheVariants.{Group}
use Rattle.rtp_media_browsers.specs.Laws.{AreBundlesOf, IsBundleOf}
use Rattle.rtp_media_browsers.specs.Lines.{bundle_in, is_bundle_name}
use Rattle.rtp_media_browsers.specs.Names.{is_among, mids_of}
use Rattle.rtp_media_browsers.proofs.Placed.{AreInside}

abbrev pub bundle_of : List SessionAttribute → List (List ℕ)
bundle_of as' = unwrap_or (first_of bundle_in as') []

abbrev IsEither : List (List ℕ) → List (List ℕ) → Type 0
IsEither names bundle = (bundle ≡ []) ⊎ (bundle ≡ names)

group_by : (names mids rest : List (List ℕ)) (o : Option (List (List ℕ))) (b : Bool) → (b ≡ true → mids ≡ names)
    → IsEither names (unwrap_or o []) → IsEither names (unwrap_or (option_or (cond b (Some mids) None) o) [])
group_by names mids rest o true same later = inr (same refl)
group_by names mids rest o false same later = later

either_bundle : (names : List (List ℕ)) (as' : List SessionAttribute) → AreBundlesOf names as'
    → IsEither names (bundle_of as')
unfolding bundle_in IsBundleOf
either_bundle names [] h = inl refl
either_bundle names (Group typ mids ∷ as') h =
    group_by names mids [] (first_of bundle_in as') (is_bundle_name typ) h.0 (either_bundle names as' h.1)
either_bundle names (_ ∷ as') h = either_bundle names as' h.1

not_outside : (a b : Bool) → b ≡ true → (a && not b) ≡ false
not_outside true true h = refl
not_outside false true h = refl
not_outside a false h = absurd (cc)

inside_names : (names : List (List ℕ)) (ms : List MediaLine)
    → ((name : List ℕ) → is_among (mids_of ms) name ≡ true → is_among names name ≡ true) → AreInside names ms
inside_names names [] within = tt
inside_names names (m ∷ ms) within = (
  not_outside (not (length names == 0)) (is_among names (mid_of m))
      (within (mid_of m) (ap (λ b. b || is_among (mids_of ms) (mid_of m)) (nat_list_eq_equiv.refl (mid_of m)))),
  inside_names names ms (λ name there. within name (or_right (is_name name (mid_of m)) (is_among (mids_of ms) name)
      there)),
)

inside_none : (ms : List MediaLine) → AreInside [] ms
inside_none [] = tt
inside_none (m ∷ ms) = (refl, inside_none ms)

inside_by : (names bundle : List (List ℕ)) (ms : List MediaLine) → mids_of ms ≡ names → IsEither names bundle
    → AreInside bundle ms
inside_by names bundle ms same (inl none) = subst (λ x. AreInside x ms) (sym none) (inside_none ms)
inside_by names bundle ms same (inr is) =
    subst (λ x. AreInside x ms) (sym is)
    (inside_names names ms (λ name there. subst (λ x. is_among x name ≡ true) same there))

pub are_inside : (names : List (List ℕ)) (as' : List SessionAttribute) (ms : List MediaLine) → mids_of ms ≡ names
    → AreBundlesOf names as' → AreInside (bundle_of as') ms
are_inside names as' ms same h = inside_by names (bundle_of as') ms same (either_bundle names as' h)
