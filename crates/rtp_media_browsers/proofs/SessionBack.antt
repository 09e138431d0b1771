-- The session for a browser, as an end reads it again.
use Rattle.std.proofs.Common.{◌≡◌, ◌∙◌, ap, sym, refl, ℕ, Bool, true, false, not, ◌||◌, List, [], ◌∷◌, ◌++◌, map}
use Rattle.std.proofs.Common.{filter}
use Rattle.std.proofs.Common.{cond, append-nil}
use Rattle.std.specs.List.{list_all}
use Rattle.std.proofs.lemmas.List.Elements.{filter-append}
use Rattle.sdp_formats_data.specs.declared.session.Session.{Session}
use Rattle.sdp_formats_data.specs.declared.session.SessionAttribute.{SessionAttribute}
use Rattle.sdp_formats_data.specs.declared.session.SessionAttribute.TheVariants as session
use Rattle.rtp_media_browsers.specs.ForBrowsers.{bundled_as, session_with_transport, lite_line, mixed_line}
use Rattle.rtp_media_browsers.specs.ForEnds.{end_session, restricted}
use Rattle.rtp_media_browsers.specs.Laws.{AreBundlesOf, IsBundleOf, names_only}
use Rattle.rtp_media_browsers.specs.Lines.{is_bundle_name, is_session_transport}
use Rattle.rtp_media_browsers.specs.Lines.{stays_in_session}
use Rattle.rtp_media_browsers.specs.Names.{is_among}
use Rattle.rtp_media_browsers.proofs.WithTransport.{both_of}
use Rattle.rtp_media_browsers.proofs.Returning.{all_kept}

mixed_goes : (mixed : Bool) → filter stays_in_session (mixed_line mixed) ≡ []
unfolding is_session_transport
mixed_goes true = refl
mixed_goes false = refl

lite_goes : (lite : Bool) → filter stays_in_session (lite_line lite) ≡ []
unfolding is_session_transport
lite_goes true = refl
lite_goes false = refl

-- lines that go leave nothing after others
goes : (xs ys : List SessionAttribute) → filter stays_in_session ys ≡ []
    → filter stays_in_session (xs ++ ys) ≡ filter stays_in_session xs
goes xs ys h =
    filter-append stays_in_session xs ys
    ∙ ap (λ (zs : List SessionAttribute). filter stays_in_session xs ++ zs) h
    ∙ append-nil (filter stays_in_session xs)

group_same : (names mids : List (List ℕ)) (bundles : Bool) → (not bundles || list_all (is_among names) mids) ≡ true
    → cond bundles (filter (is_among names) mids) mids ≡ mids
group_same names mids true h = all_kept (is_among names) mids h
group_same names mids false h = refl

restricted_same : (names : List (List ℕ)) (a : SessionAttribute) → names_only names a ≡ true → restricted names a ≡ a
unfolding restricted names_only
restricted_same names (session.Group typ mids) h = ap (session.Group typ) (group_same names mids (is_bundle_name typ) h)
restricted_same names _ h = refl

all_restricted : (names : List (List ℕ)) (as' : List SessionAttribute) → list_all (names_only names) as' ≡ true
    → map (restricted names) as' ≡ as'
all_restricted names [] h = refl
all_restricted names (a ∷ as') h =
    let here = both_of (names_only names a) (list_all (names_only names) as') h in
    λ i. restricted_same names a here.0 i ∷ all_restricted names as' here.1 i

group_of : (names mids : List (List ℕ)) (bundles : Bool) → (bundles ≡ true → mids ≡ names)
    → cond bundles names mids ≡ mids
group_of names mids true h = sym (h refl)
group_of names mids false h = refl

bundled_same : (names : List (List ℕ)) (a : SessionAttribute) → IsBundleOf names a → bundled_as names a ≡ a
unfolding bundled_as IsBundleOf
bundled_same names (session.Group typ mids) h = ap (session.Group typ) (group_of names mids (is_bundle_name typ) h)
bundled_same names _ h = refl

all_bundled : (names : List (List ℕ)) (as' : List SessionAttribute) → AreBundlesOf names as'
    → map (bundled_as names) as' ≡ as'
all_bundled names [] h = refl
all_bundled names (a ∷ as') h = λ i. bundled_same names a h.0 i ∷ all_bundled names as' h.1 i

module _ (names : List (List ℕ)) (s : Session) (stay : list_all stays_in_session s.attrs ≡ true)
    (groups : list_all (names_only names) s.attrs ≡ true) where
  attributes : map (restricted names) (filter stays_in_session s.attrs) ≡ s.attrs
  attributes =
      ap (map (restricted names)) (all_kept stays_in_session s.attrs stay) ∙ all_restricted names s.attrs groups

  pub session_same : end_session names s ≡ s
  unfolding end_session
  session_same = λ i. record s { attrs = attributes i }

  without_lines : (mixed lite : Bool) → filter stays_in_session (s.attrs ++ mixed_line mixed ++ lite_line lite)
      ≡ filter stays_in_session s.attrs
  without_lines mixed lite =
      goes (s.attrs ++ mixed_line mixed) (lite_line lite) (lite_goes lite)
      ∙ goes s.attrs (mixed_line mixed) (mixed_goes mixed)

  pub session_back : AreBundlesOf names s.attrs → (mixed lite : Bool)
      → end_session names (session_with_transport names mixed lite s) ≡ s
  unfolding end_session session_with_transport
  session_back bundles mixed lite =
      let same = all_bundled names s.attrs bundles in
      let attrs = ap (λ (as' : List SessionAttribute). map (restricted names) (filter stays_in_session
      (as' ++ mixed_line mixed ++ lite_line lite))) same
      ∙ ap (map (restricted names)) (without_lines mixed lite) ∙ attributes in
      λ i. record s { attrs = attrs i }
