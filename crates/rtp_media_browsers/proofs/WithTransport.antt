-- Lines of a section with the transport's.
use Rattle.std.proofs.Common.{◌≡◌, ◌∙◌, ap, refl, Bool, true, false, ◌&&◌, List, [], ◌∷◌, ◌++◌, map}
use Rattle.std.proofs.Common.{filter}
use Rattle.std.proofs.Common.{Option, None, cond, append_assoc}
use Rattle.std.specs.List.{flat_map, list_all}
use Rattle.std.specs.Option.{option_or}
use Rattle.sdp_formats_data.specs.Lookups.{first_of}
use Rattle.sdp_formats_data.specs.Media.{is_mid}
use Rattle.sdp_formats_data.specs.declared.media.MediaAttribute.{MediaAttribute}
use Rattle.sdp_formats_data.specs.declared.media.MediaAttribute.TheVariants as line
use Rattle.sdp_formats_values.specs.declared.candidate.Candidate.{Candidate}
use Rattle.rtp_media_browsers.specs.ForBrowsers.{attribute_with_transport, gathering_lines, transport_lines}
use Rattle.rtp_media_browsers.specs.Lines.{is_transport}
use Rattle.rtp_media_browsers.specs.declared.transport.Gathering.{Gathering}
use Rattle.rtp_media_browsers.specs.declared.transport.Gathering.TheVariants.{Trickling, Done}
use Rattle.rtp_media_browsers.specs.declared.transport.Transport.{Transport}

not_both : {A : Type 0} → false ≡ true → A
not_both h = cc

pub both_of : (a b : Bool) → (a && b) ≡ true → (a ≡ true) × (b ≡ true)
both_of true b h = (refl, h)
both_of false b h = absurd (not_both h)

candidates_are : (cs : List Candidate) (ls : List MediaAttribute) → list_all is_transport ls ≡ true
    → list_all is_transport (map line.Candidate cs ++ ls) ≡ true
unfolding is_transport
candidates_are [] ls h = h
candidates_are (c ∷ cs) ls h = candidates_are cs ls h

gathering_are : (g : Gathering) (ls : List MediaAttribute) → list_all is_transport ls ≡ true
    → list_all is_transport (gathering_lines g ++ ls) ≡ true
unfolding is_transport gathering_lines
gathering_are Trickling ls h = h
gathering_are (Done cs) ls h = rw append_assoc (candidates_are cs (line.EndOfCandidates ∷ ls) h)

pub transport_are : (t : Transport) → list_all is_transport (transport_lines t) ≡ true
unfolding is_transport transport_lines
transport_are t =
    gathering_are t.gathering (line.Fingerprint t.fingerprint ∷ line.Setup t.setup ∷ line.RtcpMux ∷ []) refl

-- lines after an attribute that are there or not
abbrev maybe_lines : Transport → Bool → List MediaAttribute
maybe_lines t b = cond b (transport_lines t) []

maybe_are : (t : Transport) (b : Bool) → list_all is_transport (maybe_lines t b) ≡ true
maybe_are t true = transport_are t
maybe_are t false = refl

module _ {A : Type 0} (f : MediaAttribute → List A) (silent : (a : MediaAttribute) → is_transport a ≡ true → f a ≡ [])
  where
    pub say_nothing : (ls rest : List MediaAttribute) → list_all is_transport ls ≡ true
        → flat_map f (ls ++ rest) ≡ flat_map f rest
    say_nothing [] rest h = refl
    say_nothing (l ∷ ls) rest h =
        let here = both_of (is_transport l) (list_all is_transport ls) h in
        rw (silent l here.0) (say_nothing ls rest here.1)

    pub listed_same : (t : Transport) (as' : List MediaAttribute)
        → flat_map f (flat_map (attribute_with_transport t) as') ≡ flat_map f as'
    unfolding attribute_with_transport
    listed_same t [] = refl
    listed_same t (a ∷ as') =
        ap (λ (xs : List A). f a ++ xs)
        (say_nothing (maybe_lines t (is_mid a)) (flat_map (attribute_with_transport t) as') (maybe_are t (is_mid a))
        ∙ listed_same t as')

module _ {A : Type 0} (g : MediaAttribute → Option A)
    (silent : (a : MediaAttribute) → is_transport a ≡ true → g a ≡ None) where
  pub first_behind : (ls rest : List MediaAttribute) → list_all is_transport ls ≡ true
      → first_of g (ls ++ rest) ≡ first_of g rest
  first_behind [] rest h = refl
  first_behind (l ∷ ls) rest h =
      let here = both_of (is_transport l) (list_all is_transport ls) h in
      rw (silent l here.0) (first_behind ls rest here.1)

  pub first_same : (t : Transport) (as' : List MediaAttribute)
      → first_of g (flat_map (attribute_with_transport t) as') ≡ first_of g as'
  unfolding attribute_with_transport
  first_same t [] = refl
  first_same t (a ∷ as') =
      ap (λ (o : Option A). option_or (g a) o)
      (first_behind (maybe_lines t (is_mid a)) (flat_map (attribute_with_transport t) as') (maybe_are t (is_mid a))
      ∙ first_same t as')

module _ (p : MediaAttribute → Bool) (silent : (a : MediaAttribute) → is_transport a ≡ true → p a ≡ false) where
  kept_behind : (ls rest : List MediaAttribute) → list_all is_transport ls ≡ true
      → filter p (ls ++ rest) ≡ filter p rest
  kept_behind [] rest h = refl
  kept_behind (l ∷ ls) rest h =
      let here = both_of (is_transport l) (list_all is_transport ls) h in
      rw (silent l here.0) (kept_behind ls rest here.1)

  pub kept_same : (t : Transport) (as' : List MediaAttribute)
      → filter p (flat_map (attribute_with_transport t) as') ≡ filter p as'
  unfolding attribute_with_transport
  kept_same t [] = refl
  kept_same t (a ∷ as') =
      let tail = kept_behind (maybe_lines t (is_mid a)) (flat_map (attribute_with_transport t) as')
      (maybe_are t (is_mid a))
      ∙ kept_same t as' in
      ap (λ (xs : List MediaAttribute). cond (p a) (a ∷ xs) xs) tail
