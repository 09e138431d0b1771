-- Attributes of sessions that compare as equal are the same.
use Rattle.std.proofs.Common.{◌≡◌, Bool, true, false, IsTrue, refl, ap, subst, sym, true≢false}
use Rattle.std.specs.Cmp.Lexicographic.{pointwise}
use Rattle.rtp_wire.specs.contracts.names.MidPartialEq.TheImpl as mids
use Rattle.sdp_formats_grammar.specs.contracts.text.TextPartialEq.TheImpl as texts
use Rattle.sdp_formats_values.specs.contracts.candidate.CandidatePartialEq.TheImpl as candidates
use Rattle.sdp_formats_values.specs.contracts.fingerprint.FingerprintPartialEq.TheImpl as fingerprints
use Rattle.sdp_formats_values.specs.contracts.setup.SetupPartialEq.TheImpl as setups
use Rattle.sdp_formats_data.specs.contracts.session.SessionAttributeEq.TheImpl.Laws.{laws-law}
use Rattle.sdp_formats_data.specs.contracts.session.SessionAttributePartialEq.TheImpl as attributes
use Rattle.sdp_formats_data.specs.declared.session.SessionAttribute.{SessionAttribute}
use Rattle.sdp_formats_data.specs.declared.session.SessionAttribute.TheVariants as a
use Rattle.sdp_formats_data.proofs.AlikeAttributes.{Exact}
use Rattle.sdp_formats_data.proofs.Both.{both}

abbrev same : SessionAttribute → SessionAttribute → Bool
same = (attributes.ghosts).eq

itself : (x y : SessionAttribute) → x ≡ y → IsTrue (same x y)
itself x y e = subst (λ (z : SessionAttribute). IsTrue (same x z)) e (laws-law.refl x)

module _
    (text : Exact (texts.ghosts).eq) (text_list : Exact (pointwise (texts.ghosts).eq))
    (mid_list : Exact (pointwise (mids.ghosts).eq)) (setup : Exact (setups.ghosts).eq)
    (print : Exact (fingerprints.ghosts).eq) (candidate : Exact (candidates.ghosts).eq) where
  exact : (x y : SessionAttribute) → IsTrue (same x y) → x ≡ y
  exact (a.Group x l) (a.Group y m) e = let s = both _ _ e in
      λ k. a.Group ((text x y).0 s.0 k) ((mid_list l m).0 s.1 k)
  exact (a.MsidSemantic x l) (a.MsidSemantic y m) e = let s = both _ _ e in
      λ k. a.MsidSemantic ((text x y).0 s.0 k) ((text_list l m).0 s.1 k)
  exact a.AllowMixedExts a.AllowMixedExts e = refl
  exact a.IceLite a.IceLite e = refl
  exact (a.IceUfrag x) (a.IceUfrag y) e = ap a.IceUfrag ((text x y).0 e)
  exact (a.IcePwd x) (a.IcePwd y) e = ap a.IcePwd ((text x y).0 e)
  exact (a.IceOptions x) (a.IceOptions y) e = ap a.IceOptions ((text x y).0 e)
  exact (a.Fingerprint x) (a.Fingerprint y) e = ap a.Fingerprint ((print x y).0 e)
  exact (a.Setup x) (a.Setup y) e = ap a.Setup ((setup x y).0 e)
  exact (a.Candidate x) (a.Candidate y) e = ap a.Candidate ((candidate x y).0 e)
  exact a.EndOfCandidates a.EndOfCandidates e = refl
  exact (a.Unused x) (a.Unused y) e = ap a.Unused ((text x y).0 e)
  exact _ _ e = absurd (true≢false (sym e))

  pub session_attributes_alike : Exact same
  session_attributes_alike x y = (exact x y, itself x y)
