-- Attributes of sections that compare as equal are the same.
use Rattle.std.proofs.Common.{◌≡◌, ◌↔◌, Bool, true, false, IsTrue, refl, ap, subst, sym, true≢false}
use Rattle.std.proofs.lemmas.Bool.{eqb-true}
use Rattle.std.specs.Cmp.Lexicographic.{pointwise}
use Rattle.rtp_wire.specs.contracts.extension.ExtensionPartialEq.TheImpl as extensions
use Rattle.rtp_wire.specs.contracts.names.MidPartialEq.TheImpl as mids
use Rattle.rtp_wire.specs.contracts.numbers.PtPartialEq.TheImpl as types
use Rattle.rtp_wire.specs.contracts.numbers.SsrcPartialEq.TheImpl as sources
use Rattle.sdp_formats_grammar.specs.contracts.text.TextPartialEq.TheImpl as texts
use Rattle.sdp_formats_values.specs.contracts.candidate.CandidatePartialEq.TheImpl as candidates
use Rattle.sdp_formats_values.specs.contracts.fingerprint.FingerprintPartialEq.TheImpl as fingerprints
use Rattle.sdp_formats_values.specs.contracts.pairs.PairPartialEq.TheImpl as pairs
use Rattle.sdp_formats_values.specs.contracts.param.FormatParamPartialEq.TheImpl as params
use Rattle.sdp_formats_values.specs.contracts.setup.SetupPartialEq.TheImpl as setups
use Rattle.sdp_formats_values.specs.contracts.streams.MsidPartialEq.TheImpl as msids
use Rattle.sdp_formats_values.specs.contracts.streams.RestrictionIdPartialEq.TheImpl as ids
use Rattle.sdp_formats_values.specs.contracts.streams.RidDirectionPartialEq.TheImpl as ways
use Rattle.sdp_formats_values.specs.contracts.streams.SimulcastPartialEq.TheImpl as simulcasts
use Rattle.sdp_formats_data.specs.contracts.media.MediaAttributeEq.TheImpl.Laws.{laws-law}
use Rattle.sdp_formats_data.specs.contracts.media.MediaAttributePartialEq.TheImpl as attributes
use Rattle.sdp_formats_data.specs.contracts.media.RtpMapPartialEq.TheImpl as maps
use Rattle.sdp_formats_data.specs.declared.media.MediaAttribute.{MediaAttribute}
use Rattle.sdp_formats_data.specs.declared.media.MediaAttribute.TheVariants as a
use Rattle.sdp_formats_data.proofs.Both.{both}

-- It tells values apart exactly.
abbrev pub Exact : {A : Type 0} → (A → A → Bool) → Type 0
Exact {A} eq = (x y : A) → IsTrue (eq x y) ↔ (x ≡ y)

abbrev same : MediaAttribute → MediaAttribute → Bool
same = (attributes.ghosts).eq

itself : (x y : MediaAttribute) → x ≡ y → IsTrue (same x y)
itself x y e = subst (λ (z : MediaAttribute). IsTrue (same x z)) e (laws-law.refl x)

module _
    (text : Exact (texts.ghosts).eq) (mid : Exact (mids.ghosts).eq) (setup : Exact (setups.ghosts).eq)
    (way : Exact (ways.ghosts).eq) (print : Exact (fingerprints.ghosts).eq)
    (pair_list : Exact (pointwise (pairs.ghosts).eq)) (id : Exact (ids.ghosts).eq)
    (simulcast : Exact (simulcasts.ghosts).eq) (msid : Exact (msids.ghosts).eq)
    (candidate : Exact (candidates.ghosts).eq) (type_list : Exact (pointwise (types.ghosts).eq))
    (source_list : Exact (pointwise (sources.ghosts).eq)) (param_list : Exact (pointwise (params.ghosts).eq))
    (extension : Exact (extensions.ghosts).eq) (map : Exact (maps.ghosts).eq) where
  exact : (x y : MediaAttribute) → IsTrue (same x y) → x ≡ y
  exact (a.Rtcp x) (a.Rtcp y) e = ap a.Rtcp ((text x y).0 e)
  exact (a.IceUfrag x) (a.IceUfrag y) e = ap a.IceUfrag ((text x y).0 e)
  exact (a.IcePwd x) (a.IcePwd y) e = ap a.IcePwd ((text x y).0 e)
  exact (a.IceOptions x) (a.IceOptions y) e = ap a.IceOptions ((text x y).0 e)
  exact (a.Fingerprint x) (a.Fingerprint y) e = ap a.Fingerprint ((print x y).0 e)
  exact (a.Setup x) (a.Setup y) e = ap a.Setup ((setup x y).0 e)
  exact (a.Mid x) (a.Mid y) e = ap a.Mid ((mid x y).0 e)
  exact (a.SctpPort x) (a.SctpPort y) e = ap a.SctpPort (eqb-true x y e)
  exact (a.MaxMessageSize x) (a.MaxMessageSize y) e = ap a.MaxMessageSize (eqb-true x y e)
  exact (a.SctpInit x) (a.SctpInit y) e = ap a.SctpInit ((text x y).0 e)
  exact (a.ExtMap i x) (a.ExtMap j y) e = let s = both _ _ e in
      λ k. a.ExtMap (eqb-true i j s.0 k) ((extension x y).0 s.1 k)
  exact a.RecvOnly a.RecvOnly e = refl
  exact a.SendRecv a.SendRecv e = refl
  exact a.SendOnly a.SendOnly e = refl
  exact a.Inactive a.Inactive e = refl
  exact (a.Msid x) (a.Msid y) e = ap a.Msid ((msid x y).0 e)
  exact a.RtcpMux a.RtcpMux e = refl
  exact a.RtcpMuxOnly a.RtcpMuxOnly e = refl
  exact a.RtcpRsize a.RtcpRsize e = refl
  exact (a.Candidate x) (a.Candidate y) e = ap a.Candidate ((candidate x y).0 e)
  exact a.EndOfCandidates a.EndOfCandidates e = refl
  exact (a.RtpMap i x) (a.RtpMap j y) e = let s = both _ _ e in
      λ k. a.RtpMap (eqb-true i j s.0 k) ((map x y).0 s.1 k)
  exact (a.RtcpFb i x) (a.RtcpFb j y) e = let s = both _ _ e in
      λ k. a.RtcpFb (eqb-true i j s.0 k) ((text x y).0 s.1 k)
  exact (a.Fmtp i x) (a.Fmtp j y) e = let s = both _ _ e in
      λ k. a.Fmtp (eqb-true i j s.0 k) ((param_list x y).0 s.1 k)
  exact (a.Rid i d t r) (a.Rid j f u s) e =
      let one = both _ _ e in
      let later = both _ _ one.1 in
      let last = both _ _ later.1 in
      λ k. a.Rid ((id i j).0 one.0 k) ((way d f).0 later.0 k) ((type_list t u).0 last.0 k)
      ((pair_list r s).0 last.1 k)
  exact (a.Simulcast x) (a.Simulcast y) e = ap a.Simulcast ((simulcast x y).0 e)
  exact (a.SsrcGroup x l) (a.SsrcGroup y m) e = let s = both _ _ e in
      λ k. a.SsrcGroup ((text x y).0 s.0 k) ((source_list l m).0 s.1 k)
  exact (a.Ssrc i x v) (a.Ssrc j y w) e =
      let one = both _ _ e in
      let last = both _ _ one.1 in
      λ k. a.Ssrc (eqb-true i j one.0 k) ((text x y).0 last.0 k) ((text v w).0 last.1 k)
  exact (a.Unused x) (a.Unused y) e = ap a.Unused ((text x y).0 e)
  exact _ _ e = absurd (true≢false (sym e))

  pub attributes_alike : Exact same
  attributes_alike x y = (exact x y, itself x y)
