-- How a STAP-A is laid out.
use Rattle.std.proofs.Common.{◌≡◌, ℕ, ◌+◌, ◌*◌, ◌<◌, List, [], ◌∷◌, ◌++◌, length, drop, None, Some, Option, refl, sym}
use Rattle.std.proofs.Common.{ap, subst, ◌∙◌, arith}
use Rattle.std.specs.Prelude.{option_map}
use Rattle.std.specs.List.{flat_map}
use Rattle.std.proofs.lemmas.List.{nil_from_length}
use Rattle.payload_core_base.specs.declared.error.PacketError.{PacketError}
use Rattle.payload_core_base.specs.declared.error.PacketError.TheVariants.{ErrShortPacket, StapASizeLargerThanBuffer}
use Rattle.h26x_payload_units.specs.declared.aggregates.AggregateFault.{AggregateFault}
use Rattle.h26x_payload_units.specs.declared.aggregates.AggregateFault.TheVariants.{CutShort, PastEnd}
use Rattle.h26x_payload_units.specs.AggregateLayout.{PassesEnd, IsLaidOut as IsLaidOutPlain}
use Rattle.h26x_payload_units.specs.Aggregates.{Aggregated, aggregated, sized}
use Rattle.h26x_payload_units.proofs.AggregateLaw.{aggregate_law as shared_law}
use Rattle.h26x_payload_formats.specs.AggregateLayout.{AggregateLaw, EndsSo, IsLaidOut}
use Rattle.h26x_payload_formats.specs.StapA.{refusal_of, stap_a_fault}
use Rattle.h26x_payload_formats.proofs.StapALemmas.{drop_first, is_laid_out}

-- how a fault is told, after these units of a text
abbrev told_behind : List ℕ → List (List ℕ) → Option AggregateFault → Option PacketError
told_behind text units fault = option_map (λ f. refusal_of f (drop (length (flat_map sized units)) text)) fault

past_told : (text : List ℕ) (is : PassesEnd 0 text) → refusal_of PastEnd text
    ≡ StapASizeLargerThanBuffer (is.high * 256 + is.low) (length is.rest)
past_told text is =
    ap (refusal_of PastEnd) (is.laid_out ∙ ap (λ before. before ++ (is.high ∷ is.low ∷ is.rest))
    (nil_from_length is.before is.lead_is))

-- as it is told, each text is laid out
ends_told : (text : List ℕ) (fault : Option AggregateFault) → IsLaidOutPlain 0 0 text [] fault
    → EndsSo text (told_behind text [] fault)
ends_told text None is = is
ends_told text (Some CutShort) is = omega (arith, is.0, is.1)
ends_told text (Some PastEnd) is =
    let whole : EndsSo text (Some (StapASizeLargerThanBuffer (is.high * 256 + is.low) (length is.rest))) =
    (is, (refl, refl)) in
    subst (λ e. EndsSo text (Some e)) (sym (past_told text is)) whole

laid_told : (text : List ℕ) (units : List (List ℕ)) (fault : Option AggregateFault)
    → IsLaidOutPlain 0 0 text units fault → IsLaidOut text units (told_behind text units fault)
laid_told text [] fault is = ends_told text fault is
laid_told text (u ∷ us) fault (rest, (is, others)) =
    let same : told_behind text (u ∷ us) fault ≡ told_behind rest us fault =
    ap (λ behind. option_map (λ f. refusal_of f behind) fault) (drop_first text u rest (flat_map sized us) is) in
    (rest, (is, subst (IsLaidOut rest us) (sym same) (laid_told rest us fault others)))

-- and a text that is laid out so is read and told so
abbrev IsReadSo : List ℕ → List (List ℕ) → Option PacketError → Type 0
IsReadSo text units fault = (plain : Option AggregateFault)
    × (IsLaidOutPlain 0 0 text units plain × (told_behind text units plain ≡ fault))

end_read : (text : List ℕ) (fault : Option PacketError) → EndsSo text fault → IsReadSo text [] fault
end_read text None e = (None, (e, refl))
end_read text (Some ErrShortPacket) e =
    let cut : (0 < length text) × (length text < 2) = (omega (arith, e), omega (arith, e)) in
    (Some CutShort, (cut, refl))
end_read text (Some (StapASizeLargerThanBuffer size left)) (is, (size_is, left_is)) = (
  Some PastEnd,
  (
    is,
    ap Some (past_told text is
        ∙ ap (λ n. StapASizeLargerThanBuffer n (length is.rest)) (sym size_is)
        ∙ ap (StapASizeLargerThanBuffer size) (sym left_is)),
  ),
)
end_read text (Some _) e = absurd e

read_so : (text : List ℕ) (units : List (List ℕ)) (fault : Option PacketError) → IsLaidOut text units fault
    → IsReadSo text units fault
read_so text [] fault is = end_read text fault is
read_so text (u ∷ us) fault (rest, (is, others)) =
    let r = read_so rest us fault others in
    let same : told_behind text (u ∷ us) r.0 ≡ told_behind rest us r.0 =
    ap (λ behind. option_map (λ f. refusal_of f behind) r.0) (drop_first text u rest (flat_map sized us) is) in
    (r.0, ((rest, (is, r.1.0)), same ∙ r.1.1))

pub aggregate_law : AggregateLaw
aggregate_law text units fault = (there, back)
  where
    there : IsLaidOut text units fault → ((aggregated 0 0 text).units ≡ units) × (stap_a_fault text ≡ fault)
    there is =
        let r = read_so text units fault is in
        let same = (shared_law 0 0 text units r.0).0 r.1.0 in
        (ap (λ (a : Aggregated). a.units) same, ap (λ (a : Aggregated). told_behind text a.units a.fault) same ∙ r.1.1)

    back : ((aggregated 0 0 text).units ≡ units) × (stap_a_fault text ≡ fault) → IsLaidOut text units fault
    back same =
        let laid = laid_told text (aggregated 0 0 text).units (aggregated 0 0 text).fault (is_laid_out text) in
        subst (IsLaidOut text units) same.1 (subst (λ us. IsLaidOut text us (stap_a_fault text)) same.0 laid)
