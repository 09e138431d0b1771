-- A section that lists plain rows has no fault.
use Rattle.std.proofs.Common.{◌≡◌, ◌≢◌, ◌≤◌, ℕ, Bool, true, false, not, ◌&&◌, ◌==◌, List, [], ◌∷◌, ◌++◌}
use Rattle.std.proofs.Common.{Option, Some, None, IsTrue, nat_lt, length, is_none, if◌then◌else◌, refl, suc, ◌∙◌}
use Rattle.std.proofs.Common.{ap, arith}
use Rattle.std.specs.List.{list_all}
use Rattle.std.proofs.lemmas.Grind.{common_steps}
use Rattle.sdp_formats_data.specs.Consistency.{apts_agree, are_mapped}
use Rattle.sdp_formats_data.specs.Consistency.{is_consistent}
use Rattle.sdp_formats_data.specs.declared.Inconsistency.{Inconsistency}
use Rattle.sdp_formats_data.specs.declared.Inconsistency.TheVariants as fault
use Rattle.sdp_formats_rounds.specs.Types.{listed}
use Rattle.sdp_formats_rows.specs.Rows.{Row}
use Rattle.sdp_formats_values.specs.MediaTypes.{is_rtp}
use Rattle.sdp_formats_data.specs.declared.media.MediaLine.{MediaLine}
use Rattle.sdp_formats_rounds.specs.Members.{IsEach}
use Rattle.sdp_formats_laws.specs.Rows.{EachListsRows, HasOneOfEach, ListedRowsHaveNoFault}
use Rattle.sdp_formats_rounds.specs.TypeLaws.{types_in}
use Rattle.sdp_formats_laws.proofs.MappedOnce.{all_mapped}
use Rattle.sdp_formats_laws.proofs.OneOriginal.{all_agreed}

-- the faults of a section, by what is asked of it
abbrev verdict : Bool → Bool → Bool → Bool → Bool → Bool → Bool → Option Inconsistency
verdict unnamed several setups directions untyped mapped agreed =
    if unnamed then Some fault.MissingMid
    else if several then Some fault.SeveralMids
    else if setups then Some fault.SeveralSetups
    else if directions then Some fault.Directions
    else if untyped then Some fault.NoPayloadType
    else if not mapped then Some fault.RtpMaps
    else if not agreed then Some fault.ConflictingApts
    else None

one_direction : (rtp : Bool) (n : ℕ) → (rtp ≡ true → n ≡ 1) → (rtp && not (n == 1)) ≡ false
one_direction true n h = ap (λ k. not (k == 1)) (h refl)
one_direction false n h = refl

never_none : (ts : List ℕ) → (suc (length ts) == 0) ≡ false
never_none ts = grind (arith, common_steps)

some_types : (rows : List Row) → rows ≢ [] → (length (types_in rows) == 0) ≡ false
some_types [] some = absurd (some refl)
some_types (row ∷ rows) some = never_none (listed row.resend ++ listed row.red ++ types_in rows)

typed : (rtp disabled : Bool) → ((rtp && false) && not disabled) ≡ false
typed true disabled = refl
typed false disabled = refl

one_at_most : (n : ℕ) → n ≤ 1 → nat_lt 1 n ≡ false
one_at_most n h = grind (arith, common_steps)

pub no_fault : ListedRowsHaveNoFault
no_fault m rows lists one =
    let mapped : are_mapped m.attrs m.pts ≡ true =
    (λ i. are_mapped (lists.attributes i) (lists.types i))
    ∙ all_mapped lists.others rows lists.behind lists.others_silent lists.behind_silent lists.distinct in
    let agreed : apts_agree m.attrs ≡ true =
    ap apts_agree lists.attributes
    ∙ all_agreed lists.others rows lists.behind lists.others_silent lists.behind_silent lists.distinct in
    let types : (length m.pts == 0) ≡ false = ap (λ ts. length ts == 0) lists.types ∙ some_types rows lists.some in
    let untyped = ap (λ b. (is_rtp m.proto && b) && not m.disabled) types ∙ typed (is_rtp m.proto) m.disabled in
    let direction = one_direction (is_rtp m.proto) _ one.direction in
    let setups = one_at_most _ one.setup in
    (λ i. is_none (verdict (one.name i == 0) (nat_lt 1 (one.name i)) (setups i) (direction i) (untyped i) (mapped i)
    (agreed i)))

pub none_at_fault : ListedRowsHaveNoFault → (ms : List MediaLine) (lists : List (List Row)) → EachListsRows ms lists
    → IsEach HasOneOfEach ms → IsTrue (list_all is_consistent ms)
none_at_fault fine [] [] h one = refl
none_at_fault fine (m ∷ ms) (rows ∷ lists) h one =
    ap (λ b. b && list_all is_consistent ms) (fine m rows h.0 one.0) ∙ none_at_fault fine ms lists h.1 one.1
none_at_fault fine [] (rows ∷ lists) h one = absurd h
none_at_fault fine (m ∷ ms) [] h one = absurd h
