-- What the sender's code makes, piece by piece.
use Rattle.std.proofs.Common.{◌≡◌, ℕ, ◌-◌, ◌<◌, ◌≤◌, Bool, true, false, eqb, List, [], ◌∷◌, ◌++◌, length, take, drop}
use Rattle.std.proofs.Common.{min, Option, Some, None, sym, ap, ◌∙◌, inl, inr, append_assoc, arith}
use Rattle.std.proofs.lemmas.Bool.{cases_lt}
use Rattle.std.proofs.lemmas.List.{append-nil, drop_all, take_all}
use Rattle.std.proofs.lemmas.List.Concat.{flat_map-append}
use Rattle.std.specs.List.{flat_map}
use Rattle.payload_core_base.specs.Packing.{is_none_left}
use Rattle.payload_core_base.specs.Pieces.{pieces}
use Rattle.h26x_payload_units.specs.Aggregates.{in_aggregate, sized}
use Rattle.h26x_payload_units.specs.Departures.{Departure}
use Rattle.h26x_payload_units.specs.Fragments.{in_fragments}
use Rattle.h26x_payload_units.specs.Numbers.{Numbered, number_after, numbered}
use Rattle.h26x_payload_units.proofs.FragmentLemmas.{none_left-pieces}
use Rattle.h26x_payload_units.proofs.NumberLemmas.{numbered_append}
use Rattle.h26x_payload_units.specs.declared.layout.Layout.{Layout}
use Rattle.h26x_payload_units.specs.Numbers.{dond_bytes, donl_bytes, donl_size}
use Rattle.h26x_payload_formats.specs.Packing.{fragment, fragments_of}
use Rattle.h26x_payload_formats.specs.Waiting.{joining, sized_before}

-- the packets of what leaves first, and of what leaves then
pub packets_append : (packets : Numbered → List (List ℕ)) (n : ℕ) (ds es : List Departure)
    → flat_map packets (numbered n (ds ++ es)) ≡ flat_map packets (numbered n ds)
    ++ flat_map packets (numbered (number_after n ds) es)
packets_append packets n ds es = ap (flat_map packets) (numbered_append n ds es)
    ∙ flat_map-append packets (numbered n ds) (numbered (number_after n ds) es)

take_min : (n : ℕ) (text : List ℕ) → take (min n (length text)) text ≡ take n text
take_min n text = elim (cases_lt n (length text)) [
  | inl less ↦ let e : min n (length text) ≡ n = omega arith in ap (λ k. take k text) e
  | inr more ↦ let e : min n (length text) ≡ length text = omega arith in
      ap (λ k. take k text) e ∙ take_all (length text) text (omega arith) ∙ sym (take_all n text (omega arith))
]

drop_min : (n : ℕ) (text : List ℕ) → drop (min n (length text)) text ≡ drop n text
drop_min n text = elim (cases_lt n (length text)) [
  | inl less ↦ let e : min n (length text) ≡ n = omega arith in ap (λ k. drop k text) e
  | inr more ↦ let e : min n (length text) ≡ length text = omega arith in
      ap (λ k. drop k text) e ∙ drop_all (length text) text (omega arith) ∙ sym (drop_all n text (omega arith))
]

-- the first fragment, and the later ones
pub fragments_are : (l : Layout) (donl : Bool) (limit number high low : ℕ) (unit body part rest : List ℕ) (room : ℕ)
    (last : Bool)
    → 4 ≤ limit → unit ≡ high ∷ low ∷ body → room ≡ min (limit - 3 - donl_size donl) (length body)
    → part ≡ take room body → rest ≡ drop room body → last ≡ eqb (length rest) 0
    → fragment l donl number high low true last part
    ∷ in_fragments (fragment l donl number high low) false (pieces (limit - 3) rest)
    ≡ fragments_of l donl limit number unit
fragments_are l donl limit number high low unit body part rest room last enough unit_is room_is part_is rest_is
    last_is =
    let size : ℕ = limit - 3 - donl_size donl in
    let some_size : 0 < limit - 3 = omega arith in
    let part_as : part ≡ take size body = part_is ∙ ap (λ n. take n body) room_is ∙ take_min size body in
    let rest_as : rest ≡ drop size body = rest_is ∙ ap (λ n. drop n body) room_is ∙ drop_min size body in
    let last_as : last ≡ is_none_left (pieces (limit - 3) rest) =
    last_is ∙ sym (none_left-pieces (limit - 3) rest some_size) in
    ap (λ b. fragment l donl number high low true b part
    ∷ in_fragments (fragment l donl number high low) false (pieces (limit - 3) rest)) last_as
    ∙ ap (λ t. in_fragments (fragment l donl number high low) true (t ∷ pieces (limit - 3) rest)) part_as
    ∙ ap (λ t. in_fragments (fragment l donl number high low) true (take size body ∷ pieces (limit - 3) t)) rest_as
    ∙ ap (fragments_of l donl limit number) (sym unit_is)

laid_behind : (l : Layout) (donl : Bool) (number : ℕ) (vps : Option (List ℕ)) (sps pps : List ℕ)
    → donl_bytes donl number ++ (sized_before l donl vps ++ (sized sps ++ (dond_bytes l donl ++ sized pps)))
    ≡ in_aggregate (donl_bytes donl number) (dond_bytes l donl) (joining vps sps pps)
laid_behind l donl number None sps pps =
    ap (λ t. donl_bytes donl number ++ (sized sps ++ (dond_bytes l donl ++ t))) (sym (append-nil (sized pps)))
laid_behind l donl number (Some vps) sps pps =
    let behind : List ℕ = sized sps ++ (dond_bytes l donl ++ sized pps) in
    ap (λ t. donl_bytes donl number ++ t) (append_assoc (sized vps) (dond_bytes l donl) behind)
    ∙ ap (λ t. donl_bytes donl number ++ (sized vps ++ (dond_bytes l donl ++ (sized sps ++ (dond_bytes l donl ++ t)))))
    (sym (append-nil (sized pps)))

-- the sets of an aggregate after its header, as they are written
sets_laid : (l : Layout) (donl : Bool) (number : ℕ) (vps : Option (List ℕ)) (sps pps : List ℕ)
    → (((donl_bytes donl number ++ sized_before l donl vps) ++ sized sps) ++ dond_bytes l donl) ++ sized pps
    ≡ in_aggregate (donl_bytes donl number) (dond_bytes l donl) (joining vps sps pps)
sets_laid l donl number vps sps pps =
    let first : List ℕ = donl_bytes donl number in
    let later : List ℕ = dond_bytes l donl in
    let before : List ℕ = sized_before l donl vps in
    append_assoc ((first ++ before) ++ sized sps) later (sized pps)
    ∙ append_assoc (first ++ before) (sized sps) (later ++ sized pps)
    ∙ append_assoc first before (sized sps ++ (later ++ sized pps))
    ∙ laid_behind l donl number vps sps pps

-- an aggregate after these bytes, as it is written
pub aggregate_laid : (l : Layout) (donl : Bool) (number : ℕ) (vps : Option (List ℕ)) (sps pps prefix : List ℕ)
    (high low : ℕ)
    → ((((((prefix ++ high ∷ []) ++ low ∷ []) ++ donl_bytes donl number) ++ sized_before l donl vps) ++ sized sps)
    ++ dond_bytes l donl) ++ sized pps
    ≡ prefix ++ high ∷ low ∷ in_aggregate (donl_bytes donl number) (dond_bytes l donl) (joining vps sps pps)
aggregate_laid l donl number vps sps pps prefix high low =
    let first : List ℕ = donl_bytes donl number in
    let later : List ℕ = dond_bytes l donl in
    let before : List ℕ = sized_before l donl vps in
    let header : List ℕ = high ∷ low ∷ [] in
    ap (λ t. ((((t ++ first) ++ before) ++ sized sps) ++ later) ++ sized pps)
    (append_assoc prefix (high ∷ []) (low ∷ []))
    ∙ ap (λ t. (((t ++ before) ++ sized sps) ++ later) ++ sized pps) (append_assoc prefix header first)
    ∙ ap (λ t. ((t ++ sized sps) ++ later) ++ sized pps) (append_assoc prefix (header ++ first) before)
    ∙ ap (λ t. (t ++ later) ++ sized pps) (append_assoc prefix (header ++ (first ++ before)) (sized sps))
    ∙ ap (λ t. t ++ sized pps) (append_assoc prefix (header ++ ((first ++ before) ++ sized sps)) later)
    ∙ append_assoc prefix (header ++ (((first ++ before) ++ sized sps) ++ later)) (sized pps)
    ∙ ap (λ t. prefix ++ high ∷ low ∷ t) (sets_laid l donl number vps sps pps)
