-- The map that listed extensions say.
use Rattle.std.proofs.Common.{◌≡◌, ℕ, ◌-◌, ◌≤◌, ◌==◌, Bool, true, false, eqb, List, [], ◌∷◌, length, Option}
use Rattle.std.proofs.Common.{None, Some, refl, ap, ◌∙◌}
use Rattle.std.proofs.Common.{arith, get_or-set_same, get_or-set_other, length-set, if◌then◌else◌}
use Rattle.std.proofs.lemmas.Bool.Decides.{nat_tests}
use Rattle.std.proofs.lemmas.List.{get_or-replicate}
use Rattle.std.specs.Prelude.{fold, slice_index_or, slice_set}
use Rattle.std.specs.List.{cons_option, filter_map, last_or}
use Rattle.rtp_wire.specs.declared.extension.Extension.{Extension}
use Rattle.rtp_wire.specs.Maps.{empty_map}
use Rattle.rtp_wire.specs.Values.{Numbering}
use Rattle.rtp_media_sections.specs.Extensions.{LastEntriesCount, given_to, is_numbered, with_entry}

-- a number that is listed has its extension, another number keeps what it had
with_entry_at : (exts : Numbering) (id n : ℕ) (ext : Extension) → length exts ≡ 16 → 1 ≤ n → n ≤ 16
    → slice_index_or (with_entry exts (id, ext)) (n - 1) None
    ≡ (if id == n then Some ext else slice_index_or exts (n - 1) None)
with_entry_at exts id n ext long low high = at (is_numbered id) refl (eqb id n) refl
  where
    at : (numbered : Bool) → is_numbered id ≡ numbered → (same : Bool) → eqb id n ≡ same
        → slice_index_or (if numbered then slice_set exts (id - 1) (Some ext) else exts) (n - 1) None
        ≡ (if same then Some ext else slice_index_or exts (n - 1) None)
    at true is true e =
        let here : id ≡ n = grind (arith, nat_tests) in
        ap (λ k. slice_index_or (slice_set exts (k - 1) (Some ext)) (n - 1) None) here
        ∙ get_or-set_same exts (n - 1) (Some ext) None (omega (arith, long))
    at false is true e = absurd (grind (arith, nat_tests))
    at true is false e = get_or-set_other exts (id - 1) (n - 1) (Some ext) None (λ same. grind (arith, nat_tests))
    at false is false e = refl

entry_length : (exts : Numbering) (entry : ℕ × Extension) → length (with_entry exts entry) ≡ length exts
entry_length exts entry = at (is_numbered entry.0)
  where
    at : (numbered : Bool)
        → length (if numbered then slice_set exts (entry.0 - 1) (Some entry.1) else exts) ≡ length exts
    at true = length-set exts (entry.0 - 1) (Some entry.1)
    at false = refl

-- what a number is given counts before what the map had
gives_or : (given : Bool) (ext : Extension) (before : Option Extension) (later : List Extension)
    → last_or (if given then Some ext else before) later
    ≡ last_or before (cons_option (if given then Some ext else None) later)
gives_or true ext before later = refl
gives_or false ext before later = refl

entry_counts : (exts : Numbering) (entry : ℕ × Extension) (n : ℕ) (later : List Extension) → length exts ≡ 16 → 1 ≤ n
    → n ≤ 16 → last_or (slice_index_or (with_entry exts entry) (n - 1) None) later
    ≡ last_or (slice_index_or exts (n - 1) None) (cons_option (given_to n entry) later)
entry_counts exts entry n later long low high =
    ap (λ o. last_or o later) (with_entry_at exts entry.0 n entry.1 long low high)
    ∙ gives_or (entry.0 == n) entry.1 (slice_index_or exts (n - 1) None) later

entries_count : (extmaps : List (ℕ × Extension)) (exts : Numbering) (n : ℕ) → length exts ≡ 16 → 1 ≤ n → n ≤ 16
    → slice_index_or (fold with_entry exts extmaps) (n - 1) None
    ≡ last_or (slice_index_or exts (n - 1) None) (filter_map (given_to n) extmaps)
entries_count [] exts n long low high = refl
entries_count (entry ∷ extmaps) exts n long low high =
    entries_count extmaps (with_entry exts entry) n (entry_length exts entry ∙ long) low high
    ∙ entry_counts exts entry n (filter_map (given_to n) extmaps) long low high

none_at : (n : ℕ) → 1 ≤ n → n ≤ 16 → slice_index_or empty_map (n - 1) None ≡ None
none_at n low high = get_or-replicate 16 (n - 1) None None (omega arith)

pub last_entries_count : LastEntriesCount
last_entries_count extmaps n low high =
    entries_count extmaps empty_map n refl low high
    ∙ ap (λ o. last_or o (filter_map (given_to n) extmaps)) (none_at n low high)
