-- A set of the keys of candidates.
use Rattle.std.proofs.Common.{◌≡◌, ◌∙◌, Bool, true, false, cond, not, ◌||◌, List, [], ◌∷◌, ◌++◌, BTreeSet}
use Rattle.std.proofs.Common.{refl, sym, true≢false, is_eq}
use Rattle.std.proofs.lemmas.List.Folds.{list_any-append}
use Rattle.std.specs.BTreeMap.{is_at}
use Rattle.std.specs.BTreeSet.{contains}
use Rattle.std.specs.List.{list_any}
use Rattle.sdp_formats_values.specs.declared.candidate.Candidate.{Candidate}
use Rattle.sdp_formats_data.proofs.KeyOrder.{among, key_order}
use Rattle.sdp_formats_data.specs.Candidates.{IsAmong}
use Rattle.sdp_formats_data.specs.Keys.{HasKeysOf, IsKeyOf, candidate_cmp, key_cmp}
use Rattle.sdp_formats_data.specs.declared.candidate_keys.CandidateKey.{CandidateKey}

turned : (b : Bool) → false ≡ not b → b ≡ true
turned true e = refl
turned false e = absurd (true≢false (sym e))

turned_back : (b : Bool) → true ≡ not b → b ≡ false
turned_back true e = absurd (true≢false e)
turned_back false e = refl

at_end : (a b : Bool) → cond a true b ≡ (b || (a || false))
at_end true true = refl
at_end true false = refl
at_end false true = refl
at_end false false = refl

module _ (keys : BTreeSet CandidateKey) (candidates : List Candidate) (key : CandidateKey) (candidate : Candidate)
    (is : IsKeyOf key candidate) (has : HasKeysOf keys candidates) (added : Bool)
    (asked : added ≡ not (contains key_cmp keys key)) where
  pub present : added ≡ false → IsAmong candidate candidates
  present e = (among candidate candidates).0
      (sym (has key candidate is) ∙ turned (contains key_cmp keys key) (sym e ∙ asked))

  pub absent : added ≡ true → IsAmong candidate candidates → ⊥
  absent e h = true≢false (sym ((among candidate candidates).1 h)
      ∙ sym (has key candidate is) ∙ turned_back (contains key_cmp keys key) (sym e ∙ asked))

-- The set with one key more.
pub more_keys : (old new : BTreeSet CandidateKey) (candidates : List Candidate) (key : CandidateKey)
    (candidate : Candidate) → IsKeyOf key candidate → HasKeysOf old candidates
    → ((q : CandidateKey) → contains key_cmp new q ≡ cond (is_at (key_cmp key) q) true (contains key_cmp old q))
    → HasKeysOf new (candidates ++ candidate ∷ [])
more_keys old new candidates key candidate is has updates q other at =
    let test : Candidate → Bool = λ c. is_eq (candidate_cmp c other) in
    updates q
    ∙ (λ i. cond (is_eq (key_order key q candidate other is at i)) true (has q other at i))
    ∙ at_end (test candidate) (list_any test candidates)
    ∙ sym (list_any-append test candidates (candidate ∷ []))
