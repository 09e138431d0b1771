-- Printed pairs are read as those pairs.
use Rattle.std.proofs.Common.{◌≡◌, ◌≢◌, ◌++◌, ℕ, false, List, [], ◌∷◌, Some, codes, map}
use Rattle.std.proofs.Common.{refl, sym, ◌∙◌, ap, inl, inr, append_assoc, append-nil}
use Rattle.sdp_formats_grammar.specs.Bind.{◌>>=◌}
use Rattle.sdp_formats_grammar.specs.Cuts.{split_first-at}
use Rattle.sdp_formats_grammar.specs.Joined.{each_behind}
use Rattle.sdp_formats_grammar.specs.Split.{Lacks, split_first, halves}
use Rattle.sdp_formats_grammar.specs.Step.{Begins, Stops}
use Rattle.sdp_formats_reader.specs.PairLemmas.{unblanked-word, word-complete, at-cut, at-none}
use Rattle.sdp_formats_reader.specs.Pairs.{word, unblanked, make_pair, or_empty, restriction_at, ends_open}
use Rattle.sdp_formats_reader.specs.Pairs.{restrictions_of}
use Rattle.sdp_formats_reader.specs.PairsSay.{PairSays, pair_list}
use Rattle.sdp_formats_reader.specs.PrintedPairs.{IsPair, ArePairs, pairs_text}
use Rattle.sdp_formats_reader.specs.Runs.{At}
use Rattle.sdp_formats_values.specs.PrintedParameters.{pair_text}
use Rattle.sdp_formats_values.specs.declared.Pair.{Pair}
use Rattle.sdp_formats_reader.proofs.AttributesEnds.{not_equal}
use Rattle.sdp_formats_reader.proofs.PairRounds.{pairs-exact, restrictions-read}

-- a pair and what follows it
said : (p : Pair) (after rest : List ℕ) → IsPair p → (after ≡ 59 ∷ rest) → PairSays (pair_text p ++ after) p rest
said p after rest h e = (
  [],
  [],
  after,
  append_assoc p.key (61 ∷ p.value) after ∙ ap (λ v. p.key ++ 61 ∷ (v ++ after)) (sym (append-nil p.value)),
  refl,
  h.0,
  h.1,
  refl,
  inl e,
)

said_last : (p : Pair) → IsPair p → PairSays (pair_text p ++ []) p []
said_last p h = (
  [],
  [],
  [],
  append_assoc p.key (61 ∷ p.value) [] ∙ ap (λ v. p.key ++ 61 ∷ (v ++ [])) (sym (append-nil p.value)),
  refl,
  h.0,
  h.1,
  refl,
  inr (refl, refl),
)

begin : (p : Pair) (ps : List Pair) → ArePairs (p ∷ ps) → Begins PairSays (pairs_text (p ∷ ps)) (p ∷ ps) []
begin p [] h = ([], said_last p h.0, refl)
begin p (q ∷ qs) h =
    (pairs_text (q ∷ qs), said p (59 ∷ pairs_text (q ∷ qs)) (pairs_text (q ∷ qs)) h.0 refl, begin q qs h.1)

pub pairs_back : (p : Pair) (ps : List Pair) → ArePairs (p ∷ ps)
    → pair_list.reads (pairs_text (p ∷ ps)) ≡ Some (p ∷ ps)
pairs_back p ps h = pairs-exact.complete (pairs_text (p ∷ ps)) (p ∷ ps) ([], begin p ps h, (λ e. cc), refl)

-- the same of restrictions
key_there : (p : Pair) (back : List ℕ) → IsPair p
    → split_first 61 (unblanked (p.key ++ 61 ∷ back)) ≡ Some (p.key, back)
key_there p back h =
    ap (split_first 61) (unblanked-word p.key (61 ∷ back) h.0.0 h.0.1) ∙ split_first-at 61 p.key back h.0.2

by_value : (p : Pair) (back rest : List ℕ) → IsPair p → (halves 59 back).0 ≡ p.value
    → or_empty (halves 59 back).1 ≡ rest → restriction_at (p.key ++ 61 ∷ back) ≡ Some (p, rest)
unfolding restriction_at
by_value p back rest h front behind =
    ap (λ o. o >>= λ cut. word.reads cut.0 >>= λ key. word.reads (halves 59 cut.1).0 >>= λ value. Some
    (make_pair (key, value), or_empty (halves 59 cut.1).1)) (key_there p back h)
    ∙ ap (λ o. o >>= λ key. word.reads (halves 59 back).0 >>= λ value. Some
    (make_pair (key, value), or_empty (halves 59 back).1)) (word-complete p.key h.0.0 h.0.1)
    ∙ ap (λ o. o >>= λ value. Some (make_pair (p.key, value), or_empty (halves 59 back).1))
    (ap word.reads front ∙ word-complete p.value h.1.0 h.1.1)
    ∙ ap (λ t. Some (make_pair (p.key, p.value), t)) behind

restricted : (p : Pair) (rest : List ℕ) → IsPair p → restriction_at (pair_text p ++ 59 ∷ rest) ≡ Some (p, rest)
restricted p rest h =
    let at = at-cut 59 (p.value ++ 59 ∷ rest) p.value rest refl h.1.2 in
    ap restriction_at (append_assoc p.key (61 ∷ p.value) (59 ∷ rest))
    ∙ by_value p (p.value ++ 59 ∷ rest) rest h (ap (λ (x : List ℕ × _). x.0) at)
    (ap (λ (x : List ℕ × _). or_empty x.1) at)

restricted_last : (p : Pair) → IsPair p → restriction_at (pair_text p ++ []) ≡ Some (p, [])
restricted_last p h =
    let at = at-none 59 p.value h.1.2 in
    ap restriction_at (append-nil (pair_text p))
    ∙ by_value p p.value [] h (ap (λ (x : List ℕ × _). x.0) at) (ap (λ (x : List ℕ × _). or_empty x.1) at)

begin_at : (p : Pair) (ps : List Pair) → ArePairs (p ∷ ps) → Begins (At restriction_at) (pairs_text (p ∷ ps))
    (p ∷ ps) []
begin_at p [] h = ([], restricted_last p h.0, refl)
begin_at p (q ∷ qs) h = (pairs_text (q ∷ qs), restricted p (pairs_text (q ∷ qs)) h.0, begin_at q qs h.1)

-- no restriction is in an empty text
nothing : Stops (At restriction_at) []
unfolding restriction_at
nothing = λ p r h. cc

append_cons : (front : List ℕ) (b : ℕ) (back : List ℕ) → front ++ b ∷ back ≡ (front ++ b ∷ []) ++ back
append_cons front b back = sym (append_assoc front (b ∷ []) back)

-- the last value ends the text, and holds no semicolon
ends_word : (w : List ℕ) → w ≢ [] → Lacks 59 w → ends_open w ≡ false
ends_word [] some lacks = absurd (some refl)
ends_word (b ∷ []) some lacks = not_equal b 59 lacks.0
ends_word (b ∷ c ∷ w) some lacks = ends_word (c ∷ w) (λ e. cc) lacks.1

ends_behind : (b : ℕ) (t : List ℕ) → t ≢ [] → ends_open (b ∷ t) ≡ ends_open t
ends_behind b [] some = absurd (some refl)
ends_behind b (c ∷ t) some = refl

some_behind : (front w : List ℕ) → w ≢ [] → front ++ w ≢ []
some_behind [] w some = some
some_behind (x ∷ front) w some = λ e. cc

ends_front : (front w : List ℕ) → w ≢ [] → ends_open (front ++ w) ≡ ends_open w
ends_front [] w some = refl
ends_front (x ∷ front) w some = ends_behind x (front ++ w) (some_behind front w some) ∙ ends_front front w some

text_there : (p : Pair) (ps : List Pair) → pairs_text (p ∷ ps) ≢ []
text_there p ps = by_key p.key ps
  where
    by_key : (key : List ℕ) (ps : List Pair) → (key ++ 61 ∷ p.value) ++ each_behind (codes ";") (map pair_text ps) ≢ []
    by_key [] ps = λ e. cc
    by_key (b ∷ key) ps = λ e. cc

closed : (p : Pair) (ps : List Pair) → ArePairs (p ∷ ps) → ends_open (pairs_text (p ∷ ps)) ≡ false
closed p [] h =
    ap ends_open (append-nil (pair_text p) ∙ append_cons p.key 61 p.value)
    ∙ ends_front (p.key ++ 61 ∷ []) p.value h.0.1.0 ∙ ends_word p.value h.0.1.0 h.0.1.2
closed p (q ∷ qs) h =
    ap ends_open (append_cons (pair_text p) 59 (pairs_text (q ∷ qs)))
    ∙ ends_front (pair_text p ++ 59 ∷ []) (pairs_text (q ∷ qs)) (text_there q qs) ∙ closed q qs h.1

pub restrictions_back : (p : Pair) (ps : List Pair) → ArePairs (p ∷ ps)
    → restrictions_of (pairs_text (p ∷ ps)) ≡ Some (p ∷ ps)
restrictions_back p ps h =
    restrictions-read (pairs_text (p ∷ ps)) (p ∷ ps) [] (closed p ps h) (begin_at p ps h, nothing)
