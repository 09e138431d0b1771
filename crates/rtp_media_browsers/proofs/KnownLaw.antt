-- Known parameters are read as they are alone.
use Rattle.std.proofs.Common.{◌≡◌, ◌≢◌, ◌∙◌, ◌==◌, ◌||◌, ap, refl, subst, ℕ, Bool, true, false, not, cond, List, []}
use Rattle.std.proofs.Common.{◌∷◌, ◌++◌, filter}
use Rattle.std.proofs.Common.{Option, None, Some}
use Rattle.std.proofs.lemmas.Grind.{flat_map-append}
use Rattle.std.specs.List.{flat_map}
use Rattle.std.specs.Option.{option_map, option_or}
use Rattle.sdp_formats_grammar.specs.Cuts.{parts-whole}
use Rattle.sdp_formats_grammar.specs.Split.{Lacks, onto_first, parts}
use Rattle.sdp_formats_grammar.specs.Step.{Begins}
use Rattle.sdp_formats_reader.specs.Pairs.{pairs_of}
use Rattle.sdp_formats_reader.specs.PairsSay.{PairSays, PairsAreExact}
use Rattle.sdp_formats_reader.specs.Parameters.{parameters, range, slash_list, anything}
use Rattle.sdp_formats_reader.specs.PrintedPairs.{ArePairs, PairsComeBack, pairs_text}
use Rattle.sdp_formats_values.specs.Params.{gives_level, pair_param, params_of}
use Rattle.sdp_formats_values.specs.declared.pairs.Pair.{Pair}
use Rattle.sdp_formats_values.specs.declared.param.FormatParam.{FormatParam}
use Rattle.sdp_formats_values.specs.declared.param.FormatParam.TheVariants.{Unknown}
use Rattle.rtp_media_browsers.specs.Known.{is_known, is_unknown, known_alone, known_in, known_of, known_parameters}
use Rattle.rtp_media_browsers.specs.Known.{text_or}
use Rattle.rtp_media_browsers.specs.KnownLaws.{ReadsKnown}

-- the parts of two texts with a semicolon between
not_none_by : (b : Bool) (x : ℕ) (ps : List (List ℕ)) → cond b ([] ∷ ps) (onto_first x ps) ≢ []
not_none_by true x ps h = cc
not_none_by false x [] h = cc
not_none_by false x (p ∷ ps) h = cc

some_part : (text : List ℕ) → parts 59 text ≢ []
some_part [] h = cc
some_part (x ∷ text) h = not_none_by (x == 59) x (parts 59 text) h

onto_both : (b : Bool) (x : ℕ) (ps qs : List (List ℕ)) → ps ≢ []
    → cond b ([] ∷ (ps ++ qs)) (onto_first x (ps ++ qs)) ≡ cond b ([] ∷ ps) (onto_first x ps) ++ qs
onto_both b x [] qs some = absurd (some refl)
onto_both true x (p ∷ ps) qs some = refl
onto_both false x (p ∷ ps) qs some = refl

both_parts : (before after : List ℕ) → parts 59 (before ++ 59 ∷ after) ≡ parts 59 before ++ parts 59 after
both_parts [] after = refl
both_parts (x ∷ before) after =
    ap (λ ps. cond (x == 59) ([] ∷ ps) (onto_first x ps)) (both_parts before after)
    ∙ onto_both (x == 59) x (parts 59 before) (parts 59 after) (some_part before)

alone_in : (part : List ℕ) → Lacks 59 part → known_in part ≡ known_alone part
alone_in part lacks = ap (flat_map known_alone) (parts-whole 59 part lacks) ∙ append_none (known_alone part) where
  append_none : (ps : List Pair) → ps ++ [] ≡ ps
  append_none [] = refl
  append_none (p ∷ ps) = ap (λ qs. p ∷ qs) (append_none ps)

apart_in : (before after : List ℕ) → known_in (before ++ 59 ∷ after) ≡ known_in before ++ known_in after
apart_in before after = ap (flat_map known_alone) (both_parts before after)
    ∙ flat_map-append known_alone (parts 59 before) (parts 59 after)

-- pairs that are read may be joined
said_pairs : (text rest : List ℕ) (ps : List Pair) → Begins PairSays text ps rest → ArePairs ps
said_pairs text rest [] h = tt
said_pairs text rest (p ∷ ps) h =
    let one = h.1 in
    ((one.5, one.6), said_pairs h.0 rest ps h.2)

left_by : (b : Bool) (p : Pair) (ps : List Pair) → ArePairs (p ∷ ps) → ArePairs (filter is_known ps)
    → ArePairs (cond b (p ∷ filter is_known ps) (filter is_known ps))
left_by true p ps h k = (h.0, k)
left_by false p ps h k = k

left_pairs : (ps : List Pair) → ArePairs ps → ArePairs (filter is_known ps)
left_pairs [] h = tt
left_pairs (p ∷ ps) h = left_by (is_known p) p ps h (left_pairs ps h.1)

both_pairs : (ps qs : List Pair) → ArePairs ps → ArePairs qs → ArePairs (ps ++ qs)
both_pairs [] qs h k = k
both_pairs (p ∷ ps) qs h k = (h.0, both_pairs ps qs h.1 k)

-- a parameter that says something
says_some : (x : FormatParam) → x ≢ Unknown → is_unknown x ≡ false
unfolding is_unknown
says_some Unknown h = absurd (h refl)
says_some _ h = refl

says_none : is_unknown Unknown ≡ true
unfolding is_unknown
says_none = refl

if_says : (level unknown : Bool) → unknown ≡ false → (level || not unknown) ≡ true
if_says true unknown h = refl
if_says false false h = refl
if_says false true h = absurd (cc)

module _ (exact : PairsAreExact) (back : PairsComeBack) where
  alone_pairs : (part : List ℕ) (o : Option (List Pair)) → pairs_of part ≡ o → ArePairs (known_of o)
  alone_pairs part None is = tt
  alone_pairs part (Some ps) is =
      let says = exact.sound part ps is in
      left_pairs ps (said_pairs part says.0 ps says.1)

  all_pairs : (ts : List (List ℕ)) → ArePairs (flat_map known_alone ts)
  all_pairs [] = tt
  all_pairs (t ∷ ts) = both_pairs (known_alone t) (flat_map known_alone ts) (alone_pairs t (pairs_of t) refl)
      (all_pairs ts)

  some_known : (text : List ℕ) (p : Pair) (ps : List Pair) → known_in text ≡ p ∷ ps
      → parameters.reads (known_parameters text) ≡ Some (params_of (p ∷ ps))
  some_known text p ps is =
      let are = subst ArePairs is (all_pairs (parts 59 text)) in
      ap (λ qs. parameters.reads (text_or text qs)) is
      ∙ ap (λ (o : Option (List Pair)). option_or (option_map params_of o)
      (option_or (slash_list.reads (pairs_text (p ∷ ps))) (option_or (range.reads (pairs_text (p ∷ ps)))
      (anything.reads (pairs_text (p ∷ ps)))))) (back p ps are)

  pub reads_known : ReadsKnown
  reads_known = record {
    kept = λ part p is says. ap known_of is
        ∙ ap (λ b. cond b (p ∷ []) []) (if_says (gives_level p) (is_unknown (pair_param p))
        (says_some (pair_param p) says));
    of_level = λ part p is level. ap known_of is
        ∙ ap (λ b. cond (b || not (is_unknown (pair_param p))) (p ∷ []) []) level;
    left_out = λ part p is none other. ap known_of is
        ∙ ap (λ b. cond (b || not (is_unknown (pair_param p))) (p ∷ []) []) other
        ∙ ap (λ b. cond (not b) (p ∷ []) []) (ap is_unknown none ∙ says_none);
    alone = alone_in;
    apart = apart_in;
    some = some_known;
    none = λ text is. ap (text_or text) is;
  }
