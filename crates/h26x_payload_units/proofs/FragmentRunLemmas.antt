-- What fragments leave open, and what they complete.
use Rattle.std.proofs.Common.{◌≡◌, ℕ, Bool, true, false, List, [], ◌∷◌, ◌++◌, ◌⊎◌, inl, inr, length, drop, None, Some}
use Rattle.std.proofs.Common.{refl, sym, ap, subst, ◌∙◌, append_assoc, arith}
use mathlib.Core.Bool.{false≢true}
use Rattle.std.specs.List.{flat_map}
use Rattle.std.proofs.lemmas.List.{append-nil, length-append, same_from_push}
use Rattle.std.proofs.lemmas.List.Concat.{flat_map-append}
use Rattle.payload_core_base.specs.Format.{Fragment}
use Rattle.h26x_payload_units.specs.FragmentRuns.{CompletesUnit, FragmentView, FragmentsLaw, HaveNoEnd, HaveNoStart}
use Rattle.h26x_payload_units.specs.FragmentRuns.{LastAloneEnds, LeavesOpen, WritesComplete, open_behind}
use Rattle.h26x_payload_units.specs.FragmentRuns.{open_behind_all, unit_in}
use Rattle.h26x_payload_units.specs.Fragments.{behind_code, continued, open_after, put_behind, written_at}

last_of : (ps : List (List ℕ)) → (ps ≡ []) ⊎ ((qs : List (List ℕ)) × ((q : List ℕ) × (ps ≡ qs ++ q ∷ [])))
last_of [] = inl refl
last_of (p ∷ ps) = elim (last_of ps) [
  | inl none ↦ inr ([], (p, ap (λ qs. p ∷ qs) none))
  | inr some ↦ inr (p ∷ some.0, (some.1.0, ap (λ qs. p ∷ qs) some.1.1))
]

-- packets and one more: it is the start itself, or it comes after the start
record IsStartItself (h before later : List (List ℕ)) (p start : List ℕ) : Type 0 where
  none_later : later ≡ []
  same_start : start ≡ p
  same_before : before ≡ h

record IsBehindStart (h before later : List (List ℕ)) (p start : List ℕ) : Type 0 where
  others : List (List ℕ)
  later_is : later ≡ others ++ p ∷ []
  before_is : h ≡ before ++ (start ∷ others)

split_last : (h before later : List (List ℕ)) (p start : List ℕ) → h ++ p ∷ [] ≡ before ++ (start ∷ later)
    → IsStartItself h before later p start ⊎ IsBehindStart h before later p start
split_last h before later p start e = elim (last_of later) [
  | inl none ↦
      let same = same_from_push h before p start (e ∙ ap (λ ls. before ++ (start ∷ ls)) none) in
      inl (record { none_later = none; same_start = sym same.1; same_before = sym same.0 })
  | inr some ↦
      let whole : h ++ p ∷ [] ≡ (before ++ (start ∷ some.0)) ++ some.1.0 ∷ [] =
      e ∙ ap (λ ls. before ++ (start ∷ ls)) some.1.1 ∙ sym (append_assoc before (start ∷ some.0) (some.1.0 ∷ [])) in
      let same = same_from_push h (before ++ (start ∷ some.0)) p some.1.0 whole in
      inr (record {
        others = some.0;
        later_is = some.1.1 ∙ ap (λ q. some.0 ++ q ∷ []) (sym same.1);
        before_is =
            same.0;
      })
]

value_of : Fragment → List ℕ
value_of None = []
value_of (Some x) = x

is_there : Fragment → Bool
is_there None = false
is_there (Some x) = true

module _ (view : FragmentView) where
  starts_behind : (ps : List (List ℕ)) (p : List ℕ) → HaveNoStart view (ps ++ p ∷ []) → HaveNoStart view ps
      × (view.starts p ≡ false)
  starts_behind [] p none = (tt, none.0)
  starts_behind (q ∷ ps) p none = let others = starts_behind ps p none.1 in ((none.0, others.0), others.1)

  no_start_behind : (ps : List (List ℕ)) (p : List ℕ) → HaveNoStart view ps → view.starts p ≡ false
      → HaveNoStart view (ps ++ p ∷ [])
  no_start_behind [] p none e = (e, tt)
  no_start_behind (q ∷ ps) p none e = (none.0, no_start_behind ps p none.1 e)

  ends_behind : (ps : List (List ℕ)) (p : List ℕ) → HaveNoEnd view (ps ++ p ∷ []) → HaveNoEnd view ps
      × (view.ends p ≡ false)
  ends_behind [] p none = (tt, none.0)
  ends_behind (q ∷ ps) p none = let others = ends_behind ps p none.1 in ((none.0, others.0), others.1)

  no_end_behind : (ps : List (List ℕ)) (p : List ℕ) → HaveNoEnd view ps → view.ends p ≡ false
      → HaveNoEnd view (ps ++ p ∷ [])
  no_end_behind [] p none e = (e, tt)
  no_end_behind (q ∷ ps) p none e = (none.0, no_end_behind ps p none.1 e)

  last_ends : (ps : List (List ℕ)) (p : List ℕ) → LastAloneEnds view (ps ++ p ∷ []) → HaveNoEnd view ps
      × (view.ends p ≡ true)
  last_ends [] p alone = (tt, alone)
  last_ends (q ∷ []) p alone = ((alone.0, tt), alone.1)
  last_ends (q ∷ r ∷ ps) p alone = let others = last_ends (r ∷ ps) p alone.1 in ((alone.0, others.0), others.1)

  end_behind : (ps : List (List ℕ)) (p : List ℕ) → HaveNoEnd view ps → view.ends p ≡ true
      → LastAloneEnds view (ps ++ p ∷ [])
  end_behind [] p none e = e
  end_behind (q ∷ []) p none e = (none.0, e)
  end_behind (q ∷ r ∷ ps) p none e = (none.0, end_behind (r ∷ ps) p none.1 e)

  unit_alone : (start : List ℕ) → unit_in view start [] ≡ view.header start ++ view.part start
  unit_alone start = ap (λ t. view.header start ++ t) (append-nil (view.part start))

  unit_behind : (start p : List ℕ) (ps : List (List ℕ)) → unit_in view start (ps ++ p ∷ []) ≡ unit_in view start ps
      ++ view.part p
  unit_behind start p ps =
      ap (λ t. view.header start ++ t) (flat_map-append view.part (start ∷ ps) (p ∷ [])
      ∙ ap (λ t. flat_map view.part (start ∷ ps) ++ t) (append-nil (view.part p)))
      ∙ sym (append_assoc (view.header start) (flat_map view.part (start ∷ ps)) (view.part p))

  -- the open unit is what the packets so far leave open
  pub record Tracks (h : List (List ℕ)) (fragment : Fragment) : Type 0 where
    pub sound : (u : List ℕ) → fragment ≡ Some u → LeavesOpen view h u
    pub complete : (u : List ℕ) → LeavesOpen view h u → fragment ≡ Some u

  abbrev pub step_by : Bool → Bool → List ℕ → Fragment → Fragment
  step_by s e p fragment = open_after e (put_behind s (view.header p) (view.part p) fragment)

  never : {A : Type 0} → (b : Bool) → b ≡ true → b ≡ false → A
  never b holds fails = absurd (false≢true (sym fails ∙ holds))

  some_is : (u w : List ℕ) → Some u ≡ Some w → u ≡ w
  unfolding value_of
  some_is u w e = ap value_of e

  none_is_not : {A : Type 0} → (u : List ℕ) → None ≡ Some u → A
  unfolding is_there
  none_is_not u e = absurd (false≢true (ap is_there e))

  pub tracks-none : Tracks [] None
  tracks-none = record {
    sound = λ u e. none_is_not u e;
    complete = λ u l. absurd (omega (arith, ap length l.put_together, length-append l.before (l.start ∷ l.later)));
  }

  -- what is open with one more packet was open before it
  shorter : (h : List (List ℕ)) (p u : List ℕ) (l : LeavesOpen view (h ++ p ∷ []) u)
      (b : IsBehindStart h l.before l.later p l.start) → LeavesOpen view h (behind_code (unit_in view l.start b.others))
  shorter h p u l b =
      let N : List (List ℕ) → Type 0 = λ ls. HaveNoEnd view (l.start ∷ ls) in
      record {
        before = l.before;
        start = l.start;
        later = b.others;
        put_together = b.before_is;
        is_start = l.is_start;
        no_later_start = (starts_behind b.others p (subst (HaveNoStart view) b.later_is l.no_later_start)).0;
        no_end = (ends_behind (l.start ∷ b.others) p (subst N b.later_is l.no_end)).0;
        unit_is = refl;
      }

  -- after a packet that is neither, the open unit goes on
  goes_on : (h : List (List ℕ)) (p : List ℕ) (f : Fragment) → Tracks h f → view.starts p ≡ false → view.ends p
      ≡ false → Tracks (h ++ p ∷ []) (continued f (view.part p))
  goes_on h p None t no_start no_end = record {
    sound = λ u e. none_is_not u e;
    complete = λ u l. elim (split_last h l.before l.later p l.start l.put_together) [
      | inl itself ↦ never (view.starts p) (ap view.starts (sym itself.same_start) ∙ l.is_start) no_start
      | inr behind ↦ none_is_not (behind_code (unit_in view l.start behind.others))
          (t.complete (behind_code (unit_in view l.start behind.others)) (shorter h p u l behind))
    ];
  }
  goes_on h p (Some w) t no_start no_end = record {
    sound = λ u e.
        let l = t.sound w refl in
        record {
          before = l.before;
          start = l.start;
          later = l.later ++ p ∷ [];
          put_together = ap (λ hs. hs ++ p ∷ []) l.put_together ∙ append_assoc l.before (l.start ∷ l.later) (p ∷ []);
          is_start = l.is_start;
          no_later_start = no_start_behind l.later p l.no_later_start no_start;
          no_end = no_end_behind (l.start ∷ l.later) p l.no_end no_end;
          unit_is = sym (some_is (w ++ view.part p) u e) ∙ ap (λ x. x ++ view.part p) l.unit_is
              ∙ ap behind_code (sym (unit_behind l.start p l.later));
        };
    complete = λ u l. elim (split_last h l.before l.later p l.start l.put_together) [
      | inl itself ↦ never (view.starts p) (ap view.starts (sym itself.same_start) ∙ l.is_start) no_start
      | inr behind ↦
          let whole = t.complete (behind_code (unit_in view l.start behind.others)) (shorter h p u l behind) in
          ap (λ x. Some (x ++ view.part p)) (some_is w (behind_code (unit_in view l.start behind.others)) whole)
          ∙ ap (λ x. Some (behind_code x)) (sym (unit_behind l.start p behind.others))
          ∙ ap Some (sym (l.unit_is ∙ ap (λ ls. behind_code (unit_in view l.start ls)) behind.later_is))
    ];
  }

  -- a packet that is a start alone opens a unit
  begins : (h : List (List ℕ)) (p : List ℕ) (f : Fragment) → view.starts p ≡ true → view.ends p ≡ false
      → Tracks (h ++ p ∷ []) (Some (behind_code (view.header p ++ view.part p)))
  begins h p f holds no_end = record {
    sound = λ u e. record {
      before = h;
      start = p;
      later = [];
      put_together = refl;
      is_start = holds;
      no_later_start = tt;
      no_end = (no_end, tt);
      unit_is = sym (some_is (behind_code (view.header p ++ view.part p)) u e) ∙ ap behind_code (sym (unit_alone p));
    };
    complete = λ u l. elim (split_last h l.before l.later p l.start l.put_together) [
      | inl itself ↦
          ap (λ x. Some (behind_code x)) (sym (unit_alone p))
          ∙ ap (λ s. Some (behind_code (unit_in view s []))) (sym itself.same_start)
          ∙ ap Some (sym (l.unit_is ∙ ap (λ ls. behind_code (unit_in view l.start ls)) itself.none_later))
      | inr behind ↦ never (view.starts p) holds
          (starts_behind behind.others p (subst (HaveNoStart view) behind.later_is l.no_later_start)).1
    ];
  }

  -- an end leaves none open
  ends_all : (h : List (List ℕ)) (p : List ℕ) → view.ends p ≡ true → Tracks (h ++ p ∷ []) None
  ends_all h p holds = record {
    sound = λ u e. none_is_not u e;
    complete = λ u l. elim (split_last h l.before l.later p l.start l.put_together) [
      | inl itself ↦ never (view.ends p) holds (ap view.ends (sym itself.same_start) ∙ l.no_end.0)
      | inr behind ↦ never (view.ends p) holds
          (ends_behind behind.others p (subst (HaveNoEnd view) behind.later_is l.no_end.1)).1
    ];
  }

  pub tracks-step : (h : List (List ℕ)) (p : List ℕ) (f : Fragment) (s e : Bool) → view.starts p ≡ s → view.ends p
      ≡ e → Tracks h f → Tracks (h ++ p ∷ []) (step_by s e p f)
  tracks-step h p f s true s_is e_is t = ends_all h p e_is
  tracks-step h p f true false s_is e_is t = begins h p f s_is e_is
  tracks-step h p f false false s_is e_is t = goes_on h p f t s_is e_is

  code_is : (u w : List ℕ) → behind_code u ≡ behind_code w → u ≡ w
  code_is u w e = ap (drop 4) e

  nothing_written : {A : Type 0} → (u : List ℕ) → [] ≡ behind_code u → A
  nothing_written u e = absurd (omega (arith, ap length e))

  none_completed : (h : List (List ℕ)) (p : List ℕ) → ((u : List ℕ) → CompletesUnit view (h ++ p ∷ []) u → ⊥)
      → WritesComplete view (h ++ p ∷ []) []
  none_completed h p refuted = ((λ u. ((λ e. nothing_written u e), (λ c. absurd (refuted u c)))), inl refl)

  completes_none : (h : List (List ℕ)) (p : List ℕ) → view.ends p ≡ false → (u : List ℕ)
      → CompletesUnit view (h ++ p ∷ []) u → ⊥
  completes_none h p no_end u c = elim (split_last h c.before c.later p c.start c.put_together) [
    | inl itself ↦
        let L : List (List ℕ) → Type 0 = λ ls. LastAloneEnds view (c.start ∷ ls) in
        never (view.ends p) (ap view.ends (sym itself.same_start) ∙ subst L itself.none_later c.last_alone_ends) no_end
    | inr behind ↦
        let L : List (List ℕ) → Type 0 = λ ls. LastAloneEnds view (c.start ∷ ls) in
        never (view.ends p) (last_ends (c.start ∷ behind.others) p (subst L behind.later_is c.last_alone_ends)).1 no_end
  ]

  starts_and_ends : (h : List (List ℕ)) (p : List ℕ) → view.starts p ≡ true → view.ends p ≡ true
      → WritesComplete view (h ++ p ∷ []) (behind_code (view.header p ++ view.part p))
  starts_and_ends h p s e = (
    (λ u. (
      (λ w. record {
        before = h;
        start = p;
        later = [];
        put_together = refl;
        is_start = s;
        no_later_start = tt;
        last_alone_ends = e;
        unit_is = sym (code_is (view.header p ++ view.part p) u w) ∙ sym (unit_alone p);
      }),
      (λ c. elim (split_last h c.before c.later p c.start c.put_together) [
        | inl itself ↦
            ap behind_code (sym (unit_alone p) ∙ ap (λ t. unit_in view t []) (sym itself.same_start)
            ∙ sym (c.unit_is ∙ ap (unit_in view c.start) itself.none_later))
        | inr behind ↦ never (view.starts p) s (starts_behind behind.others p
            (subst (HaveNoStart view) behind.later_is c.no_later_start)).1
      ]),
    )),
    inr (view.header p ++ view.part p, refl),
  )

  -- what was complete with one more packet was open before it
  was_open : (h : List (List ℕ)) (p u : List ℕ) (c : CompletesUnit view (h ++ p ∷ []) u)
      (b : IsBehindStart h c.before c.later p c.start) → LeavesOpen view h (behind_code (unit_in view c.start b.others))
  was_open h p u c b =
      let L : List (List ℕ) → Type 0 = λ ls. LastAloneEnds view (c.start ∷ ls) in
      record {
        before = c.before;
        start = c.start;
        later = b.others;
        put_together = b.before_is;
        is_start = c.is_start;
        no_later_start = (starts_behind b.others p (subst (HaveNoStart view) b.later_is c.no_later_start)).0;
        no_end = (last_ends (c.start ∷ b.others) p (subst L b.later_is c.last_alone_ends)).0;
        unit_is = refl;
      }

  ends_open : (h : List (List ℕ)) (p : List ℕ) (f : Fragment) → Tracks h f → view.starts p ≡ false → view.ends p
      ≡ true → WritesComplete view (h ++ p ∷ []) (written_at true (continued f (view.part p)))
  ends_open h p None t no_start e = none_completed h p
      (λ u c. elim (split_last h c.before c.later p c.start c.put_together) [
        | inl itself ↦ never (view.starts p) (ap view.starts (sym itself.same_start) ∙ c.is_start) no_start
        | inr behind ↦ none_is_not (behind_code (unit_in view c.start behind.others))
            (t.complete (behind_code (unit_in view c.start behind.others)) (was_open h p u c behind))
      ])
  ends_open h p (Some w) t no_start e =
      let l = t.sound w refl in
      let whole : w ++ view.part p ≡ behind_code (unit_in view l.start (l.later ++ p ∷ [])) =
      ap (λ x. x ++ view.part p) l.unit_is ∙ ap behind_code (sym (unit_behind l.start p l.later)) in (
        (λ u. (
          (λ written. record {
            before = l.before;
            start = l.start;
            later = l.later ++ p ∷ [];
            put_together = ap (λ hs. hs ++ p ∷ []) l.put_together ∙ append_assoc l.before (l.start ∷ l.later) (p ∷ []);
            is_start = l.is_start;
            no_later_start = no_start_behind l.later p l.no_later_start no_start;
            last_alone_ends = end_behind (l.start ∷ l.later) p l.no_end e;
            unit_is = code_is u (unit_in view l.start (l.later ++ p ∷ [])) (sym written ∙ whole);
          }),
          (λ c. elim (split_last h c.before c.later p c.start c.put_together) [
            | inl itself ↦ never (view.starts p) (ap view.starts (sym itself.same_start) ∙ c.is_start) no_start
            | inr behind ↦
                let open_is = t.complete (behind_code (unit_in view c.start behind.others)) (was_open h p u c behind) in
                ap (λ x. x ++ view.part p) (some_is w (behind_code (unit_in view c.start behind.others)) open_is)
                ∙ ap behind_code (sym (unit_behind c.start p behind.others)
                ∙ sym (c.unit_is ∙ ap (unit_in view c.start) behind.later_is))
          ]),
        )),
        inr (unit_in view l.start (l.later ++ p ∷ []), whole),
      )

  pub written-complete : (h : List (List ℕ)) (p : List ℕ) (f : Fragment) (s e : Bool) → view.starts p ≡ s
      → view.ends p ≡ e → Tracks h f → WritesComplete view (h ++ p ∷ [])
      (written_at e (put_behind s (view.header p) (view.part p) f))
  written-complete h p f s false s_is e_is t = none_completed h p (completes_none h p e_is)
  written-complete h p f true true s_is e_is t = starts_and_ends h p s_is e_is
  written-complete h p f false true s_is e_is t = ends_open h p f t s_is e_is

tracks_all : (view : FragmentView) (ps h : List (List ℕ)) (f : Fragment) → Tracks view h f
    → Tracks view (h ++ ps) (open_behind_all view ps f)
tracks_all view [] h f t = let T : List (List ℕ) → Type 0 = λ hs. Tracks view hs f in subst T (sym (append-nil h)) t
tracks_all view (p ∷ ps) h f t =
    let T : List (List ℕ) → Type 0 = λ hs. Tracks view hs (open_behind_all view ps (open_behind view p f)) in
    subst T (append_assoc h (p ∷ []) ps) (tracks_all view ps (h ++ p ∷ []) (open_behind view p f)
    (tracks-step view h p f (view.starts p) (view.ends p) refl refl t))

pub fragments_law : FragmentsLaw
fragments_law view ps last = written-complete view ps last (open_behind_all view ps None) (view.starts last)
    (view.ends last) refl refl (tracks_all view ps [] None (tracks-none view))
