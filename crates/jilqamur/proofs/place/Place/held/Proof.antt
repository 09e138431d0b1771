-- `held` lends what the place holds, and the place follows it.
use Rattle.std.specs.Prelude.{◌≡◌, Option, Some, None, IsSome}
use mathlib.Core.Bool.{false≢true}
use mathlib.Core.Path.{refl}
use Prim.Native.Nat.{ℕ}
use mathlib.Core.List.{List, [], ◌∷◌}
use seplogic.Ra.Ura.{Ura}
use base.Fraction.{full_share}
use mir.Syntax.{Body, named, seq, assign, return, place, copy, rv_opd}
use mir.Raw.{raw as bare}
use mir.Val.{Val, vptr}
use base.Logic.{SProp, ent, sep, id⊢}
use base.Fml.{GName, Fml, ftrue, fsep, flft}
use prog.Memory.{Memory}
use prog.Routine.{Routine}
use prog.Wp.{Env, WpFn, Tables}
use types.Logic.{Logic, sem}
use contract.Monad.{Fun, fact}
use contract.Running.{tables, tables_of}
use sound.WpLaws.{WpFn-mono}
use types.Kit.{‵, raw, ◌⊛◌, some, later, at_ret, ◌$◌, ◌∵◌, !, qed, move, keep, drop, use1, join, split, split3, group}
use types.Kit.{pick, rewrite, fsplit, fsplit3, fjoin, fpack, suffices, frame, await, done}
use types.Part.{whole, sub, look_in}
use types.Run.{stop, fld, addr, load, of_opd, first, blocks, exec, returns, enter}
use types.ByLocal.{alloc_all, pass_all, free_all, look_at, get, through, sets, sets_last, env}
use denote.Builtin.{RefMutOf}
use denote.Exit.{no}
use denote.Follow.{lends_Part, follows}
use denote.Memory.{cell_at, part_at, part_of, mem}
use denote.RattleType.{owns}
use denote.RawPtr.{block_ptr}
use denote.Ref.{MutRef, mut_vals, mut_Tells}
use denote.Signature.{plain}
use denote.Steps.{heard, nothing, opens}
use denote.Triple.Clauses.{Clauses}
use denote.Triple.Spec.{triple_of}
use denote.Triple.Table.{entered}
use denote.Triple.Walked.{says, Stays, stay_dropped, walk_of, ends_at, walked, Goes-spent_ref, walk_Meets}
use Rattle.std.proofs.BoxSteps.Form.{D, B, R, τ, word, handle}
use Rattle.std.proofs.BoxSteps.Steps.{box_out, box_in}
use Rattle.std.proofs.alloc.Calls.{token}
use Rattle.jilqamur.specs.Lending.{holding}
use Rattle.jilqamur.proofs.AsBox.{E}
use Rattle.jilqamur.specs.contracts.object.Object as Object
use Rattle.jilqamur.specs.contracts.place.Place as Place
use Rattle.jilqamur.specs.contracts.place.Place.held as F
use Rattle.jilqamur.specs.contracts.place.Place.held.Key.{name as #self}
use Rattle.jilqamur.proofs.place.Place.held.Statement as stated
use Rattle.jilqamur.proofs.place.Place.held.Code as code

given_some : {A : Type 0} → (o : Option A) → IsSome o → (x : A) × (o ≡ Some x)
given_some None is = absurd (false≢true is)
given_some (Some x) is = (x, refl)

abbrev P : denote.RattleType.RattleType
P = Place.the_row

abbrev T : denote.RattleType.RattleType
T = Object.the_row

abbrev stayed : Stays (F.ended).signature.params (F.ended).kept
stayed = (stay_dropped (RefMutOf (0 ∷ []) tt (plain (λ _. P)) (λ _. tt)) no, tt)

abbrev rest : Body
rest = seq (assign (place 0 []) (rv_opd (copy (place 2 [])))) return

module _ {M : Type 1} {𝓤 : Ura M} (𝓛 : Logic 𝓤) (rb ro b o : ℕ) (hv : Val) (d : P.Denot) where
  -- all of the place but what it holds
  abbrev Rest : Fml
  Rest = fsep (fsep (token E.al d.alloc (bare (τ E)) (block_ptr b o)) (handle E d.alloc hv))
      (cell_at full_share P.mir (word E hv b o ∷ []) rb ro)

  back : d.at ≡ block_ptr b o → (w : T.Denot)
      → ent 𝓤 (sep 𝓤 (sem 𝓛 ((mem T).own_at w b o)) (sem 𝓛 Rest)) (sem 𝓛 ((mem P).own_at (holding d w) rb ro))
  unfolding part_of
  back at_b w =
      let v : D E = record { ptr = d.at; alloc = d.alloc; value = w } in
      qed 𝓛 (‵ (part_at (R E) full_share w b o) ∷ ‵ Rest ∷ []) ∵ move ! (1 ∷ []) $ fsplit ! $ fsplit ! $
      move ! (3 ∷ []) $ box_in E ! v b o w at_b refl $ move ! (1 ∷ 0 ∷ []) $
      fjoin ! $
      fpack ! (List Val) (λ us. fsep (cell_at full_share P.mir us rb ro) (P.own_val (holding d w) us))
      (word E hv b o ∷ []) $ done !

module _ {M : Type 1} {𝓤 : Ura M} (𝓛 : Logic 𝓤) (at_mem : Memory → SProp 𝓤) (run : Routine
    → Fun 𝓤) (𝓣 : Tables 𝓤 𝓛.H) where
  open 𝓛 use {H}

  abbrev held : Clauses 𝓤 F.ended
  held = F.clauses 𝓛 at_mem run

  abbrev at : (walk_of 𝓛 F.ended stayed held).Ghost → (walk_of 𝓛 F.ended stayed held).Ghost
  at y = ((y.0.0, y.0.1, y.0.2, y.0.3, (mut_vals y.0.3.0, tt)), y.1)

  walk : (y : (walk_of 𝓛 F.ended stayed held).Ghost) → ent 𝓤 ((walk_of 𝓛 F.ended stayed held).pre (at y))
      (WpFn 𝓤 H 𝓣.C 𝓣.Λ code.function (mut_vals y.0.3.0) ((walk_of 𝓛 F.ended stayed held).post (at y)))
  walk y =
      let Post : Val → SProp 𝓤 = (walk_of 𝓛 F.ended stayed held).post (at y) in
      let κ = y.0.0.0 in let q = y.0.1.0 in let self = y.0.3.0 in
      let d : P.Denot = self.now in let rb : ℕ = self.ref_ptr.0 in let ro : ℕ = self.ref_ptr.1 in
      let γ : GName = self.ghost_name in
      qed 𝓛 (((‵ (flft κ q) ⊛ ‵ ftrue) ⊛ ‵ (owns (MutRef (named 0) κ P ∷ []) (self, tt) (vptr rb ro ∷ [], tt)))
      ∷ raw (fact 𝓤 (IsSome d.object)) ∷ []) ∵ move ! (1 ∷ []) $ heard ! (IsSome d.object) (λ is.
      let x : T.Denot = (given_some d.object is).0 in let e' = (given_some d.object is).1 in
      let v : D E = record { ptr = d.at; alloc = d.alloc; value = x } in
      split ! $ split ! $ move ! (2 ∷ []) $ fsplit ! $ fsplit3 ! $ drop ! $ move ! (0 ∷ 1 ∷ 3 ∷ []) $
      enter ! 𝓣.C 𝓣.Λ code.function (vptr rb ro ∷ []) _ $ alloc_all ! (λ ls. pass_all ! refl ((tt, tt), tt) $
      let En : Env 𝓤 H = env (code.function).locals ls in
      opens ! tt P {h = d} rb ro (λ vs. move ! (1 ∷ []) $
      rewrite ! 0 (λ (h : Option T.Denot). ‵ (P.own_val (record { at = d.at; alloc = d.alloc; object = h }) vs))
      e' refl $
      use1 𝓛 (‵ ((B E).own_val v vs)) (id⊢ 𝓤 _) $
      box_out E ! v vs (λ b o hv at_b ws fa.
      rewrite ! 3 (λ (us : List Val). ‵ (cell_at full_share P.mir us rb ro)) ws refl $
      move ! (1 ∷ 2 ∷ []) $ fjoin ! $ move ! (1 ∷ []) $ first ! $ blocks ! $
      sets ! (of_opd ! (load ! (through ! refl (fld ! refl (stop !))) (look_in ! 2 (sub ! 0 refl (whole !)))))
      refl (tt, tt) $
      sets ! (of_opd ! (get ! refl)) refl (tt, tt) $ sets_last ! (addr ! (through ! refl (stop !))) refl (tt, tt) $
      exec ! 𝓣.C 𝓣.Λ En rest (at_ret En Post) $ sets ! (of_opd ! (get ! refl)) refl (tt, tt) $
      move ! (1 ∷ 2 ∷ []) $ fjoin ! $ move ! (2 ∷ 3 ∷ 4 ∷ 1 ∷ 0 ∷ []) $ group ! 5 $
      use1 𝓛 (later (some (λ (γ' : GName).
      ‵ ((MutRef (named 0) κ T).own_val (record { ref_ptr = (b, o); ghost_name = γ'; now = x }) (vptr b o ∷ []))
      ⊛ ‵ (flft κ q) ⊛ ‵ (follows P T γ γ' (holding d)))))
      (lends_Part 𝓛 P T (holding d) (named 0) κ q rb ro b o γ (sem 𝓛 (Rest 𝓛 rb ro b o hv d))
      (back 𝓛 rb ro b o hv d at_b) (P.coded.code d) (P.coded.code d) x) $ await ! tt $ pick ! (λ γ'. split3 ! $
      returns ! (look_at ! 0 refl) $ free_all ! refl $ keep ! (0 ∷ 1 ∷ 2 ∷ []) $
      suffices ! _ (ends_at 𝓛 F.ended stayed held (at y) (vptr b o)
      (record { ref_ptr = (b, o); ghost_name = γ'; now = x }) (tt, tt) (tt, tt)) $
      nothing ! $ nothing ! $ fjoin ! $ join ! $ nothing ! $ move ! (2 ∷ 0 ∷ []) $ join ! $ join ! $ frame ! $
      says ! e' $ done !)))))

pub held_spec : {M : Type 1} → stated.statement M
unfolding tables_of
held_spec 𝓤 𝓛 𝓜 𝓡 wired =
    let 𝓣 : Tables 𝓤 𝓛.H = tables_of 𝓤 𝓛.H 𝓜 (tables 𝓤 𝓛.H 𝓜 𝓡 𝓡.env) in
    entered 𝓤 𝓛.H (triple_of 𝓛 F.signature (F.spec 𝓛 𝓜.mem 𝓡.returns)) 𝓣.C 𝓣.Λ #self code.function
    (code.unfolded 𝓤 𝓛.H 𝓜 𝓡 wired)
    (walk_Meets 𝓛 F.ended stayed (Goes-spent_ref 𝓛 1 (0 ∷ []) tt (plain (λ _. P)), tt) (F.clauses 𝓛 𝓜.mem 𝓡.returns)
    (WpFn 𝓤 𝓛.H 𝓣.C 𝓣.Λ code.function) (WpFn-mono 𝓤 𝓛.H 𝓛.laws 𝓣 code.function)
    (walked 𝓛 F.ended stayed (F.clauses 𝓛 𝓜.mem 𝓡.returns) (WpFn 𝓤 𝓛.H 𝓣.C 𝓣.Λ code.function)
    (λ κs. (mut_vals, tt)) (λ κs. (mut_Tells (named 0) κs.0 P, tt))
    (λ κs qs bounds a g are. walk 𝓛 𝓜.mem 𝓡.returns 𝓣 ((κs, qs, bounds, a, (mut_vals a.0, tt)), g))))
