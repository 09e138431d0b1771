-- `empty` makes a place of a pointer, which owns nothing.
use Rattle.std.specs.Prelude.{None}
use mathlib.Core.Path.{refl, sym, subst}
use Rattle.std.proofs.Common.{arith}
use mathlib.Core.List.{List, [], ◌∷◌, ◌++◌}
use seplogic.Ra.Ura.{Ura}
use mir.Val.{Val, vstruct, vcons, vnil, has_ty, WT}
use base.Logic.{SProp, ent, emp, id⊢}
use base.Fml.{ftrue, fsep}
use prog.Memory.{Memory}
use prog.Routine.{Routine}
use prog.Wp.{WpFn, Tables}
use types.Logic.{Logic}
use contract.Monad.{Fun}
use contract.Running.{tables, tables_of}
use sound.WpLaws.{WpFn-mono}
use types.Kit.{Item, ‵, raw, ◌⊛◌, ◌$◌, ◌∵◌, !, qed, by, move, drop, use1, join, split, fsplit, fjoin, fpack, feq_i}
use types.Kit.{feq_l, suffices, done}
use types.Part.{agg}
use types.Run.{no_more, and_then, returns, enter}
use types.ByLocal.{alloc_all, pass_all, free_all, look_at, get, sets}
use denote.Exit.{yes}
use denote.Signature.{type_at}
use denote.Steps.{nothing}
use denote.RattleType.{Valss}
use denote.RawPtr.{Ptr, RawPtr, block_ptr, null_ptr, ptr_val}
use denote.Signature.{plain}
use denote.Struct.Struct.{within}
use denote.Struct.Owning.{shape}
use lib.Dec.{T}
use mir.Syntax.{ty_ptr}
use Rattle.std.proofs.alloc.Calls.{Fits, α, handle_tells}
use Rattle.std.proofs.ResultValues.{and_tt}
use denote.Triple.Spec.{triple_of}
use denote.Triple.Table.{entered}
use denote.Triple.Walked.{says, Stays, stay_dropped, walk_of, ends_at, Goes-dropped, walk_Meets}
use Rattle.std.proofs.BoxSteps.Form.{P, box_ty, owning}
use Rattle.jilqamur.proofs.AsBox.{E}
use Rattle.std.specs.contracts.alloc.Global as Heap
use Rattle.jilqamur.specs.contracts.place.Place.empty as F
use Rattle.jilqamur.specs.contracts.place.Place.empty.Key.{name as #self}
use Rattle.jilqamur.proofs.place.Place.empty.Statement as stated
use Rattle.jilqamur.proofs.place.Place.empty.Code as code

ptr_typed : (p : Ptr) → T (has_ty ty_ptr (ptr_val p)) × WT (ptr_val p)
ptr_typed null_ptr = (tt, record { fits = omega arith })
ptr_typed (block_ptr b o) = (tt, tt)

abbrev word : Ptr → Val → Val
word p hv = vstruct (vcons (ptr_val p) (vcons hv vnil))

word_typed : (p : Ptr) (hv : Val) → Fits E.al hv → T (has_ty (box_ty E) (word p hv)) × WT (word p hv)
word_typed null_ptr hv fa = (and_tt (has_ty (α E.al) hv) fa.0, (record { fits = omega arith }, (fa.1, tt)))
word_typed (block_ptr b o) hv fa = (and_tt (has_ty (α E.al) hv) fa.0, (tt, (fa.1, tt)))

abbrev stayed : Stays (F.ended).signature.params (F.ended).kept
stayed = (stay_dropped (plain (λ _. RawPtr)) yes, (stay_dropped (plain (λ _. Heap.the_row)) yes, tt))

module _ {M : Type 1} {𝓤 : Ura M} (𝓛 : Logic 𝓤) (at_mem : Memory → SProp 𝓤) (run : Routine
    → Fun 𝓤) (𝓣 : Tables 𝓤 𝓛.H) where
  open 𝓛 use {H}

  walk : (z : (walk_of 𝓛 F.ended stayed (F.clauses 𝓛 at_mem run)).Ghost)
      → ent 𝓤 ((walk_of 𝓛 F.ended stayed (F.clauses 𝓛 at_mem run)).pre z)
      (WpFn 𝓤 H 𝓣.C 𝓣.Λ code.function (z.0.4.0 ++ (z.0.4.1.0 ++ [])) ((walk_of 𝓛 F.ended stayed
      (F.clauses 𝓛 at_mem run)).post z))
  walk z =
      let Post = (walk_of 𝓛 F.ended stayed (F.clauses 𝓛 at_mem run)).post z in
      let p = z.0.3.0 in let a = z.0.3.1.0 in
      let To = type_at (F.signature).result tt in
      let made : To.Denot = record { at = p; alloc = a; object = None } in
      qed 𝓛 ((‵ ftrue ⊛ ‵ (fsep (RawPtr.own_val p z.0.4.0)
      (fsep (Heap.the_row.own_val a z.0.4.1.0) ftrue))) ∷ raw (emp 𝓤) ∷ []) ∵ split ! $ drop ! $ fsplit ! $
      feq_l ! (λ ep. fsplit ! $
      handle_tells E.al ! a z.0.4.1.0 (λ hv ea fa. move ! (0 ∷ []) $
      let w = word p hv in
      nothing ! $ nothing ! $ move ! (2 ∷ 0 ∷ 1 ∷ []) $ fjoin ! $
      feq_i ! (List Val) (ptr_val p ∷ []) (ptr_val p ∷ []) refl $ fjoin ! $
      feq_i ! (List Val) (w ∷ []) (w ∷ []) refl $ fjoin ! $
      fpack ! (Valss (RawPtr ∷ P E ∷ [])) (within (shape (owning E)) (p, (a, tt)) (w ∷ [])) (
        ptr_val p ∷ [],
        (hv ∷ [], tt),
      ) $ fjoin ! $ use1 𝓛 (‵ (To.own_val made (w ∷ []))) (id⊢ 𝓤 _) $ move ! (1 ∷ 2 ∷ []) $
      drop ! $ drop ! $
      let Γ : List (Item 𝓤) = ‵ (To.own_val made (w ∷ [])) ∷ [] in
      by ! (subst (λ (us : List Val). ent 𝓤 (types.Kit.⋆ 𝓛 Γ)
      (WpFn 𝓤 H 𝓣.C 𝓣.Λ code.function (us ++ (z.0.4.1.0 ++ [])) Post)) (sym ep)
      (subst (λ (us : List Val). ent 𝓤 (types.Kit.⋆ 𝓛 Γ)
      (WpFn 𝓤 H 𝓣.C 𝓣.Λ code.function (ptr_val p ∷ (us ++ [])) Post)) (sym ea)
      (qed 𝓛 Γ ∵ enter ! 𝓣.C 𝓣.Λ code.function (ptr_val p ∷ hv ∷ []) _ $
      alloc_all ! (λ ls. pass_all ! refl (ptr_typed p, (fa, tt)) $
      sets ! (agg ! (and_then ! (get ! refl) (and_then ! (get ! refl) (no_more !)))) refl (word_typed p hv fa) $
      returns ! (look_at ! 0 refl) $ free_all ! refl $
      suffices ! _ (ends_at 𝓛 F.ended stayed (F.clauses 𝓛 at_mem run) z w made (tt, (tt, tt)) (tt, (tt, tt))) $
      says ! refl $
      nothing ! $ nothing ! $ fjoin ! $ nothing ! $ fjoin ! $ join ! $ nothing ! $ join ! $ done !))))))

pub empty_spec : {M : Type 1} → stated.statement M
unfolding tables_of
empty_spec 𝓤 𝓛 𝓜 𝓡 wired =
    let 𝓣 : Tables 𝓤 𝓛.H = tables_of 𝓤 𝓛.H 𝓜 (tables 𝓤 𝓛.H 𝓜 𝓡 𝓡.env) in
    entered 𝓤 𝓛.H (triple_of 𝓛 F.signature (F.spec 𝓛 𝓜.mem 𝓡.returns)) 𝓣.C 𝓣.Λ #self code.function
    (code.unfolded 𝓤 𝓛.H 𝓜 𝓡 wired)
    (walk_Meets 𝓛 F.ended stayed (
      Goes-dropped 𝓛 0 (plain (λ _. RawPtr)) yes
          (λ κs x f. refl),
      (
        Goes-dropped 𝓛 0 (plain (λ _. Heap.the_row)) yes
            (λ κs x f. refl),
        tt,
      ),
    ) (F.clauses 𝓛 𝓜.mem 𝓡.returns)
    (WpFn 𝓤 𝓛.H 𝓣.C 𝓣.Λ code.function) (WpFn-mono 𝓤 𝓛.H 𝓛.laws 𝓣 code.function)
    (walk 𝓛 𝓜.mem 𝓡.returns 𝓣))
