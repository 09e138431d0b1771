-- What a match makes of a row.
use Rattle.std.proofs.Common.{◌≡◌, ◌≢◌, ℕ, Bool, true, false, ◌&&◌, List, []}
use Rattle.std.proofs.Common.{◌∷◌, ◌++◌, refl, sym, ◌∙◌, ap, Option, Some}
use Rattle.std.proofs.Common.{None, Ok, if◌then◌else◌}
use Rattle.std.specs.Prelude.{is_none}
use Rattle.media_types.specs.Codecs.{is_audio_codec}
use Rattle.sdp_formats_rows.specs.Rows.{Row}
use Rattle.sdp_formats_rounds.specs.declared.claims.Own.{Own}
use Rattle.sdp_formats_rounds.specs.declared.claims.Role.TheVariants.{Main, Resend}
use Rattle.sdp_formats_rounds.specs.Best.{best_row}
use Rattle.sdp_formats_rounds.specs.Negotiated.{negotiated}
use Rattle.sdp_formats_rounds.specs.Types.{locked_types}
use Rattle.sdp_formats_rounds.specs.Turns.{and_then}
use Rattle.sdp_formats_rounds.specs.Rounds.{none_given, given, agreed_type, agreed_resend, agreed_red, locked_as}
use Rattle.sdp_formats_rounds.specs.Rounds.{matched_row, matched_if, open_best, renegotiated, agreed_row, agreed_rows}
use Rattle.sdp_formats_rounds.specs.Laws.{KeepsFeedback, is_distinct}
use Rattle.sdp_formats_rounds.proofs.Split.{split_ok, ok_same, turns_keep}
use Rattle.sdp_formats_rounds.proofs.Fresh.{agreed_unclaimed, resend_unclaimed, red_unclaimed, dictated_same}
use Rattle.sdp_formats_rounds.proofs.Fresh.{dictated_resend}
use Rattle.sdp_formats_rounds.proofs.Locked.{Fresh, locked_append, locked_one, unlocked_one, locked_among}
use Rattle.sdp_formats_rounds.proofs.Locked.{distinct_fresh, or_left}

-- The row that a match makes: its types are new, its settings negotiated, and dictated types are the other end's.
pub record Made (dictated : Bool) (now : List Row) (row best new : Row) : Type 0 where
  pub fresh : Fresh now new
  pub locked : new.locked ≡ true
  pub settings : new.spec ≡ negotiated row.spec best.spec
  pub feedback : new.transport_cc ≡ (row.transport_cc && best.transport_cc)
  pub types : dictated ≡ true → (new.pt ≡ best.pt) × (new.resend ≡ best.resend)
  pub resend : is_none new.resend ≡ is_none best.resend
  pub red : (t : ℕ) → new.red ≡ Some t → (is_audio_codec row.spec.codec ≡ true) × (row.red ≢ None) × (best.red ≢ None)
  pub others : KeepsFeedback row new

-- an RTX type if and only if the other end has one
resend_with : (dictated : Bool) (before now : List Row) (own : Own) (ours theirs resend : Option ℕ)
    → agreed_resend dictated before now own ours theirs ≡ Ok resend → is_none resend ≡ is_none theirs
resend_with dictated before now own ours None resend e = ap is_none (sym (ok_same None resend e))
resend_with dictated before now own ours (Some u) resend e =
    let s = split_ok (agreed_type Resend dictated before now own ours u) (λ t. Ok (Some t)) resend e in
    ap is_none (sym (ok_same (Some s.0) resend s.2))

-- a RED type only if both have one and the codec is audio
red_both : (dictated : Bool) (before now : List Row) (own : Own) (audio : Bool) (ours theirs red : Option ℕ) (t : ℕ)
    → agreed_red dictated before now own audio ours theirs ≡ Ok red → red ≡ Some t
    → (audio ≡ true) × (ours ≢ None) × (theirs ≢ None)
red_both dictated before now own true (Some o) (Some u) red t e is = (refl, (λ n. cc), (λ n. cc))
red_both dictated before now own false o u red t e is = cc
red_both dictated before now own true None u red t e is = cc
red_both dictated before now own true (Some o) None red t e is = cc

made_of : (dictated : Bool) (before now : List Row) (row best : Row) (pt : ℕ) (resend red : Option ℕ)
    → agreed_type Main dictated before now none_given (Some row.pt) best.pt ≡ Ok pt
    → agreed_resend dictated before now (given pt None) row.resend best.resend ≡ Ok resend
    → agreed_red dictated before now (given pt resend) (is_audio_codec row.spec.codec) row.red best.red ≡ Ok red
    → Made dictated now row best (locked_as row best pt resend red)
unfolding locked_as
made_of dictated before now row best pt resend red a b c = record {
  fresh = record {
    pt = or_left _ _ (agreed_unclaimed Main dictated before now none_given (Some row.pt) best.pt pt a);
    resend = λ t is. resend_unclaimed dictated before now (given pt None) row.resend best.resend resend t b is;
    red = λ t is. red_unclaimed dictated before now (given pt resend)
        (is_audio_codec row.spec.codec) row.red best.red red t c is;
  };
  locked = refl;
  settings = refl;
  feedback = refl;
  types = λ d. (
    dictated_same Main before now none_given (Some row.pt) best.pt pt
        (rw d at a),
    dictated_resend before now (given pt None) row.resend best.resend resend (rw d at b),
  );
  resend = resend_with dictated before now (given pt None) row.resend best.resend resend b;
  red = λ t is. red_both dictated before now (given pt resend) (is_audio_codec row.spec.codec) row.red best.red red t c
      is;
  others = (refl, refl, refl, refl);
}

pub matched_made : (dictated : Bool) (before now : List Row) (row best new : Row)
    → matched_row dictated before now row best ≡ Ok new → Made dictated now row best new
matched_made dictated before now row best new e =
    let s = split_ok (agreed_type Main dictated before now none_given (Some row.pt) best.pt)
    (λ pt. and_then (agreed_resend dictated before now (given pt None) row.resend best.resend)
    (λ resend. and_then (agreed_red dictated before now (given pt resend)
    (is_audio_codec row.spec.codec) row.red best.red)
    (λ red. Ok (locked_as row best pt resend red)))) new e in
    let r = split_ok (agreed_resend dictated before now (given s.0 None) row.resend best.resend)
    (λ resend. and_then (agreed_red dictated before now (given s.0 resend)
    (is_audio_codec row.spec.codec) row.red best.red)
    (λ red. Ok (locked_as row best s.0 resend red))) new s.2 in
    let d = split_ok (agreed_red dictated before now (given s.0 r.0) (is_audio_codec row.spec.codec) row.red best.red)
    (λ red. Ok (locked_as row best s.0 r.0 red)) new r.2 in
    rw (← (ok_same (locked_as row best s.0 r.0 d.0) new d.2))
    (made_of dictated before now row best s.0 r.0 d.0 s.1 r.1 d.1)

-- The three ways of a row: locked before, matched, left.
pub data Way (dictated : Bool) (remote now : List Row) (row new : Row) : Type 0 where
  stood : row.locked ≡ true → new ≡ renegotiated row (best_row row.spec remote) → Way dictated remote now row new
  matched : row.locked ≡ false → (best : Row) → open_best dictated remote now row ≡ Ok (Some best)
      → Made dictated now row best new → Way dictated remote now row new
  left : row.locked ≡ false → open_best dictated remote now row ≡ Ok None → new ≡ row → Way dictated remote now row new

pub way_of : (dictated : Bool) (remote before now : List Row) (row new : Row)
    → agreed_row dictated remote before now row ≡ Ok new → Way dictated remote now row new
way_of dictated remote before now row new e = at row.locked refl e
  where
    open_at : (o : Option Row) → row.locked ≡ false → open_best dictated remote now row ≡ Ok o
        → matched_if dictated before now row o ≡ Ok new → Way dictated remote now row new
    open_at None is b f = left is b (sym (ok_same row new f))
    open_at (Some best) is b f = matched is best b (matched_made dictated before now row best new f)

    at : (b : Bool) → row.locked ≡ b → (if b then Ok (renegotiated row (best_row row.spec remote)) else and_then
        (open_best dictated remote now row) (matched_if dictated before now row)) ≡ Ok new
        → Way dictated remote now row new
    at true is f = stood is (sym (ok_same (renegotiated row (best_row row.spec remote)) new f))
    at false is f =
        let s = split_ok (open_best dictated remote now row) (matched_if dictated before now row) new f in
        open_at s.0 is s.1 s.2

pub renegotiated_locked : (row : Row) (o : Option Row) → (renegotiated row o).locked ≡ row.locked
renegotiated_locked row None = refl
renegotiated_locked row (Some best) = refl

renegotiated_types : (row : Row) (o : Option Row) (rest : List Row)
    → locked_types (renegotiated row o ∷ rest) ≡ locked_types (row ∷ rest)
unfolding locked_types
renegotiated_types row None rest = refl
renegotiated_types row (Some best) rest = at row.locked refl
  where
    at : (b : Bool) → row.locked ≡ b → locked_types (renegotiated row (Some best) ∷ rest) ≡ locked_types (row ∷ rest)
    at true is = rw is refl
    at false is = rw is refl

keeps_distinct : (dictated : Bool) (remote done : List Row) (row : Row) (rest : List Row) (new : Row)
    → Way dictated remote (done ++ row ∷ rest) row new → is_distinct (locked_types (done ++ row ∷ rest)) ≡ true
    → is_distinct (locked_types (done ++ new ∷ rest)) ≡ true
keeps_distinct dictated remote done row rest new (stood is same) d =
    rw (
      same,
      locked_append done (renegotiated row (best_row row.spec remote) ∷ rest),
      renegotiated_types row
          (best_row row.spec remote) rest,
      ← locked_append done (row ∷ rest),
    ) d
keeps_distinct dictated remote done row rest new (left is b same) d = rw same d
keeps_distinct dictated remote done row rest new (matched is best b made) d =
    let parts : locked_types (done ++ row ∷ rest) ≡ locked_types done ++ locked_types rest = locked_append done
    (row ∷ rest) ∙ ap (λ l. locked_types done ++ l) (unlocked_one row rest is) in
    rw (locked_append done (new ∷ rest), locked_one new rest made.locked)
    (distinct_fresh (done ++ row ∷ rest) new (locked_types done) (locked_types rest) (λ t. rw (← parts)
    (locked_among (done ++ row ∷ rest) t)) made.fresh (rw (← parts) d))

pub agreed_distinct : (dictated : Bool) (remote before rows after : List Row)
    → agreed_rows dictated remote before rows ≡ Ok after → is_distinct (locked_types rows) ≡ true
    → is_distinct (locked_types after) ≡ true
agreed_distinct dictated remote before rows after e d =
    turns_keep (λ l. is_distinct (locked_types l) ≡ true) (λ done row rest. agreed_row dictated remote before
    (done ++ row ∷ rest) row)
    (λ done row rest new is p. keeps_distinct dictated remote done row rest new (way_of dictated remote before
    (done ++ row ∷ rest) row new is) p)
    [] rows after e d
