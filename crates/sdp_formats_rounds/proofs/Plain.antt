-- Rounds keep plain rows.
use Rattle.std.proofs.Common.{◌≡◌, ℕ, Bool, true, false, ◌&&◌, ◌||◌, List, [], ◌∷◌, ◌++◌, refl, ◌∙◌, ap, subst}
use Rattle.std.proofs.Common.{Option, Some, None, Ok, inl, inr}
use Rattle.std.specs.Prelude.{is_none}
use Rattle.std.specs.List.{list_all}
use Rattle.media_types.specs.Codecs.{is_audio_codec}
use Rattle.sdp_formats_rows.specs.Plain.{has_plain_feedback, has_plain_red, has_plain_types}
use Rattle.sdp_formats_rows.specs.Plain.{has_plain_events, has_plain_level, is_plain_codec}
use Rattle.sdp_formats_rows.specs.Rows.{Row}
use Rattle.sdp_formats_rows.specs.declared.spec.CodecSpec.{CodecSpec}
use Rattle.sdp_formats_rounds.specs.Best.{best_row}
use Rattle.sdp_formats_rounds.specs.Laws.{KeepsFeedback, rounds}
use Rattle.sdp_formats_rounds.specs.Members.{IsEach, IsIn}
use Rattle.sdp_formats_rounds.specs.PlainLaws.{IsOfWidths, IsSoundRow, RoundsKeepWidths}
use Rattle.sdp_formats_rounds.specs.Rounds.{agreed_row, agreed_rows, renegotiated, round, settled_row, settled_rows}
use Rattle.sdp_formats_rounds.specs.Rounds.{standing_rows}
use Rattle.sdp_formats_rounds.specs.Turns.{and_then}
use Rattle.sdp_formats_rounds.proofs.Bests.{best_in}
use Rattle.sdp_formats_rounds.proofs.Holds.{open_one_of}
use Rattle.sdp_formats_rounds.proofs.Matches.{Way, stood, matched, left, way_of}
use Rattle.sdp_formats_rounds.proofs.Settles.{Moves, moves_of}
use Rattle.sdp_formats_rounds.proofs.Small.{types_stay_small}
use Rattle.sdp_formats_rounds.proofs.Split.{split_ok, ok_same, turns_keep}
use Rattle.sdp_formats_rounds.proofs.Widths.{IsPlainSpec, plain_left, same_codec}

-- What a plain row has beside its types.
pub record IsPlainBeside (row : Row) : Type 0 where
  pub spec : IsPlainSpec row.spec
  pub feedback : has_plain_feedback row ≡ true
  pub red : has_plain_red row ≡ true

sound_in : (rows : List Row) (row : Row) → IsEach IsSoundRow rows → IsIn row rows → IsSoundRow row
sound_in [] row h i = absurd i
sound_in (x ∷ xs) row h (inl same) = subst IsSoundRow same h.0
sound_in (x ∷ xs) row h (inr i) = sound_in xs row h.1 i

-- the same feedback under the same codec
feedback_kept : (row new : Row) → KeepsFeedback row new → new.spec.codec ≡ row.spec.codec
    → has_plain_feedback row ≡ true → has_plain_feedback new ≡ true
feedback_kept row new k same h = rw (same, k.0, k.1, k.2, k.3) h

red_kept : (row new : Row) → new.red ≡ row.red → new.spec.codec ≡ row.spec.codec → has_plain_red row ≡ true
    → has_plain_red new ≡ true
red_kept row new red same h = rw (red, same) h

red_of : (o : Option ℕ) (audio : Bool) → ((t : ℕ) → o ≡ Some t → audio ≡ true) → (is_none o || audio) ≡ true
red_of None audio h = refl
red_of (Some t) audio h = h t refl

-- a locked row that takes what a match leaves of its settings
renegotiated_plain : (remote : List Row) (row : Row) (o : Option Row) → best_row row.spec remote ≡ o
    → IsEach IsSoundRow remote → IsPlainBeside row → IsPlainBeside (renegotiated row o)
renegotiated_plain remote row None is sound h = h
renegotiated_plain remote row (Some best) is sound h = record {
  spec = plain_left row.spec best.spec h.spec
      (sound_in remote best sound (best_in row.spec remote best is));
  feedback = feedback_kept row (renegotiated row (Some best)) (refl, refl, refl, refl) (same_codec row.spec best.spec)
      h.feedback;
  red = red_kept row (renegotiated row (Some best)) refl (same_codec row.spec best.spec) h.red;
}

-- what the second turns make of a plain row
way_plain : (dictated : Bool) (remote now : List Row) (row new : Row) → Way dictated remote now row new
    → IsEach IsSoundRow remote → IsPlainBeside row → IsPlainBeside new
way_plain dictated remote now row new (left is b same) sound h = rw same h
way_plain dictated remote now row new (stood is same) sound h =
    rw same (renegotiated_plain remote row (best_row row.spec remote) refl sound h)
way_plain dictated remote now row new (matched is best b made) sound h =
    let codec : new.spec.codec ≡ row.spec.codec
    = ap (λ (s : CodecSpec). s.codec) made.settings ∙ same_codec row.spec best.spec in
    record {
      spec = rw made.settings (plain_left row.spec best.spec h.spec
          (sound_in remote best sound (open_one_of dictated remote now row best b)));
      feedback = feedback_kept row new made.others codec h.feedback;
      red = red_of new.red (is_audio_codec new.spec.codec) (λ t is. rw codec (made.red t is).0);
    }

none_kept : (a b : Option ℕ) (audio : Bool) → (a ≡ None → b ≡ None) → (is_none a || audio) ≡ true
    → (is_none b || audio) ≡ true
none_kept None b audio f h = rw (f refl) refl
none_kept (Some t) None audio f h = refl
none_kept (Some t) (Some u) audio f h = h

-- what the last turns make of it
moves_plain : (row new : Row) → Moves row new → IsPlainBeside row → IsPlainBeside new
moves_plain row new m h = at row.locked refl
  where
    at : (b : Bool) → row.locked ≡ b → IsPlainBeside new
    at true is = rw (m.kept is) h
    at false is =
        let same : new.spec ≡ row.spec = (m.unlocked is).1 in
        let codec : new.spec.codec ≡ row.spec.codec = ap (λ (s : CodecSpec). s.codec) same in
        record {
          spec = rw same h.spec;
          feedback = feedback_kept row new m.feedback codec h.feedback;
          red = rw codec (none_kept row.red new.red (is_audio_codec row.spec.codec) m.red h.red);
        }

each_place : (P : Row → Type 0) (done rest : List Row) (row new : Row) → (P row → P new)
    → IsEach P (done ++ row ∷ rest) → IsEach P (done ++ new ∷ rest)
each_place P [] rest row new f h = (f h.0, h.1)
each_place P (x ∷ done) rest row new f h = (h.0, each_place P done rest row new f h.1)

round_plain : (dictated : Bool) (remote rows after : List Row) → IsEach IsSoundRow remote → IsEach IsPlainBeside rows
    → round dictated remote rows ≡ Ok after → IsEach IsPlainBeside after
unfolding round
round_plain dictated remote rows after sound h e =
    let s = split_ok (standing_rows rows) (λ same. and_then (agreed_rows dictated remote rows rows)
    (λ agreed. settled_rows rows agreed)) after e in
    let a = split_ok (agreed_rows dictated remote rows rows) (λ agreed. settled_rows rows agreed) after s.2 in
    let matched = turns_keep (IsEach IsPlainBeside)
    (λ done row rest. agreed_row dictated remote rows (done ++ row ∷ rest) row)
    (λ done row rest new is. each_place IsPlainBeside done rest row new (λ p. way_plain dictated remote
    (done ++ row ∷ rest) row new (way_of dictated remote rows (done ++ row ∷ rest) row new is) sound p))
    [] rows a.0 a.1 h in
    turns_keep (IsEach IsPlainBeside) (λ done row rest. settled_row rows (done ++ row ∷ rest) row)
    (λ done row rest new is. each_place IsPlainBeside done rest row new (λ p. moves_plain row new
    (moves_of rows (done ++ row ∷ rest) row new is) p)) [] a.0 after a.2 matched

-- types and the rest apart, and together
six : (a b c d e f : Bool) → (a && b && c && d && e && f) ≡ true
    → (a ≡ true) × (b ≡ true) × (c ≡ true) × (d ≡ true) × (e ≡ true) × (f ≡ true)
six true true true true true true h = (refl, refl, refl, refl, refl, refl)
six true true true true true false h = cc
six true true true true false f h = cc
six true true true false e f h = cc
six true true false d e f h = cc
six true false c d e f h = cc
six false b c d e f h = cc

parts : (row : Row) → IsOfWidths row → (has_plain_types row ≡ true) × IsPlainBeside row
parts row h =
    let p = six (has_plain_types row) (is_plain_codec row.spec) (has_plain_feedback row) (has_plain_red row)
    (has_plain_events row.spec) (has_plain_level row.spec) h.others in (
      p.0,
      record {
        spec = record { codec = p.1; events = p.4; level = p.5; ranges = h.ranges; levels = h.levels };
        feedback = p.2;
        red = p.3;
      },
    )

whole : (row : Row) → has_plain_types row ≡ true → IsPlainBeside row → IsOfWidths row
whole row t h = record {
  others = rw (t, h.spec.codec, h.feedback, h.red, h.spec.events, h.spec.level) refl;
  ranges = h.spec.ranges;
  levels = h.spec.levels;
}

all_types : (rows : List Row) → IsEach IsOfWidths rows → list_all has_plain_types rows ≡ true
all_types [] h = refl
all_types (row ∷ rows) h = rw ((parts row h.0).0, all_types rows h.1) refl

all_beside : (rows : List Row) → IsEach IsOfWidths rows → IsEach IsPlainBeside rows
all_beside [] h = tt
all_beside (row ∷ rows) h = ((parts row h.0).1, all_beside rows h.1)

all_whole : (rows : List Row) → list_all has_plain_types rows ≡ true → IsEach IsPlainBeside rows
    → IsEach IsOfWidths rows
all_whole [] t h = tt
all_whole (row ∷ rows) t h =
    let b = two (has_plain_types row) (list_all has_plain_types rows) t in
    (whole row b.0 h.0, all_whole rows b.1 h.1)
  where
    two : (a b : Bool) → (a && b) ≡ true → (a ≡ true) × (b ≡ true)
    two true b e = (refl, e)
    two false b e = cc

pub rounds_keep_widths : RoundsKeepWidths
rounds_keep_widths [] rows after sound h e = subst (IsEach IsOfWidths) (ok_same rows after e) h
rounds_keep_widths (s ∷ sections) rows after sound h e =
    let r = split_ok (round s.dictated s.rows rows) (rounds sections) after e in
    rounds_keep_widths sections r.0 after sound.1
    (all_whole r.0 (types_stay_small s.dictated s.rows rows r.0 (all_types rows h) r.1)
    (round_plain s.dictated s.rows rows r.0 sound.0 (all_beside rows h) r.1)) r.2
