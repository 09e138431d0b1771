use Rattle.std.proofs.Common.{◌≡◌, ◌∙◌, IsTrue, List, ℕ, length, subst, sym, take}
use Rattle.std.proofs.Math.Seq.{take-append_seam}
use Rattle.std.proofs.lemmas.Bool.{eqb-true}
use Rattle.std.specs.Cmp.Lexicographic.{same_text}
use Rattle.std.specs.Prelude.{◌-◌, replicate}
use Rattle.rtp_wire.specs.Name.{filled}
use Rattle.rtp_wire.specs.contracts.names.MidEq.TheImpl.Laws.{laws-law}
use Rattle.rtp_wire.specs.contracts.names.MidPartialEq.TheImpl as mids
use Rattle.sdp_formats_data.proofs.Both.{both}
use Rattle.sdp_formats_data.proofs.value_equality.mids_law.Goals as goal

same_front : (a b : List ℕ) → length a ≡ length b → filled 16 a ≡ filled 16 b → a ≡ b
same_front a b n e = sym (take-append_seam a (replicate (16 - length a) 0)) ∙ (λ k. take (n k) (e k))
    ∙ take-append_seam b (replicate (16 - length b) 0)

pub returns : goal.returns
returns c = λ a b. (
  (λ e. let s = both _ _ e in same_front a b (eqb-true _ _ s.1) (same_text _ _ (sym s.0))),
  λ e. subst (λ (z : List ℕ). IsTrue ((mids.ghosts).eq a z)) e (laws-law.refl a),
)
