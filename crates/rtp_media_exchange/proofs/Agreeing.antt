-- What is agreed on is what the text of the answer says, section by section.
use Rattle.std.proofs.Common.{◌≡◌, ℕ, Bool, true, false, List, [], ◌∷◌, length, Some, refl, sym}
use Rattle.std.proofs.Common.{arith}
use Rattle.std.specs.Prelude.{if◌then◌else◌}
use Rattle.std.specs.Option.{option_map}
use Rattle.std.specs.Str.{bytes_eq}
use Rattle.rtp_media_exchange.specs.Exchanges.{accepted_agreement, answered_agreement}
use Rattle.rtp_media_sections.specs.Agreement.{Agreed, AgreesOn, agreed_by_accept, agreed_by_answer}
use Rattle.rtp_media_sections.specs.Agreement.{row_of_said, row_of_section, said_of, section_of}
use Rattle.rtp_media_sections.specs.Extensions.{map_of_extmaps}
use Rattle.rtp_media_sections.specs.Sections.{Section, Wanted}

less : {A B : Type 0} (x : A) (xs : List A) (y : B) (ys : List B) → length (x ∷ xs) ≡ length (y ∷ ys)
    → length xs ≡ length ys
less x xs y ys h = omega (arith, h)

answered-rows : (ws : List Wanted) (os ans : List Section) (mid : List ℕ) (pt : ℕ) → length os ≡ length ws
    → length ans ≡ length ws
    → row_of_section (section_of (answered_agreement ws os ans) mid) pt ≡ row_of_said (said_of ans mid) pt
unfolding agreed_by_answer
answered-rows [] [] [] mid pt e f = refl
answered-rows [] [] (a ∷ ans) mid pt e f = absurd (omega (arith, f))
answered-rows [] (o ∷ os) ans mid pt e f = absurd (omega (arith, e))
answered-rows (w ∷ ws) [] ans mid pt e f = absurd (omega (arith, e))
answered-rows (w ∷ ws) (o ∷ os) [] mid pt e f = absurd (omega (arith, f))
answered-rows (w ∷ ws) (o ∷ os) (a ∷ ans) mid pt e f = go (bytes_eq a.mid mid)
    (answered-rows ws os ans mid pt (less o os w ws e) (less a ans w ws f)) where
      go : (b : Bool)
          → row_of_section (section_of (answered_agreement ws os ans) mid) pt ≡ row_of_said (said_of ans mid) pt
          → row_of_section (if b then Some (agreed_by_answer w o a)
          else section_of (answered_agreement ws os ans) mid) pt
          ≡ row_of_said (if b then Some a else said_of ans mid) pt
      go true h = refl
      go false h = h

answered-maps : (ws : List Wanted) (os ans : List Section) (mid : List ℕ) → length os ≡ length ws
    → length ans ≡ length ws
    → option_map (λ (x : Agreed). x.map) (section_of (answered_agreement ws os ans) mid)
    ≡ option_map (λ (s : Section). map_of_extmaps s.extmaps) (said_of ans mid)
unfolding agreed_by_answer
answered-maps [] [] [] mid e f = refl
answered-maps [] [] (a ∷ ans) mid e f = absurd (omega (arith, f))
answered-maps [] (o ∷ os) ans mid e f = absurd (omega (arith, e))
answered-maps (w ∷ ws) [] ans mid e f = absurd (omega (arith, e))
answered-maps (w ∷ ws) (o ∷ os) [] mid e f = absurd (omega (arith, f))
answered-maps (w ∷ ws) (o ∷ os) (a ∷ ans) mid e f = go (bytes_eq a.mid mid)
    (answered-maps ws os ans mid (less o os w ws e) (less a ans w ws f)) where
      go : (b : Bool) → option_map (λ (x : Agreed). x.map) (section_of (answered_agreement ws os ans) mid)
          ≡ option_map (λ (s : Section). map_of_extmaps s.extmaps) (said_of ans mid)
          → option_map (λ (x : Agreed). x.map) (if b then Some (agreed_by_answer w o a)
          else section_of (answered_agreement ws os ans) mid)
          ≡ option_map (λ (s : Section). map_of_extmaps s.extmaps) (if b then Some a else said_of ans mid)
      go true h = refl
      go false h = h

pub answered_agrees : (ws : List Wanted) (os ans : List Section) → length ws ≡ length os → length ws ≡ length ans
    → AgreesOn ans (answered_agreement ws os ans)
answered_agrees ws os ans e f = record {
  rows = λ mid pt. answered-rows ws os ans mid pt (sym e) (sym f);
  maps = λ mid. answered-maps ws os ans mid (sym e) (sym f);
}

accepted-rows : (ws : List Wanted) (ans : List Section) (mid : List ℕ) (pt : ℕ) → length ans ≡ length ws
    → row_of_section (section_of (accepted_agreement ws ans) mid) pt ≡ row_of_said (said_of ans mid) pt
unfolding agreed_by_accept
accepted-rows [] [] mid pt f = refl
accepted-rows [] (a ∷ ans) mid pt f = absurd (omega (arith, f))
accepted-rows (w ∷ ws) [] mid pt f = absurd (omega (arith, f))
accepted-rows (w ∷ ws) (a ∷ ans) mid pt f = go (bytes_eq a.mid mid)
    (accepted-rows ws ans mid pt (less a ans w ws f)) where
      go : (b : Bool)
          → row_of_section (section_of (accepted_agreement ws ans) mid) pt ≡ row_of_said (said_of ans mid) pt
          → row_of_section (if b then Some (agreed_by_accept w a)
          else section_of (accepted_agreement ws ans) mid) pt
          ≡ row_of_said (if b then Some a else said_of ans mid) pt
      go true h = refl
      go false h = h

accepted-maps : (ws : List Wanted) (ans : List Section) (mid : List ℕ) → length ans ≡ length ws
    → option_map (λ (x : Agreed). x.map) (section_of (accepted_agreement ws ans) mid)
    ≡ option_map (λ (s : Section). map_of_extmaps s.extmaps) (said_of ans mid)
unfolding agreed_by_accept
accepted-maps [] [] mid f = refl
accepted-maps [] (a ∷ ans) mid f = absurd (omega (arith, f))
accepted-maps (w ∷ ws) [] mid f = absurd (omega (arith, f))
accepted-maps (w ∷ ws) (a ∷ ans) mid f = go (bytes_eq a.mid mid)
    (accepted-maps ws ans mid (less a ans w ws f)) where
      go : (b : Bool) → option_map (λ (x : Agreed). x.map) (section_of (accepted_agreement ws ans) mid)
          ≡ option_map (λ (s : Section). map_of_extmaps s.extmaps) (said_of ans mid)
          → option_map (λ (x : Agreed). x.map) (if b then Some (agreed_by_accept w a)
          else section_of (accepted_agreement ws ans) mid)
          ≡ option_map (λ (s : Section). map_of_extmaps s.extmaps) (if b then Some a else said_of ans mid)
      go true h = refl
      go false h = h

pub accepted_agrees : (ws : List Wanted) (ans : List Section) → length ws ≡ length ans
    → AgreesOn ans (accepted_agreement ws ans)
accepted_agrees ws ans f = record {
  rows = λ mid pt. accepted-rows ws ans mid pt (sym f);
  maps = λ mid. accepted-maps ws ans mid (sym f);
}
