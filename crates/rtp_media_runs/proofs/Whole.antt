-- Samples of which one unit or none is sent, by packetizers in one state.
use Rattle.std.proofs.Common.{◌≡◌, ℕ, List, [], ◌∷◌, map, refl, sym, ap, subst, ◌∙◌}
use Rattle.std.proofs.lemmas.List.{append-nil}
use Rattle.payload_core_base.specs.Law.{Coding, joined}
use Rattle.payload_core_base.specs.Packing.{Sender}
use Rattle.rtp_media_runs.specs.Again.{AreSentWhole, ComesAgain, GivesAgain, IsSame, IsKeptBy, unit_bytes}

-- from one state is from a state and one that is the same
pub from-one : (coding : Coding) (IsKept : IsKeptBy)
    → ((s : Sender) (limit : ℕ) (sample : List ℕ) → coding.IsWellFormed limit sample
    → ComesAgain coding IsSame limit s s sample) → GivesAgain coding IsSame IsKept
from-one coding IsKept one s t limit sample same good kept =
    subst (λ (r : Sender). ComesAgain coding IsSame limit s r sample) (sym same) (one s limit sample good)

-- no unit is sent, and the state stays
pub none-sent : (coding : Coding) (s : Sender) (limit : ℕ) (x : List ℕ) → coding.units s limit x ≡ []
    → coding.after s limit x ≡ s → ComesAgain coding IsSame limit s s x
none-sent coding s limit x none stays = record {
  after = s;
  whole =
      subst (λ (us : List (List ℕ)). AreSentWhole coding limit s us s) (sym (ap (λ us. map joined us) none)) refl;
  follows = sym stays;
}

-- one unit is sent, which is its own unit and leads to the same state
pub one-sent : (coding : Coding) (s : Sender) (limit : ℕ) (x y : List ℕ) → unit_bytes coding s limit x ≡ y ∷ []
    → coding.IsWellFormed limit y → unit_bytes coding s limit y ≡ y ∷ []
    → coding.after s limit y ≡ coding.after s limit x → ComesAgain coding IsSame limit s s x
one-sent coding s limit x y unit good own alike = record {
  after = coding.after s limit y;
  whole =
      subst (λ (us : List (List ℕ)). AreSentWhole coding limit s us (coding.after s limit y)) (sym unit)
      (good, own, refl);
  follows = alike;
}

-- the bytes of one unit of one part
pub part-bytes : (us : List (List (List ℕ))) (x : List ℕ) → us ≡ (x ∷ []) ∷ [] → map joined us ≡ x ∷ []
part-bytes us x is = ap (λ vs. map joined vs) is ∙ ap (λ q. q ∷ []) (append-nil x)

-- the sample is its one unit
pub as-it-is : (coding : Coding) (s : Sender) (limit : ℕ) (x : List ℕ) → coding.IsWellFormed limit x
    → coding.units s limit x ≡ (x ∷ []) ∷ [] → ComesAgain coding IsSame limit s s x
as-it-is coding s limit x good is =
    let bytes : unit_bytes coding s limit x ≡ x ∷ [] = part-bytes (coding.units s limit x) x is in
    one-sent coding s limit x x bytes good bytes refl
