-- The lines so far, and one more.
use Rattle.std.proofs.Common.{◌≡◌, ◌++◌, ◌+◌, ◌<◌, ℕ, List, [], ◌∷◌, length, Option, Some, None, refl, sym, ap, ◌∙◌}
use Rattle.std.proofs.Common.{append-nil, arith, get_or, drop, drop-cons, suc, ◌==◌, false}
use Rattle.std.specs.List.{flat_map}
use Rattle.std.specs.Option.{option_to_list}
use Rattle.std.proofs.lemmas.List.{length-append}
use Rattle.std.proofs.lemmas.List.Concat.{flat_map-append}
use Rattle.media_files_captures.specs.Runs.{Holds}
use Rattle.media_files_captures.specs.HexLines.{Datagram, decimal, digits_behind, hex_line, with_digit, IsBadAt}
use Rattle.media_files_captures.specs.HexLines.{IsHexText}
use Rattle.media_files_captures.proofs.RunLemmas.{Holds-push}

-- a text read up to here
pub record IsReadTo (text : List ℕ) (datagrams : List Datagram) (number : ℕ) (rest : List ℕ) : Type 0 where
  pub lines : List (Option Datagram)
  pub held : Holds hex_line text lines rest
  pub datagrams_are : datagrams ≡ flat_map option_to_list lines
  pub counted : number ≡ length lines

pub read-none : (text : List ℕ) → IsReadTo text [] 0 text
read-none text = record { lines = []; held = refl; datagrams_are = refl; counted = refl }

pub read-more : (text : List ℕ) (datagrams after : List Datagram) (number : ℕ) (rest next : List ℕ)
    (line : Option Datagram) → IsReadTo text datagrams number rest → hex_line rest ≡ Some (line, next)
    → after ≡ datagrams ++ option_to_list line → IsReadTo text after (number + 1) next
read-more text datagrams after number rest next line sofar found taken = record {
  lines = sofar.lines ++ line ∷ [];
  held = Holds-push hex_line text sofar.lines line rest next sofar.held found;
  datagrams_are = taken ∙ ap (λ (v : List Datagram). v ++ option_to_list line) sofar.datagrams_are
      ∙ sym (flat_map-append (λ (l : Option Datagram). option_to_list l) sofar.lines (line ∷ [])
      ∙ ap (λ (v : List Datagram). flat_map option_to_list sofar.lines ++ v) (append-nil (option_to_list line)));
  counted = omega (arith, length-append sofar.lines (line ∷ []), sofar.counted);
}

pub hex_line-end : hex_line [] ≡ None
unfolding hex_line
hex_line-end = refl

pub read-all : (text : List ℕ) (datagrams : List Datagram) (number : ℕ) (rest : List ℕ)
    → IsReadTo text datagrams number rest → length rest ≡ 0 → IsHexText text datagrams
read-all text datagrams number [] sofar none = (sofar.lines, (sofar.held, hex_line-end), sofar.datagrams_are)
read-all text datagrams number (b ∷ rest) sofar none = absurd (omega arith)

pub read-bad : (text : List ℕ) (datagrams : List Datagram) (number : ℕ) (rest : List ℕ)
    → IsReadTo text datagrams number rest → hex_line rest ≡ None → 0 < length rest → IsBadAt text (number + 1)
read-bad text datagrams number rest sofar bad some =
    (sofar.lines, rest, (sofar.held, bad), some, ap (λ (n : ℕ). n + 1) sofar.counted)

pub digits-none : (text : List ℕ) → digits_behind None text ≡ None
digits-none [] = refl
digits-none (c ∷ text) = refl

pub digits-cons : (n c : ℕ) (text : List ℕ) → with_digit n c ≡ None → digits_behind (Some n) (c ∷ text) ≡ None
digits-cons n c text bad = ap (λ (o : Option ℕ). digits_behind o text) bad ∙ digits-none text

-- a byte that is no digit
pub digits-bad : (text : List ℕ) (i n d : ℕ) → i < length text → with_digit n (get_or text i d) ≡ None
    → digits_behind (Some n) (drop i text) ≡ None
digits-bad text i n d below bad = rw (drop-cons text i d) (digits-cons n (get_or text i d) (drop (suc i) text) bad)

pub decimal-is : (text : List ℕ) → (length text ≡ 0 → ⊥) → decimal text ≡ digits_behind (Some 0) text
unfolding decimal
decimal-is text some =
    let none : (length text == 0) ≡ false = grind (arith, some) in
    rw none refl
