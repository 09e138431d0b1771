-- The bits of the modes that a text lists.
use Rattle.std.proofs.Common.{◌≡◌, ◌⊎◌, inl, inr, ◌↔◌, ℕ, ◌≤◌, ◌<◌, ◌^◌, Bool, true, false, List, [], ◌∷◌}
use Rattle.std.proofs.Common.{Option, Some, None, arith, if◌then◌else◌, max, nat_le, refl, sym, ◌∙◌, ap, subst}
use Rattle.std.specs.Int.{bit_at}
use Rattle.std.specs.Prelude.{bit_or}
use Rattle.std.specs.Str.{trim}
use Rattle.std.proofs.lemmas.Bool.{cases_eq}
use Rattle.std.proofs.lemmas.Bool.Decides.{nat_tests}
use Rattle.std.proofs.lemmas.Nat.Bits.{bit_at-lt, bit_at-pow_other, bit_at-pow_same, bit_at-zero, bit_at_or}
use Rattle.std.proofs.lemmas.Nat.Bits.{same_from_bits}
use Rattle.sdp_formats_grammar.specs.Split.{parts}
use Rattle.sdp_formats_values.specs.Numbers.{modes_of, numeral_below, with_mode, with_modes}
use Rattle.sdp_formats_laws.proofs.Options.{none_some, some_same}
use Rattle.sdp_formats_rounds.specs.Members.{IsIn}
use Rattle.sdp_formats_laws.specs.Modes.{AreModes, IsMode, ModesAreListed, OthersAreNone}

abbrev mode_in : List ℕ → Option ℕ
mode_in part = numeral_below (2 ^ 8) 10 (trim part)

-- one mode more, or none
abbrev Adds : Option ℕ → ℕ → Type 0
Adds o modes = ((mode : ℕ) × (o ≡ Some mode) × (mode ≤ 8) × (with_mode o modes ≡ Some (bit_or modes (2 ^ mode))))
    ⊎ (((mode : ℕ) → (o ≡ Some mode) × (mode ≤ 8) → ⊥) × (with_mode o modes ≡ None))

adds : (o : Option ℕ) (modes : ℕ) → Adds o modes
adds None modes = inr ((λ mode m. none_some m.0), refl)
adds (Some mode) modes = at (nat_le mode 8) refl
  where
    low : nat_le mode 8 ≡ true → mode ≤ 8
    low e = grind (arith, nat_tests)

    high : nat_le mode 8 ≡ false → mode ≤ 8 → ⊥
    high e h = grind (arith, nat_tests)

    at : (b : Bool) → nat_le mode 8 ≡ b → Adds (Some mode) modes
    at true e = inl
        (mode, refl, low e, ap (λ (b : Bool). if b then Some (bit_or modes (2 ^ mode)) else None) e)
    at false e = inr (
      (λ other m. high e (subst (λ n. n ≤ 8) (sym (some_same m.0)) m.1)),
      ap (λ (b : Bool). if b then Some (bit_or modes (2 ^ mode)) else None) e,
    )

stays_none : (texts : List (List ℕ)) → with_modes texts None ≡ None
stays_none [] = refl
stays_none (text ∷ texts) = refl

-- the bits of one mode more
same_bit : (mode m n : ℕ) → mode ≡ m → n < 2 → max n (bit_at (2 ^ mode) m) ≡ 1
same_bit mode m n e small =
    let one : bit_at (2 ^ mode) m ≡ 1 = ap (λ k. bit_at (2 ^ mode) k) (sym e) ∙ bit_at-pow_same mode in
    ap (max n) one ∙ omega (small, arith)

other_bit : (mode m n : ℕ) → (m ≡ mode → ⊥) → max n (bit_at (2 ^ mode) m) ≡ n
other_bit mode m n e = ap (max n) (bit_at-pow_other mode m e) ∙ omega arith

one_more : (modes mode m : ℕ)
    → (bit_at (bit_or modes (2 ^ mode)) m ≡ 1) ↔ ((bit_at modes m ≡ 1) ⊎ (mode ≡ m))
one_more modes mode m = elim (cases_eq mode m) [
  | inl e ↦ (
    (λ _. inr e),
    λ _. bit_at_or modes (2 ^ mode) m ∙ same_bit mode m (bit_at modes m) e (bit_at-lt modes m),
  )
  | inr n ↦ (let e = bit_at_or modes (2 ^ mode) m ∙ other_bit mode m (bit_at modes m) (λ s. n (sym s)) in (
    (λ h. inl (sym e ∙ h)),
    λ h. elim h [ inl k ↦ e ∙ k | inr s ↦ absurd (n s) ],
  ))
]

-- all modes of a list
abbrev Among : ℕ → List (List ℕ) → Type 0
Among mode texts = (text : List ℕ) × IsIn text texts × IsMode mode text

abbrev Bits : List (List ℕ) → ℕ → ℕ → Type 0
Bits texts before modes = (m : ℕ) → (bit_at modes m ≡ 1) ↔ ((bit_at before m ≡ 1) ⊎ Among m texts)

abbrev All : List (List ℕ) → Type 0
All texts = (text : List ℕ) → IsIn text texts → (mode : ℕ) × IsMode mode text

abbrev NotAll : List (List ℕ) → Type 0
NotAll texts = (text : List ℕ) × IsIn text texts × ((mode : ℕ) → IsMode mode text → ⊥)

among_more : (m mode : ℕ) (text : List ℕ) (texts : List (List ℕ)) → IsMode mode text
    → ((mode ≡ m) ⊎ Among m texts) ↔ Among m (text ∷ texts)
among_more m mode text texts is = (
  (λ h. elim h [
    | inl e ↦ (text, inl refl, subst (λ k. IsMode k text) e is)
    | inr a ↦ (a.0, inr a.1, a.2)
  ]),
  λ a. elim a.1 [
    | inl s ↦ inl (some_same (sym is.0 ∙ ap mode_in s ∙ a.2.0))
    | inr i ↦ inr (a.0, i, a.2)
  ],
)

-- the modes of the texts, or a text that is none
abbrev Read : List (List ℕ) → ℕ → Type 0
Read texts before = ((modes : ℕ) × (with_modes texts (Some before) ≡ Some modes) × All texts × Bits texts before modes)
    ⊎ ((with_modes texts (Some before) ≡ None) × NotAll texts)

read : (texts : List (List ℕ)) (before : ℕ) → Read texts before
read [] before = inl (before, refl, (λ text i. absurd i), λ m. (inl, λ h. elim h [ inl e ↦ e | inr a ↦ absurd a.1 ]))
read (text ∷ texts) before = at (adds (mode_in text) before) (λ modes. read texts modes)
  where
    at : Adds (mode_in text) before → ((modes : ℕ) → Read texts modes) → Read (text ∷ texts) before
    at (inr n) later = inr (ap (with_modes texts) n.1 ∙ stays_none texts, (text, inl refl, n.0))
    at (inl a) later = elim (later (bit_or before (2 ^ a.0))) [
      | inl r ↦ inl (
        r.0,
        ap (with_modes texts) a.3 ∙ r.1,
        (λ t i. elim i [
          | inl s ↦ (a.0, subst (λ u. IsMode a.0 u) s (a.1, a.2))
          | inr j ↦ r.2 t j
        ]),
        λ m. (
          (λ e. elim ((r.3 m).0 e) [
            | inl b ↦ elim ((one_more before a.0 m).0 b) [
              | inl k ↦ inl k
              | inr s ↦ inr ((among_more m a.0 text texts (a.1, a.2)).0 (inl s))
            ]
            | inr k ↦ inr ((among_more m a.0 text texts (a.1, a.2)).0 (inr k))
          ]),
          λ h. (r.3 m).1 (elim h [
            | inl k ↦ inl ((one_more before a.0 m).1 (inl k))
            | inr k ↦ elim ((among_more m a.0 text texts (a.1, a.2)).1 k) [
              | inl s ↦ inl ((one_more before a.0 m).1 (inr s))
              | inr j ↦ inr j
            ]
          ]),
        ),
      )
      | inr n ↦ inr (ap (with_modes texts) a.3 ∙ n.0, (n.1.0, inr n.1.1, n.1.2))
    ]

zero_one : (a b : ℕ) → a < 2 → b < 2 → (a ≡ 1 → b ≡ 1) → (b ≡ 1 → a ≡ 1) → a ≡ b
zero_one a b small low h k = elim (cases_eq a 1) [
  | inl e ↦ e ∙ sym (h e)
  | inr n ↦ elim (cases_eq b 1) [
    | inl e ↦ k e ∙ sym e
    | inr m ↦ omega (small, low, n, m, arith)
  ]
]

module _ (text : List ℕ) where
  none_before : (m : ℕ) → bit_at 0 m ≡ 1 → ⊥
  none_before m e = absurd (let z = sym (bit_at-zero m) ∙ e in omega (z, arith))

  all_modes : (modes : ℕ) → Read (parts 44 text) 0 → (modes_of text ≡ Some modes) ↔ AreModes text modes
  all_modes modes (inr n) = (
    (λ e. absurd (none_some (sym n.0 ∙ e))),
    λ a. (let m = a.each n.1.0 n.1.1 in absurd (n.1.2 m.0 m.1)),
  )
  all_modes modes (inl r) =
      let listed : (m : ℕ) → (bit_at r.0 m ≡ 1) ↔ Among m (parts 44 text) = λ m. (
        (λ e. elim ((r.3 m).0 e) [ inl z ↦ absurd (none_before m z) | inr a ↦ a ]),
        λ a. (r.3 m).1 (inr a),
      ) in (
        (λ e. subst (AreModes text) (some_same (sym r.1 ∙ e)) (record { each = r.2; bits = listed })),
        λ a. r.1 ∙ ap Some (same_from_bits r.0 modes (λ m. zero_one (bit_at r.0 m) (bit_at modes m)
            (bit_at-lt r.0 m) (bit_at-lt modes m) (λ e. (a.bits m).1 ((listed m).0 e))
            (λ e. (listed m).1 ((a.bits m).0 e)))),
      )

  other_texts : Read (parts 44 text) 0 → (modes_of text ≡ None) ↔ NotAll (parts 44 text)
  other_texts (inr n) = ((λ _. n.1), λ _. n.0)
  other_texts (inl r) = (
    (λ e. absurd (none_some (sym e ∙ r.1))),
    λ n. (let m = r.2 n.0 n.1 in absurd (n.2 m.0 m.1)),
  )

pub modes_listed : ModesAreListed
modes_listed text modes = all_modes text modes (read (parts 44 text) 0)

pub others_none : OthersAreNone
others_none text = other_texts text (read (parts 44 text) 0)
