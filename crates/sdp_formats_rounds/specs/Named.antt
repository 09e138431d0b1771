-- The payload types a round gives a row, given the claimed types, and which rows it refuses.
use Rattle.std.specs.Prelude.{◌≡◌, ◌⊎◌, ℕ, Bool, true, false, not, nat_lt, List, ◌++◌, Option, Some, None, find}
use Rattle.sdp_formats_rounds.specs.declared.error.RoundError.{RoundError}
use Rattle.sdp_formats_rounds.specs.declared.error.RoundError.TheVariants.{NoFreeType, ResendTaken, TypeTaken}
use Rattle.sdp_formats_rounds.specs.Laws.{is_among}
use Rattle.sdp_formats_rounds.specs.Types.{preferred}

-- The types already claimed when it is a row's turn, and the used types, from which no free type is taken.
pub record Claims : Type 0 where
  pub claimed : List ℕ
  pub used : List ℕ

-- The claims plus the types this row was given; `used` counts only for free types.
abbrev pub with_own : List ℕ → Claims → Claims
with_own own c = record { claimed = c.claimed ++ own; used = c.used ++ own }

abbrev pub with_used : List ℕ → Claims → Claims
with_used own c = record { claimed = c.claimed; used = c.used ++ own }

-- The first of the preferred types that isn't used.
abbrev pub free_of : Claims → Option ℕ
free_of c = find (λ t. not (is_among c.used t)) preferred

abbrev pub IsAbove : ℕ → Type 0
IsAbove t = nat_lt 127 t ≡ true

abbrev pub IsOpen : Claims → ℕ → Type 0
IsOpen c t = (nat_lt 127 t ≡ false) × (is_among c.claimed t ≡ false)

abbrev pub IsClaimed : Claims → ℕ → Type 0
IsClaimed c t = (nat_lt 127 t ≡ false) × (is_among c.claimed t ≡ true)

-- The row has no own type, or it is claimed.
abbrev pub HasNoOwn : Claims → Option ℕ → Type 0
HasNoOwn c None = Unit {0}
HasNoOwn c (Some t) = IsClaimed c t

-- A row keeps its own type if that is open, and otherwise gets a free one.
abbrev pub IsKept : Claims → Option ℕ → ℕ → Type 0
IsKept c own t = ((own ≡ Some t) × IsOpen c t) ⊎ (HasNoOwn c own × (free_of c ≡ Some t))

-- It is refused if and only if its own type is above 127, or no type is free.
abbrev pub KeptRefused : (ℕ → RoundError) → Claims → Option ℕ → RoundError → Type 0
KeptRefused taken c own e = ((t : ℕ) × (own ≡ Some t) × IsAbove t × (e ≡ taken t))
    ⊎ (HasNoOwn c own × (free_of c ≡ None) × (e ≡ NoFreeType))

-- A row takes the type of the row it matches, if that is open. If it is claimed and types aren't dictated, the row
-- keeps its own type or gets a free one.
abbrev pub IsAgreed : Bool → Claims → Option ℕ → ℕ → ℕ → Type 0
IsAgreed dictated c own theirs t = ((t ≡ theirs) × IsOpen c theirs)
    ⊎ ((dictated ≡ false) × IsClaimed c theirs × IsKept c own t)

-- It is refused if and only if that type is above 127, or it is dictated and claimed, or the row's own type is refused.
abbrev pub AgreedRefused : (ℕ → RoundError) → Bool → Claims → Option ℕ → ℕ → RoundError → Type 0
AgreedRefused taken dictated c own theirs e = (IsAbove theirs × (e ≡ taken theirs))
    ⊎ ((dictated ≡ true) × IsClaimed c theirs × (e ≡ taken theirs))
    ⊎ ((dictated ≡ false) × IsClaimed c theirs × KeptRefused taken c own e)

-- The RTX type, if the matched row has one.
abbrev pub IsResend : Bool → Claims → Option ℕ → Option ℕ → Option ℕ → Type 0
IsResend dictated c own None new = new ≡ None
IsResend dictated c own (Some theirs) new = (t : ℕ) × (new ≡ Some t) × IsAgreed dictated c own theirs t

abbrev pub ResendRefused : Bool → Claims → Option ℕ → Option ℕ → RoundError → Type 0
ResendRefused dictated c own None e = ⊥
ResendRefused dictated c own (Some theirs) e = AgreedRefused ResendTaken dictated c own theirs e

-- The RTX type of a row that is left unlocked.
abbrev pub IsResendKept : Claims → Option ℕ → Option ℕ → Type 0
IsResendKept c None new = new ≡ None
IsResendKept c (Some own) new = (t : ℕ) × (new ≡ Some t) × IsKept c (Some own) t

abbrev pub ResendKeptRefused : Claims → Option ℕ → RoundError → Type 0
ResendKeptRefused c None e = ⊥
ResendKeptRefused c (Some own) e = KeptRefused ResendTaken c (Some own) e

-- The RED type to agree on: the other end's, if both rows are audio and have one.
abbrev pub red_met : Bool → Option ℕ → Option ℕ → Option ℕ
red_met true (Some own) (Some theirs) = Some theirs
red_met true (Some own) None = None
red_met true None theirs = None
red_met false own theirs = None

-- It is taken if open. If it is claimed: with dictated types RED is dropped; otherwise a free type replaces it, if
-- there is one.
abbrev pub IsRed : Bool → Claims → Option ℕ → Option ℕ → Type 0
IsRed dictated c None new = new ≡ None
IsRed dictated c (Some t) new = (IsOpen c t × (new ≡ Some t))
    ⊎ (IsClaimed c t × (dictated ≡ true) × (new ≡ None)) ⊎ (IsClaimed c t × (dictated ≡ false) × (new ≡ free_of c))

-- It is refused if and only if it is above 127.
abbrev pub RedRefused : Option ℕ → RoundError → Type 0
RedRefused None e = ⊥
RedRefused (Some t) e = IsAbove t × (e ≡ TypeTaken t)
