-- The payload types of rows, and which are taken.
use Rattle.std.specs.Prelude.{ℕ, Bool, false, not, ◌&&◌, ◌||◌, ◌==◌, List, [], ◌∷◌, ◌++◌, filter, find, Option, Some}
use Rattle.std.specs.Prelude.{None}
use Rattle.std.specs.List.{list_any, flat_map}
use Rattle.sdp_formats_rows.specs.Rows.{Row}
use Rattle.sdp_formats_rounds.specs.declared.claims.Own.{Own}

-- The types of a row, in the order type, RTX type, RED type.
abbrev pub listed : Option ℕ → List ℕ
listed None = []
listed (Some t) = t ∷ []

abbrev pub types_of : Row → List ℕ
types_of row = row.pt ∷ (listed row.resend ++ listed row.red)

-- The types of the rows that are locked.
unfoldable pub locked_types : List Row → List ℕ
locked_types rows = flat_map types_of (filter (λ row. row.locked) rows)

abbrev pub is_given : Option ℕ → ℕ → Bool
is_given None t = false
is_given (Some u) t = u == t

abbrev pub has_type : Row → ℕ → Bool
has_type row t = row.pt == t || is_given row.resend t || is_given row.red t

-- The types that a row has been given so far in its turn.
abbrev pub is_own : Own → ℕ → Bool
is_own own t = is_given own.first t || is_given own.second t

-- Whether a locked row has the type.
abbrev pub is_locked_type : List Row → ℕ → Bool
is_locked_type rows t = list_any (λ row. row.locked && has_type row t) rows

-- Whether any row has the type.
abbrev pub is_used : List Row → ℕ → Bool
is_used rows t = list_any (λ row. has_type row t) rows

-- Whether a type is claimed: a locked row has it, or this row was already given it.
abbrev pub is_claimed : List Row → Own → ℕ → Bool
is_claimed rows own t = is_locked_type rows t || is_own own t

-- The types that a row may move to, in the order in which they are tried.
unfoldable pub preferred : List ℕ
preferred = 96 ∷ 97 ∷ 98 ∷ 99 ∷ 100 ∷ 101 ∷ 102 ∷ 103 ∷ 104 ∷ 105 ∷ 106 ∷ 107 ∷ 108 ∷ 109 ∷ 110 ∷ 111 ∷ 112 ∷ 113 ∷
    114 ∷ 115 ∷ 116 ∷ 117 ∷ 118 ∷ 119 ∷ 120 ∷ 121 ∷ 122 ∷ 123 ∷ 124 ∷ 125 ∷ 126 ∷ 127 ∷ 80 ∷ 81 ∷ 82 ∷ 83 ∷ 84 ∷ 85
    ∷ 86 ∷ 87 ∷ 88 ∷ 89 ∷ 90 ∷ 91 ∷ 92 ∷ 93 ∷ 94 ∷ 95 ∷ 77 ∷ 78 ∷ 35 ∷ 36 ∷ 37 ∷ 38 ∷ 39 ∷ 40 ∷ 41 ∷ 42 ∷ 43 ∷ 44 ∷
    45 ∷ 46 ∷ 47 ∷ 48 ∷ 49 ∷ 50 ∷ 51 ∷ 52 ∷ 53 ∷ 54 ∷ 55 ∷ 56 ∷ 57 ∷ 58 ∷ 59 ∷ 60 ∷ 61 ∷ 62 ∷ 63 ∷ 64 ∷ 65 ∷ 66 ∷ 67
    ∷ 68 ∷ 69 ∷ 70 ∷ 71 ∷ []

-- The first preferred type that no row has, or had when the round began, and that this row wasn't given in its turn.
abbrev pub is_free : List Row → List Row → Own → ℕ → Bool
is_free before now own t = not (is_used before t || is_used now t || is_own own t)

abbrev pub free_type : List Row → List Row → Own → Option ℕ
free_type before now own = find (is_free before now own) preferred
