-- Which stream has an SSRC and a payload type.
use Rattle.std.specs.Prelude.{◌≡◌, ◌⊎◌, ℕ, Bool, ◌==◌, ◌&&◌, Option, Some, None}
use Rattle.std.specs.BTreeMap.{get}
use Rattle.std.specs.Ordering.{nat_cmp, ordering_then}
use Rattle.std.specs.declared.cmp.Ordering.{Ordering}
use Rattle.rtp_media_stream_table.specs.declared.stream_index.StreamIndex.{StreamIndex}
use Rattle.rtp_media_stream_table.specs.declared.stream_index.StreamKey.{StreamKey}

-- By SSRC, and then by payload type.
abbrev pub key_cmp : StreamKey → StreamKey → Ordering
key_cmp a b = ordering_then (nat_cmp a.ssrc b.ssrc) (nat_cmp a.pt b.pt)

-- The number that an index has for an SSRC and a payload type.
abbrev pub number_at : StreamIndex → ℕ → ℕ → Option ℕ
number_at index ssrc pt = get key_cmp index.numbers (record { ssrc = ssrc; pt = pt })

-- Each key has its old value, or this one.
abbrev pub KeepsOrSets : ℕ → StreamIndex → StreamIndex → Type 0
KeepsOrSets number old new = (ssrc pt : ℕ) → (number_at new ssrc pt ≡ number_at old ssrc pt)
    ⊎ (number_at new ssrc pt ≡ Some number)

-- Each key has its old value, or none.
abbrev pub KeepsOrRemoves : StreamIndex → StreamIndex → Type 0
KeepsOrRemoves old new = (ssrc pt : ℕ) → (number_at new ssrc pt ≡ number_at old ssrc pt)
    ⊎ (number_at new ssrc pt ≡ None)

-- Whether these are this SSRC and this payload type.
abbrev pub is_key : ℕ → ℕ → ℕ → ℕ → Bool
is_key ssrc pt s p = (ssrc == s) && (pt == p)
