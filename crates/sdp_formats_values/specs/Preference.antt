-- Which hash functions of fingerprints are preferred (RFC 8122 5).
use Rattle.std.specs.Prelude.{ℕ, List, codes, if◌then◌else◌}
use Rattle.std.specs.Str.{str_eq_ignore_ascii_case}
use Rattle.sdp_formats_values.specs.declared.fingerprint.Fingerprint.{Fingerprint}

-- The rank of a hash function, 0 first: SHA-256, SHA-1, any other; names are case-insensitive.
abbrev pub place_of_hash : List ℕ → ℕ
place_of_hash name =
    if str_eq_ignore_ascii_case name (codes "sha-256") then 0
    else if str_eq_ignore_ascii_case name (codes "sha-1") then 1
    else 2

unfoldable pub hash_preference : Fingerprint → ℕ
hash_preference print = place_of_hash print.hash_func
