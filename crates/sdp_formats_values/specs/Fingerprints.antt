-- Fingerprints of certificates (RFC 8122 5).
use Rattle.std.specs.Prelude.{ℕ, List}
use Rattle.sdp_formats_values.specs.declared.fingerprint.Fingerprint.{Fingerprint}

-- The fingerprint of a hash function's name and a digest.
abbrev pub make_fingerprint : List ℕ × List ℕ → Fingerprint
make_fingerprint x = record { hash_func = x.0; bytes = x.1 }
