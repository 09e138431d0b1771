-- Values with texts of their own: candidates (RFC 8839 5.1) and fingerprints (RFC 8122 5).
use Rattle.std.specs.Prelude.{◌≡◌, ◌<◌, ◌↔◌, ◌^◌, ℕ, List, [], ◌∷◌, ◌++◌, codes, Some, IfSome}
use Rattle.sdp_formats_grammar.specs.Split.{Lacks}
use Rattle.sdp_formats_values.specs.FromText.{print_in_text}
use Rattle.sdp_formats_values.specs.Candidates.{candidate}
use Rattle.sdp_formats_reader.specs.Digest.{fingerprint}
use Rattle.sdp_formats_values.specs.PrintedValues.{fingerprint_text}
use Rattle.sdp_formats_values.specs.PrintedCandidates.{candidate_text}
use Rattle.sdp_formats_values.specs.declared.candidate.Candidate.{Candidate}
use Rattle.sdp_formats_values.specs.declared.candidate.RelatedAddress.{RelatedAddress}
use Rattle.sdp_formats_values.specs.declared.fingerprint.Fingerprint.{Fingerprint}
use Rattle.sdp_formats_laws.specs.CandidateWords.{IsOneWord}
use Rattle.sdp_formats_laws.specs.Printable.{AreBelow}

-- A candidate whose texts are words, with numbers of their widths.
abbrev pub IsRelatedOfWords : RelatedAddress → Type 0
IsRelatedOfWords r = IsOneWord r.addr × (r.port < 2 ^ 16)

abbrev pub IsOfWords : Candidate → Type 0
IsOfWords c = IsOneWord c.foundation × (c.component_id < 2 ^ 16) × (c.prio < 2 ^ 32) × IsOneWord c.addr
    × (c.port < 2 ^ 16) × IfSome c.related IsRelatedOfWords × IfSome c.ufrag IsOneWord

-- Exactly such candidates print as `candidate:` and a text that is read back as the candidate.
abbrev pub PrintedCandidatesComeBack : Type 0
PrintedCandidatesComeBack = (c : Candidate) → IsOfWords c
    ↔ ((text : List ℕ) × (candidate_text c ≡ codes "candidate:" ++ text) × (candidate text ≡ Some c))

-- Every candidate that was read is such a one.
abbrev pub ReadCandidatesAreOfWords : Type 0
ReadCandidatesAreOfWords = (text : List ℕ) (c : Candidate) → candidate text ≡ Some c → IsOfWords c

-- A digest: a byte at least.
abbrev pub IsDigest : List ℕ → Type 0
IsDigest [] = ⊥
IsDigest (b ∷ bs) = AreBelow (2 ^ 8) (b ∷ bs)

-- A fingerprint reads back from its printed text if and only if it has a digest and its hash function's name is a word.
abbrev pub IsNamedDigest : Fingerprint → Type 0
IsNamedDigest f = IsOneWord f.hash_func × IsDigest f.bytes

abbrev pub PrintedFingerprintsComeBack : Type 0
PrintedFingerprintsComeBack = (f : Fingerprint) → IsNamedDigest f ↔ (fingerprint.reads (fingerprint_text f) ≡ Some f)

-- Each fingerprint that is read of a text is such a one.
abbrev pub ReadFingerprintsAreNamed : Type 0
ReadFingerprintsAreNamed = (text : List ℕ) (f : Fingerprint) → fingerprint.reads text ≡ Some f → IsNamedDigest f

-- If bytes are read as Rust reads hexadecimal numbers, the name may also be empty.
abbrev pub FingerprintsComeBackFromText : Type 0
FingerprintsComeBackFromText = (f : Fingerprint) → Lacks 32 f.hash_func → IsDigest f.bytes
    → print_in_text.reads (fingerprint_text f) ≡ Some f
