-- A file in its pieces.
use Rattle.std.proofs.Common.{◌≡◌, ◌+◌, ℕ, List, [], ◌∷◌, ◌++◌, length, sym, ap, ◌∙◌, append_assoc}
use Rattle.std.proofs.lemmas.List.{length-append}
use Rattle.media_files.specs.Ebml.{element, element_front}
use Rattle.media_files.specs.Mkv.{Block, Track, clusters_after, ebml_header, info, mkv_file, mkv_front, segment}
use Rattle.media_files.specs.Mkv.{segment_front, track_entries}

pub segment-pieces : (duration : ℕ) (tracks : List Track) (blocks : List Block)
    → segment duration tracks blocks ≡ segment_front duration tracks ++ clusters_after 0 [] blocks
unfolding segment segment_front
segment-pieces duration tracks blocks = sym (append_assoc (info duration)
    (element (0x16 ∷ (0x54 ∷ (0xae ∷ (0x6b ∷ [])))) (track_entries 1 tracks)) (clusters_after 0 [] blocks))

pub element-pieces : (id front rest : List ℕ)
    → element id (front ++ rest) ≡ element_front id (length front + length rest) ++ (front ++ rest)
unfolding element
element-pieces id front rest = rw (length-append front rest) (sym (append_assoc id _ (front ++ rest)))

abbrev front-of : ℕ → List Track → List Block → List ℕ
front-of duration tracks blocks = element_front (0x18 ∷ (0x53 ∷ (0x80 ∷ (0x67 ∷ []))))
    (length (segment_front duration tracks) + length (clusters_after 0 [] blocks))

pub pieces : (duration : ℕ) (tracks : List Track) (blocks : List Block) → mkv_file duration tracks blocks
    ≡ mkv_front duration tracks (length (clusters_after 0 [] blocks)) ++ clusters_after 0 [] blocks
unfolding mkv_file mkv_front
pieces duration tracks blocks =
    ap (λ (bytes : List ℕ). ebml_header ++ element (0x18 ∷ (0x53 ∷ (0x80 ∷ (0x67 ∷ [])))) bytes)
    (segment-pieces duration tracks blocks)
    ∙ ap (λ (bytes : List ℕ). ebml_header ++ bytes) (element-pieces (0x18 ∷ (0x53 ∷ (0x80 ∷ (0x67 ∷ []))))
    (segment_front duration tracks) (clusters_after 0 [] blocks))
    ∙ sym (append_assoc ebml_header (front-of duration tracks blocks ++ segment_front duration tracks)
    (clusters_after 0 [] blocks)
    ∙ ap (λ (bytes : List ℕ). ebml_header ++ bytes) (append_assoc (front-of duration tracks blocks)
    (segment_front duration tracks) (clusters_after 0 [] blocks)))
