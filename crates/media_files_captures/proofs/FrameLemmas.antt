-- Tags, extension headers and tunnels passed.
use Rattle.std.proofs.Common.{◌≡◌, ℕ, suc, zero, ◌+◌, ◌-◌, ◌<◌, ◌≤◌, List, [], ◌∷◌, length, drop, true, false, refl}
use Rattle.std.proofs.Common.{arith, Some, None, Ok, Err}
use Rattle.media_files_captures.specs.Numbers.{u16_be}
use Rattle.media_files_captures.specs.Network.{Extended, extended, is_tag, untagged}
use Rattle.media_files_captures.specs.Ip.{behind_extensions, extension, is_passed, transport}
use Rattle.media_files_captures.specs.Fragments.{fragment_behind, fragment_of}
use Rattle.media_files_captures.specs.Tunnels.{inside, tunnelled_in}
use Rattle.media_files_captures.specs.Frames.{datagram_behind, datagram_of}
use Rattle.media_files_captures.specs.declared.frames.PassedOver.{PassedOver}

-- with a tag in front, the rest has the same type after its tags
pub untagged-tag : (kind : ℕ) (xs : List ℕ) → is_tag kind ≡ true → 4 ≤ length xs
    → untagged kind xs ≡ untagged (u16_be xs 2) (drop 4 xs)
unfolding untagged
untagged-tag kind [] tag long = absurd (omega arith)
untagged-tag kind (a ∷ []) tag long = absurd (omega arith)
untagged-tag kind (a ∷ b ∷ []) tag long = absurd (omega arith)
untagged-tag kind (a ∷ b ∷ c ∷ []) tag long = absurd (omega arith)
untagged-tag kind (a ∷ b ∷ c ∷ d ∷ rest) tag long = rw tag refl

-- an extension header passed, one fewer may come
pub behind_extensions-more : (most i next : ℕ) (bytes : List ℕ) (e : Extended) → i < most
    → is_passed next bytes ≡ true → extension next bytes ≡ Ok e
    → behind_extensions (most - i) next bytes ≡ behind_extensions (most - (i + 1)) e.next e.rest
unfolding behind_extensions
behind_extensions-more most i next bytes e below is_one read =
    let one : most - i ≡ suc (most - (i + 1)) = omega arith in
    rw (one, is_one, read) refl

-- an extension header that can't be read ends the search
pub behind_extensions-refused : (most i next : ℕ) (bytes : List ℕ) (why : PassedOver) → i < most
    → is_passed next bytes ≡ true → extension next bytes ≡ Err why
    → behind_extensions (most - i) next bytes ≡ Err why
unfolding behind_extensions
behind_extensions-refused most i next bytes why below is_one read =
    let one : most - i ≡ suc (most - (i + 1)) = omega arith in
    rw (one, is_one, read) refl

-- if no extension header is passed, all stays
pub behind_extensions-end : (n next : ℕ) (bytes : List ℕ) → is_passed next bytes ≡ false
    → behind_extensions n next bytes ≡ Ok (extended next bytes)
unfolding behind_extensions
behind_extensions-end zero next bytes none = refl
behind_extensions-end (suc n) next bytes none = rw none refl

-- with no tag in front, or too little after it, all stays
pub untagged-end : (kind : ℕ) (xs : List ℕ) → is_tag kind ≡ false → untagged kind xs ≡ extended kind xs
unfolding untagged
untagged-end kind [] none = refl
untagged-end kind (a ∷ []) none = refl
untagged-end kind (a ∷ b ∷ []) none = refl
untagged-end kind (a ∷ b ∷ c ∷ []) none = refl
untagged-end kind (a ∷ b ∷ c ∷ d ∷ rest) none = rw none refl

pub untagged-short : (kind : ℕ) (xs : List ℕ) → length xs < 4 → untagged kind xs ≡ extended kind xs
unfolding untagged
untagged-short kind [] short = refl
untagged-short kind (a ∷ []) short = refl
untagged-short kind (a ∷ b ∷ []) short = refl
untagged-short kind (a ∷ b ∷ c ∷ []) short = refl
untagged-short kind (a ∷ b ∷ c ∷ d ∷ rest) short = absurd (omega arith)

-- if no more may come, all stays
pub behind_extensions-none : (most i next : ℕ) (bytes : List ℕ) → most ≤ i
    → behind_extensions (most - i) next bytes ≡ Ok (extended next bytes)
unfolding behind_extensions
behind_extensions-none most i next bytes past =
    let none : most - i ≡ zero = omega arith in
    rw none refl

-- a tunnel passed, one fewer may come
pub datagram_behind-more : (most i : ℕ) (t deeper : Extended) → i < most → inside t ≡ Ok (Some deeper)
    → datagram_behind (most - i) t ≡ datagram_behind (most - (i + 1)) deeper
unfolding datagram_behind
datagram_behind-more most i t deeper below read =
    let one : most - i ≡ suc (most - (i + 1)) = omega arith in
    rw (one, read) refl

-- a tunnel that can't be read ends the search
pub datagram_behind-refused : (most i : ℕ) (t : Extended) (why : PassedOver) → i < most → inside t ≡ Err why
    → datagram_behind (most - i) t ≡ Err why
unfolding datagram_behind
datagram_behind-refused most i t why below read =
    let one : most - i ≡ suc (most - (i + 1)) = omega arith in
    rw (one, read) refl

-- if no tunnel is, the datagram has to be here
pub datagram_behind-end : (n : ℕ) (t : Extended) → inside t ≡ Ok None → datagram_behind n t ≡ datagram_of t
unfolding datagram_behind
datagram_behind-end zero t none = refl
datagram_behind-end (suc n) t none = rw none refl

pub datagram_behind-none : (most i : ℕ) (t : Extended) → most ≤ i → datagram_behind (most - i) t ≡ datagram_of t
unfolding datagram_behind
datagram_behind-none most i t past =
    let none : most - i ≡ zero = omega arith in
    rw none refl

-- the same of a fragment
pub fragment_behind-more : (most i : ℕ) (e deeper : Extended) → i < most → tunnelled_in (transport e) ≡ Some deeper
    → fragment_behind (most - i) e ≡ fragment_behind (most - (i + 1)) deeper
unfolding fragment_behind
fragment_behind-more most i e deeper below read =
    let one : most - i ≡ suc (most - (i + 1)) = omega arith in
    rw (one, read) refl

pub fragment_behind-end : (n : ℕ) (e : Extended) → tunnelled_in (transport e) ≡ None
    → fragment_behind n e ≡ fragment_of e
unfolding fragment_behind
fragment_behind-end zero e none = refl
fragment_behind-end (suc n) e none = rw none refl

pub fragment_behind-none : (most i : ℕ) (e : Extended) → most ≤ i → fragment_behind (most - i) e ≡ fragment_of e
unfolding fragment_behind
fragment_behind-none most i e past =
    let none : most - i ≡ zero = omega arith in
    rw none refl
