-- Where a payload is in its datagram.
use Rattle.std.proofs.Common.{◌≡◌, ℕ, zero, suc, ◌+◌, ◌*◌, ◌-◌, ◌<◌, ◌≤◌, refl, sym, ◌∙◌, ap, ap₂, arith, Bool}
use Rattle.std.proofs.Common.{true}
use Rattle.std.proofs.Common.{false, List, [], ◌∷◌, ◌++◌, length, take, drop}
use Rattle.std.proofs.lemmas.List.{append-nil, drop-append-le, drop-drop, length-append, length-drop, take-append-drop}
use Rattle.std.proofs.Math.Seq.{take-append_seam}
use Rattle.std.specs.Prelude.{Option, Some, None, ◌==◌, if◌then◌else◌, option_and_then, slice_range}
use Rattle.std.specs.Prelude.{slice_index}
use Rattle.rtp_wire.specs.Header.{payload_in}
use Rattle.rtp_wire.specs.Padding.{unpadded, without}
use Rattle.rtp_wire.specs.Repairs.{Wrapped, wrapped_in}
use Rattle.rtp_wire.specs.declared.header.RtpHeader.{RtpHeader}
use Rattle.payload_core_audio.specs.RedReading.{count_of_blocks, items_from, pt_at, read_blocks, read_red}
use Rattle.payload_core_audio.specs.RedReading.{size_at}
use Rattle.rtp_media_streams.specs.Receiving.{brought, carried, plain_brought}
use Rattle.rtp_media_streams.specs.Redundant.{primary_of, unwrapped}
use Rattle.rtp_media_streams.specs.Types.{is_plain_key}
use Rattle.rtp_media_streams.specs.declared.types.PayloadTypes.{PayloadTypes}

-- all but some first bytes
abbrev Ends : List ℕ → List ℕ → Type 0
Ends bytes part = (count : ℕ) × (part ≡ drop count bytes)

by-length : (count : ℕ) (bytes : List ℕ) → drop count bytes ≡ drop (length bytes - length (drop count bytes)) bytes
by-length zero bytes = let none : length bytes - length bytes ≡ 0 = omega arith in
    ap (λ (n : ℕ). drop n bytes) (sym none)
by-length (suc count) [] = refl
by-length (suc count) (b ∷ bytes) =
    let fewer : length (drop count bytes) ≤ length bytes = omega (arith, length-drop count bytes) in
    let next : length (b ∷ bytes) - length (drop count bytes) ≡ suc (length bytes - length (drop count bytes)) =
    omega (arith, fewer) in
    by-length count bytes ∙ ap (λ (n : ℕ). drop n (b ∷ bytes)) (sym next)

-- the last so many
pub last-bytes : (bytes part : List ℕ) → Ends bytes part → part ≡ drop (length bytes - length part) bytes
last-bytes bytes part ends =
    ends.1 ∙ by-length ends.0 bytes
    ∙ ap (λ (p : List ℕ). drop (length bytes - length p) bytes) (sym ends.1)

pub no-longer : (bytes part : List ℕ) → Ends bytes part → length part ≤ length bytes
no-longer bytes part ends = omega (arith, ap length ends.1, length-drop ends.0 bytes)

-- a primary payload is the end of its packet
primary-ends : (n : ℕ) (headers payloads : List ℕ) (pt : ℕ) (part : List ℕ)
    → primary_of pt (items_from n headers payloads) ≡ Some part → Ends payloads part
primary-ends zero headers payloads pt part h = cc
primary-ends (suc zero) headers payloads pt part h = go (pt_at headers == pt) h where
  go : (b : Bool) → (if b then Some payloads else None) ≡ Some part → Ends payloads part
  go true e = (0, cc)
  go false e = cc
primary-ends (suc (suc n)) headers payloads pt part h =
    let ends = primary-ends (suc n) (drop 4 headers) (drop (size_at headers) payloads) pt part h in
    (size_at headers + ends.0, ends.1 ∙ drop-drop ends.0 (size_at headers) payloads)

red-ends : (pt : ℕ) (packet part : List ℕ) → option_and_then (primary_of pt) (read_red packet) ≡ Some part
    → Ends packet part
red-ends pt packet part h = go (count_of_blocks packet) h where
  read : (n : ℕ) (b : Bool) →
      option_and_then (primary_of pt) (if b then Some (items_from (suc n) packet (drop (4 * n + 1) packet)) else None)
      ≡ Some part → Ends packet part
  read n true e =
      let ends = primary-ends (suc n) packet (drop (4 * n + 1) packet) pt part e in
      (4 * n + 1 + ends.0, ends.1 ∙ drop-drop ends.0 (4 * n + 1) packet)
  read n false e = cc

  go : (o : Option ℕ) → option_and_then (primary_of pt) (option_and_then (read_blocks packet) o) ≡ Some part
      → Ends packet part
  go None e = cc
  go (Some n) e = read n _ e

pub unwrapped-ends : (types : PayloadTypes) (pt : ℕ) (packet part : List ℕ)
    → unwrapped types pt packet ≡ Some part → Ends packet part
unwrapped-ends types pt packet part h = go (types.pt == pt) h where
  go : (b : Bool) → (if b then Some packet else option_and_then (primary_of types.pt) (read_red packet)) ≡ Some part
      → Ends packet part
  go true e = (0, cc)
  go false e = red-ends types.pt packet part e

pub wrapped-ends : (packet : List ℕ) (w : Wrapped) → wrapped_in packet ≡ Some w → Ends packet w.payload
wrapped-ends [] w h = cc
wrapped-ends (a ∷ []) w h = cc
wrapped-ends (a ∷ b ∷ []) w h = cc
wrapped-ends (a ∷ b ∷ c ∷ rest) w h = (2, cc)

-- what follows a header, without its padding
unpadded-front : (padded : Bool) (payload bytes : List ℕ) → unpadded padded payload ≡ Some bytes
    → (rest : List ℕ) × (payload ≡ bytes ++ rest)
unpadded-front false payload bytes h = ([], (let e : payload ≡ bytes = cc in e) ∙ sym (append-nil bytes))
unpadded-front true payload bytes h = go (slice_index payload (length payload - 1)) h where
  by : (count : ℕ) (b : Bool) → (if b then None else Some (take (length payload - count) payload)) ≡ Some bytes
      → (rest : List ℕ) × (payload ≡ bytes ++ rest)
  by count true e = cc
  by count false e =
      let is : bytes ≡ take (length payload - count) payload = cc in (
        drop (length payload - count) payload,
        sym (take-append-drop (length payload - count) payload)
            ∙ ap (λ (bs : List ℕ). bs ++ drop (length payload - count) payload) (sym is),
      )

  go : (count : ℕ) → without count payload ≡ Some bytes → (rest : List ℕ) × (payload ≡ bytes ++ rest)
  go count e = by count _ e

-- its last bytes, by their place in the datagram
pub at-place : (datagram : List ℕ) (header_len : ℕ) (padded : Bool) (bytes : List ℕ) (len : ℕ)
    → unpadded padded (drop header_len datagram) ≡ Some bytes → len ≤ length bytes
    → drop (length bytes - len) bytes
    ≡ slice_range datagram (header_len + length bytes - len) (header_len + length bytes)
at-place datagram header_len padded bytes len h le =
    let front = unpadded-front padded (drop header_len datagram) bytes h in
    let j : ℕ = length bytes - len in
    let start : header_len + length bytes - len ≡ header_len + j = omega (arith, le) in
    let size : header_len + length bytes - (header_len + j) ≡ len = omega (arith, le) in
    let long : length (drop j bytes) ≡ len = omega (arith, length-drop j bytes, le) in
    let behind : drop (header_len + j) datagram ≡ drop j bytes ++ front.0 =
    sym (drop-drop j header_len datagram) ∙ ap (drop j) front.1 ∙ drop-append-le j bytes front.0 (omega arith) in
    sym (ap (λ (s : ℕ). take (header_len + length bytes - s) (drop s datagram)) start
    ∙ ap₂ (λ (n : ℕ) (xs : List ℕ). take n xs) (size ∙ sym long) behind
    ∙ take-append_seam (drop j bytes) front.0)

pub ends-within : (datagram : List ℕ) (header_len : ℕ) (padded : Bool) (bytes : List ℕ)
    → unpadded padded (drop header_len datagram) ≡ Some bytes → header_len ≤ length datagram
    → header_len + length bytes ≤ length datagram
ends-within datagram header_len padded bytes h le =
    let front = unpadded-front padded (drop header_len datagram) bytes h in
    omega (arith, le, length-drop header_len datagram, ap length front.1, length-append bytes front.0)

-- what is brought is what is carried
by-key : (plain : Bool) (types : PayloadTypes) (header : RtpHeader) (o : Option (List ℕ)) →
    (if plain then plain_brought header (option_and_then (unwrapped types header.payload_type) o)
    else option_and_then wrapped_in o)
    ≡ option_and_then (λ (u : List ℕ). if plain then plain_brought header (unwrapped types header.payload_type u)
    else wrapped_in u) o
by-key true types header None = refl
by-key true types header (Some u) = refl
by-key false types header None = refl
by-key false types header (Some u) = refl

pub carried-is : (ssrc : ℕ) (types : PayloadTypes) (header : RtpHeader) (datagram : List ℕ) (o : Option (List ℕ))
    → unpadded header.has_padding (payload_in header datagram) ≡ o
    → brought ssrc types header datagram ≡ option_and_then (carried ssrc types header) o
carried-is ssrc types header datagram o is =
    by-key (is_plain_key ssrc types header.ssrc header.payload_type) types header
    (unpadded header.has_padding (payload_in header datagram))
    ∙ ap (option_and_then (carried ssrc types header)) is

pub plain-some : (header : RtpHeader) (payload : List ℕ) → 0 < length payload
    → plain_brought header (Some payload) ≡ Some (record { number = header.sequence_number; payload = payload })
plain-some header [] some = absurd (omega (arith, some))
plain-some header (b ∷ bytes) some = refl
