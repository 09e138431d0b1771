-- What packets that are read count.
use Rattle.std.specs.Prelude.{◌≡◌, ◌⊎◌, ℕ, zero, suc, List, [], ◌++◌, length, map, slice_index_or}
use Rattle.benchmarks.specs.Tallies.{tally_with}
use Rattle.benchmarks.specs.declared.tally.Tally.{Tally}
use Rattle.payload_core.specs.Format.{Format, Fragment, Gives}
use Rattle.payload_core.specs.Pops.{no_extra}
use Rattle.payload_core.specs.declared.CodecExtra.{CodecExtra}
use Rattle.benchmarks.specs.declared.formats.Copying.{Copying}
use Rattle.benchmarks.specs.declared.formats.Reading.{Reading}

-- What was read so far: the output bytes, the codec's own data about them, and the open fragment.
pub record Reader : Type 0 where
  pub out : List ℕ
  pub extra : CodecExtra
  pub fragment : Fragment

abbrev pub reader : List ℕ → CodecExtra → Fragment → Reader
reader out extra fragment = record { out = out; extra = extra; fragment = fragment }

-- A packet is read by its format; it is skipped if it is refused or memory runs out.
abbrev pub ReadsOrSkips : Format → List ℕ → Reader → Reader → Type 0
ReadsOrSkips format packet old new =
    Gives (format.read old.fragment old.extra packet) old.out new.out new.extra new.fragment ⊎ (new ≡ old)

-- The first n packets were read in order.
abbrev pub ReadsFirst : Format → List (List ℕ) → ℕ → Reader → Reader → Type 0
ReadsFirst format packets zero old new = new ≡ old
ReadsFirst format packets (suc n) old new = (mid : Reader) × ReadsFirst format packets n old mid
    × ReadsOrSkips format (slice_index_or packets n []) mid new

-- All packets are read, starting with no output; the packets and the output bytes are counted.
pub record CountsRead {D : Type 0} (format : D → Format) (fragment : D → Fragment) (old : Reading D) (number : ℕ)
    (before : Tally) (new : Reading D) (after : Tally) : Type 0 where
  pub extra : CodecExtra
  pub read : ReadsFirst (format old.depacketizer) (map (λ p. p.items) old.packets.now) (length old.packets.now)
      (reader [] no_extra (fragment old.depacketizer))
      (reader new.out.items extra (fragment new.depacketizer))
  pub counted : after ≡ tally_with before (length old.packets.now) (length new.out.items)
  pub format_stays : format new.depacketizer ≡ format old.depacketizer
  pub packets_stay : new.packets ≡ old.packets

-- The first n packets, concatenated; a packet is skipped if memory runs out.
abbrev pub JoinsFirst : List (List ℕ) → ℕ → List ℕ → Type 0
JoinsFirst packets zero text = text ≡ []
JoinsFirst packets (suc n) text = (front : List ℕ) × JoinsFirst packets n front
    × ((text ≡ front ++ slice_index_or packets n []) ⊎ (text ≡ front))

-- The packets are counted, and the bytes that are handed out: what is in the fragment, or none if memory runs out.
pub record CountsCopied (old : Copying) (number : ℕ) (before : Tally) (new : Copying) (after : Tally) : Type 0 where
  pub joined : JoinsFirst (map (λ p. p.items) old.packets.now) (length old.packets.now) new.fragment.items
  pub copied : (new.out.items ≡ new.fragment.items) ⊎ (new.out.items ≡ [])
  pub counted : after ≡ tally_with before (length old.packets.now) (length new.out.items)
  pub packets_stay : new.packets ≡ old.packets
