-- AV1 packets as sequences of OBU elements (RTP payload format for AV1, 4.4 and 4.5).
use Rattle.std.specs.Prelude.{◌≡◌, ℕ, zero, suc, ◌<◌, ◌||◌, Bool, true, false, List, [], ◌∷◌, ◌++◌, length, Option}
use Rattle.std.specs.Prelude.{Some, None, Ok, Err}
use Rattle.payload_core_base.specs.Format.{Fragment, Reading}
use Rattle.payload_core_base.specs.declared.error.PacketError.{PacketError}
use Rattle.payload_core_base.specs.declared.error.PacketError.TheVariants.{ErrAv1CorruptedPacket, ErrShortPacket}
use Rattle.payload_core_base.specs.declared.extra.CodecExtra.{CodecExtra}
use Rattle.payload_core_base.specs.declared.extra.CodecExtra.TheVariants.{Av1}
use Rattle.payload_core_av1.specs.Leb128.{Spells}
use Rattle.payload_core_av1.specs.Obus.{Obu, extension_bytes, has_extension, has_size, is_kept, payload_limit}
use Rattle.payload_core_av1.specs.Obus.{with_its_size}
use Rattle.payload_core_av1.specs.Av1Reading.{begun, complete, count_w, has_n, has_y, has_z, opened, read_av1}
use Rattle.payload_core_av1.specs.Av1Reading.{was_keyframe}

-- A size, a part of that size, then the rest.
pub record IsSized (text part rest : List ℕ) : Type 0 where
  pub size : List ℕ
  pub laid_out : text ≡ size ++ (part ++ rest)
  pub spells : Spells size (length part)

-- OBU elements, each preceded by its size.
abbrev pub AreSized : List ℕ → List (List ℕ) → Type 0
AreSized text [] = text ≡ []
AreSized text (e ∷ es) = (rest : List ℕ) × IsSized text e rest × AreSized rest es

-- OBU elements, each preceded by its size except the last.
abbrev pub AreSizedButLast : List ℕ → List (List ℕ) → Type 0
AreSizedButLast text [] = ⊥
AreSizedButLast text (e ∷ []) = text ≡ e
AreSizedButLast text (e ∷ f ∷ es) = (rest : List ℕ) × IsSized text e rest × AreSizedButLast rest (f ∷ es)

-- A body with these elements: with W = 0 each has its size; otherwise there are W of them, and the last has no size.
abbrev pub IsBody : ℕ → List ℕ → List (List ℕ) → Type 0
IsBody zero body es = AreSized body es
IsBody (suc w) body es = (length es ≡ suc w) × AreSizedButLast body es

-- With S, the payload is preceded by its size.
abbrev pub IsSizeOf : Bool → List ℕ → List ℕ → Type 0
IsSizeOf true size payload = Spells size (length payload)
IsSizeOf false size payload = size ≡ []

abbrev pub HasExtensionIf : Bool → Option ℕ → Type 0
HasExtensionIf true None = ⊥
HasExtensionIf true (Some byte) = Unit {0}
HasExtensionIf false None = Unit {0}
HasExtensionIf false (Some byte) = ⊥

-- The text of an OBU: the header, an extension byte if X is set, the size if S is set, and the payload.
pub record IsObu (text : List ℕ) (o : Obu) : Type 0 where
  pub size : List ℕ
  pub laid_out : text ≡ o.header ∷ (extension_bytes o.extension ++ (size ++ o.payload))
  pub is_extension : HasExtensionIf (has_extension o.header) o.extension
  pub is_size : IsSizeOf (has_size o.header) size o.payload
  pub is_small : length o.payload < payload_limit

-- What an element gives: nothing if it is empty or an OBU that isn't kept; otherwise the OBU with its size.
abbrev pub GivenBy : Bool → Obu → List ℕ → Type 0
GivenBy true o bytes = bytes ≡ with_its_size o
GivenBy false o bytes = bytes ≡ []

abbrev pub IsGiven : List ℕ → List ℕ → Type 0
IsGiven [] bytes = bytes ≡ []
IsGiven (b ∷ bs) bytes = (o : Obu) × IsObu (b ∷ bs) o × GivenBy (is_kept o) o bytes

-- What the elements give, concatenated.
abbrev pub AreGiven : List (List ℕ) → List ℕ → Type 0
AreGiven [] bytes = bytes ≡ []
AreGiven (e ∷ es) bytes = (front : List ℕ) × (behind : List ℕ) × (bytes ≡ front ++ behind) × IsGiven e front
    × AreGiven es behind

-- A packet, what it gives, and the fragment open after it.
pub record IsAv1Packet (fragment : Fragment) (packet written : List ℕ) (after : Fragment) (keyframe : Bool) : Type 0
  where
    pub first : ℕ
    pub body : List ℕ
    pub elements : List (List ℕ)
    pub laid_out : packet ≡ first ∷ body
    pub some_body : 0 < length body
    pub is_body : IsBody (count_w first) body elements
    pub are_given : AreGiven (complete (has_y first) (begun (has_z first) fragment elements).elements) written
    pub is_after : after ≡ opened (has_y first) (begun (has_z first) fragment elements).open_still
        (begun (has_z first) fragment elements).elements
    pub is_keyframe : keyframe ≡ has_n first

-- Every packet with this layout is read this way.
abbrev pub LayoutLaw : Type 0
LayoutLaw = (fragment after : Fragment) (extra : CodecExtra) (packet written : List ℕ) (keyframe : Bool)
    → IsAv1Packet fragment packet written after keyframe
    → read_av1 fragment extra packet ≡ Ok (record
    { written = written; extra = Av1 (record { is_keyframe = was_keyframe extra || keyframe }); fragment = after })

-- The reading is that of a packet with this layout.
pub record IsReadAs (fragment : Fragment) (extra : CodecExtra) (packet : List ℕ) (r : Reading) : Type 0 where
  pub keyframe : Bool
  pub laid : IsAv1Packet fragment packet r.written r.fragment keyframe
  pub extra_is : r.extra ≡ Av1 (record { is_keyframe = was_keyframe extra || keyframe })

-- And no other packet is read.
abbrev pub ReadLaw : Type 0
ReadLaw = (fragment : Fragment) (extra : CodecExtra) (packet : List ℕ) (r : Reading) → read_av1 fragment extra packet
    ≡ Ok r → IsReadAs fragment extra packet r

-- A packet of fewer than two bytes is refused as too short; any other packet that is refused is refused as corrupted.
abbrev pub ShortLaw : Type 0
ShortLaw = (fragment : Fragment) (extra : CodecExtra) (packet : List ℕ)
    → (length packet < 2 → read_av1 fragment extra packet ≡ Err ErrShortPacket)
    × ((e : PacketError) → 1 < length packet → read_av1 fragment extra packet ≡ Err e → e ≡ ErrAv1CorruptedPacket)
