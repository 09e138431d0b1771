-- The layout of an extension block: elements, padding bytes, and what ends them (RFC 8285 4.2 and 4.3).
use Rattle.std.specs.Prelude.{ℕ, ◌/◌, ◌%◌, ◌≡◌, ◌≤◌, ◌<◌, ◌⊎◌, ◌==◌, ◌||◌, Bool, true, false, List, [], ◌∷◌, ◌++◌}
use Rattle.std.specs.Prelude.{length}
use Rattle.std.specs.List.{flat_map}
use Rattle.rtp_wire.specs.declared.extension.Extension.{Extension}
use Rattle.rtp_wire.specs.declared.extension.Extension.TheVariants.{AbsoluteSendTime, AbsoluteCaptureTime}
use Rattle.rtp_wire.specs.declared.extension.Extension.TheVariants.{AudioLevel, VideoOrientation}
use Rattle.rtp_wire.specs.declared.extension.Extension.TheVariants.{TransportSequenceNumber, PlayoutDelay}
use Rattle.rtp_wire.specs.declared.extension.Extension.TheVariants.{VideoContentType, RtpStreamId}
use Rattle.rtp_wire.specs.declared.extension.Extension.TheVariants.{RepairedRtpStreamId, RtpMid}
use Rattle.rtp_wire.specs.declared.extension.Extension.TheVariants.{UnknownUri}
use Rattle.rtp_wire.specs.declared.values.ExtensionValues.{ExtensionValues}
use Rattle.rtp_wire.specs.Elements.{Element, Numbering, element_text, lookup, with_element}

-- A byte of padding, or an element.
pub data Piece : Type 0 where
  Padding : (byte : ℕ) → Piece
  Holds : (element : Element) → Piece

abbrev pub piece_text : Bool → Piece → List ℕ
piece_text one (Padding byte) = byte ∷ []
piece_text one (Holds element) = element_text one element

-- One-byte form: padding has id 0, whatever its length bits; ids are 1 to 14, and values 1 to 16 bytes. Two-byte form:
-- padding is 0, and a value may be empty.
abbrev pub IsPiece : Bool → Piece → Type 0
IsPiece true (Padding byte) = byte < 16
IsPiece true (Holds e) = (1 ≤ e.id) × (e.id ≤ 14) × (1 ≤ length e.bytes) × (length e.bytes ≤ 16)
IsPiece false (Padding byte) = byte ≡ 0
IsPiece false (Holds e) = 1 ≤ e.id

abbrev pub ArePieces : Bool → List Piece → Type 0
ArePieces one [] = Unit {0}
ArePieces one (piece ∷ pieces) = IsPiece one piece × ArePieces one pieces

abbrev pub AreBytes : List ℕ → Type 0
AreBytes [] = Unit {0}
AreBytes (byte ∷ bytes) = (byte < 256) × AreBytes bytes

-- What ends the elements: the end of the block; id 15 in the one-byte form; or an element that exceeds the block.
abbrev pub EndsElements : Bool → List ℕ → Type 0
EndsElements true [] = Unit {0}
EndsElements true (first ∷ rest) = (first / 16 ≡ 15) ⊎ ((1 ≤ first / 16) × (length rest ≤ first % 16))
EndsElements false [] = Unit {0}
EndsElements false (id ∷ []) = 1 ≤ id
EndsElements false (id ∷ count ∷ rest) = (1 ≤ id) × (length rest < count)

-- The bytes are these pieces, and what ends them.
pub record IsLaidOut (one : Bool) (bytes : List ℕ) (pieces : List Piece) (end : List ℕ) : Type 0 where
  pub spelled : bytes ≡ flat_map (piece_text one) pieces ++ end
  pub are_pieces : ArePieces one pieces
  pub ends : EndsElements one end

-- The values after a piece; of several elements for one extension the last counts, and an element whose id has no
-- extension is ignored.
abbrev pub said_by_piece : Numbering → Piece → ExtensionValues → ExtensionValues
said_by_piece map (Padding byte) values = values
said_by_piece map (Holds e) values = with_element (lookup map e.id) e.bytes values

abbrev pub said_by_pieces : Numbering → List Piece → ExtensionValues → ExtensionValues
said_by_pieces map [] values = values
said_by_pieces map (piece ∷ pieces) values = said_by_pieces map pieces (said_by_piece map piece values)

-- The lengths that an extension's value may have: a text has any.
abbrev pub may_have_length : Extension → ℕ → Bool
may_have_length AbsoluteSendTime n = n == 3
may_have_length AbsoluteCaptureTime n = (n == 8) || (n == 16)
may_have_length AudioLevel n = n == 1
may_have_length VideoOrientation n = n == 1
may_have_length TransportSequenceNumber n = n == 2
may_have_length PlayoutDelay n = n == 3
may_have_length VideoContentType n = n == 1
may_have_length RtpStreamId n = true
may_have_length RepairedRtpStreamId n = true
may_have_length RtpMid n = true
may_have_length (UnknownUri uri) n = false
