-- How the packets of sources are numbered and timed if they are sent on.
use Rattle.std.specs.Prelude.{ℕ, ◌+◌, ◌-◌, ◌%◌, ◌^◌, ◌&&◌, ◌==◌, nat_le, nat_lt, max, if◌then◌else◌, List, [], ◌∷◌}
use Rattle.std.specs.Prelude.{◌||◌, ◌++◌, length, drop, Bool, true, false, Option, Some, None, slice_get}
use Rattle.rtp_media_forward.specs.declared.forwarder.Piece.{Piece}
use Rattle.rtp_media_forward.specs.declared.forwarder.Placed.{Placed}

-- What a stream sends on: pieces of sources, oldest first; the first number above all those that it gave; and whether
-- the packet with the greatest number is known to end its frame.
pub record Forwarding : Type 0 where
  pub pieces : List Piece
  pub next : ℕ
  pub whole : Bool

-- What is added to one timestamp so that it becomes the other, on the circle of 2^32 (RFC 3550 5.1).
abbrev pub shift_to : ℕ → ℕ → ℕ
shift_to time at = (at + (2 ^ 32 - time)) % 2 ^ 32

abbrev pub shifted : ℕ → ℕ → ℕ
shifted shift time = (time + shift) % 2 ^ 32

-- Where the numbers of a piece end: at those of the piece after it, the last one's at the end of all numbers.
abbrev pub end_before : List Piece → ℕ
end_before [] = 2 ^ 62
end_before (p ∷ ps) = p.out

-- The number of a source's packet in a piece: the numbers keep their distances.
abbrev pub number_in : Piece → ℕ → ℕ
number_in p number = p.out + (number - p.first)

-- Whether a packet of a source is in a piece that ends here.
abbrev pub is_in : Piece → (end source number : ℕ) → Bool
is_in p end source number = (p.source == source) && (nat_le p.first number && nat_lt (number_in p number) end)

-- The place that a piece gives a source's packet, and the one of a newer piece, if that has one.
abbrev pub placed_by : Piece → (end source number time : ℕ) → Option Placed
placed_by p end source number time =
    if is_in p end source number
    then Some (record { number = number_in p number; time = shifted p.shift time })
    else None

abbrev pub newer_or : Option Placed → Option Placed → Option Placed
newer_or None older = older
newer_or (Some at) older = Some at

-- Under which number and timestamp a source's packet is sent on: by the newest piece that has it.
abbrev pub placed_in : List Piece → (source number time : ℕ) → Option Placed
placed_in [] source number time = None
placed_in (p ∷ ps) source number time =
    newer_or (placed_in ps source number time) (placed_by p (end_before ps) source number time)

abbrev pub placed : Forwarding → (source number time : ℕ) → Option Placed
placed f source number time = placed_in f.pieces source number time

-- After a packet, which ends its frame or doesn't.
abbrev pub after_packet : Forwarding → Option Placed → (ends : Bool) → Forwarding
after_packet f None ends = f
after_packet f (Some p) ends = record f {
  next = max f.next (p.number + 1);
  whole = if nat_le f.next p.number then ends else f.whole;
}

-- Nothing is sent on, and the numbers begin here.
abbrev pub nothing_from : ℕ → Forwarding
nothing_from first = record { pieces = []; next = first; whole = true }

-- Where the next piece begins: one number stays free if the packet before isn't known to end its frame, so that a
-- receiver never takes packets of two pieces for one frame.
abbrev pub start_of : Forwarding → ℕ
start_of f = if f.whole || nat_le (2 ^ 62) f.next then f.next else f.next + 1

-- How many pieces are kept.
abbrev pub most_pieces : ℕ
most_pieces = 64

-- The last ones.
abbrev pub kept : List Piece → List Piece
kept ps = if nat_lt most_pieces (length ps) then drop 1 ps else ps

-- The pieces and one more, which begins here.
abbrev pub pieces_with : Forwarding → (source first out shift : ℕ) → List Piece
pieces_with f source first out shift =
    kept (f.pieces ++ record { source = source; first = first; out = out; shift = shift } ∷ [])

abbrev pub with_pieces : Forwarding → List Piece → Forwarding
with_pieces f pieces = record f { pieces = pieces }

-- One piece more, after all numbers that were given.
abbrev pub with_piece : Forwarding → (source first shift : ℕ) → Forwarding
with_piece f source first shift = record {
  pieces = pieces_with f source first (start_of f) shift;
  next = start_of f;
  whole = true;
}

-- A source from the packet of this number and timestamp on, which gets the timestamp `at`.
abbrev pub switched : Forwarding → (source number time at : ℕ) → Forwarding
switched f source number time at = with_piece f source number (shift_to time at)

-- What is sent on last ends before its source's packet of this number, if that is no lower than what was given: the
-- next piece begins where that packet would be.
abbrev pub ended_by : Forwarding → Option Piece → ℕ → Forwarding
ended_by f None number = f
ended_by f (Some p) number =
    if is_in p (2 ^ 62) p.source number && nat_le f.next (number_in p number)
    then record f { next = number_in p number; whole = true } else f

abbrev pub ended : Forwarding → ℕ → Forwarding
ended f number = ended_by f (slice_get f.pieces (length f.pieces - 1)) number

abbrev pub skipped_by : Forwarding → Option Piece → ℕ → Forwarding
skipped_by f None number = f
skipped_by f (Some p) number = with_piece f p.source number p.shift

-- The source that is sent on last, from a later packet on, on its own clock.
abbrev pub skipped : Forwarding → ℕ → Forwarding
skipped f number = skipped_by f (slice_get f.pieces (length f.pieces - 1)) number

-- Whether a source's packet of this number would get the next number, in the source's last piece.
abbrev pub is_next_in : Forwarding → Option Piece → (source number : ℕ) → Bool
is_next_in f None source number = false
is_next_in f (Some p) source number =
    is_in p (2 ^ 62) source number && (nat_lt number (2 ^ 62) && (number_in p number == f.next))

abbrev pub is_next_of : Forwarding → (source number : ℕ) → Bool
is_next_of f source number = is_next_in f (slice_get f.pieces (length f.pieces - 1)) source number

-- After a packet that carries nothing: if it would get the next number, the packet after it gets that number.
abbrev pub passed_by : Forwarding → Option Piece → (source number : ℕ) → Forwarding
passed_by f None source number = f
passed_by f (Some p) source number =
    if is_next_in f (Some p) source number
    then record f { pieces = pieces_with f p.source (number + 1) f.next p.shift } else f

abbrev pub passed_empty : Forwarding → (source number : ℕ) → Forwarding
passed_empty f source number = passed_by f (slice_get f.pieces (length f.pieces - 1)) source number

-- No packet of a source has a number from here on.
abbrev pub end_of_numbers : ℕ
end_of_numbers = 2 ^ 62

abbrev pub raised : Forwarding → ℕ → Forwarding
raised f count = record f { next = f.next + count }

abbrev pub reserved_by : Forwarding → Option Piece → ℕ → Forwarding
reserved_by f None count = raised (with_piece f 0 end_of_numbers 0) count
reserved_by f (Some p) count = raised (with_piece f p.source end_of_numbers p.shift) count

-- The next so many numbers are kept for others: a piece that no packet of a source is in.
abbrev pub reserved : Forwarding → ℕ → Forwarding
reserved f count = reserved_by f (slice_get f.pieces (length f.pieces - 1)) count
