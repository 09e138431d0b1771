-- The blocks so far, and one more.
use Rattle.std.proofs.Common.{◌≡◌, ◌++◌, ◌+◌, ◌-◌, ◌<◌, suc, ℕ, List, [], ◌∷◌, Option, Some, None, refl, sym, ap, ◌∙◌}
use Rattle.std.proofs.Common.{arith, ◌≤◌, ◌==◌, true, false, length, drop, slice_index, nat_lt}
use Rattle.std.specs.Option.{option_to_list}
use Rattle.media_files_captures.specs.Captures.{Packet}
use Rattle.media_files_captures.specs.Runs.{Holds}
use Rattle.media_files_captures.specs.Pcapng.{Block, Reader, block, packet_in, interfaces_after, interfaces_of}
use Rattle.media_files_captures.specs.Pcapng.{packets_of}
use Rattle.media_files_captures.specs.Pcapng.{and_packet, option_byte, is_wanted, padded}
use Rattle.media_files_captures.specs.Numbers.{u16_at}
use Rattle.media_files_captures.specs.declared.interfaces.Interface.{Interface}
use Rattle.media_files_captures.specs.declared.numbers.ByteOrder.{ByteOrder}
use Rattle.media_files_captures.proofs.RunLemmas.{Holds-push}

-- bytes read up to here
pub record IsReadTo (from : Reader) (known : List Interface) (packets : List Packet) (interfaces : List Interface)
    (here : Reader) : Type 0
  where
    pub blocks : List Block
    pub held : Holds block from blocks here
    pub packets_are : packets ≡ packets_of known blocks
    pub interfaces_are : interfaces ≡ interfaces_of known blocks

pub interfaces_of-push : (interfaces : List Interface) (blocks : List Block) (b : Block)
    → interfaces_of interfaces (blocks ++ b ∷ []) ≡ interfaces_after (interfaces_of interfaces blocks) b
interfaces_of-push interfaces [] b = refl
interfaces_of-push interfaces (a ∷ blocks) b = interfaces_of-push (interfaces_after interfaces a) blocks b

pub and_packet-push : (p : Option Packet) (packets more : List Packet)
    → and_packet p (packets ++ more) ≡ and_packet p packets ++ more
and_packet-push None packets more = refl
and_packet-push (Some p) packets more = refl

pub and_packet-last : (p : Option Packet) → and_packet p [] ≡ option_to_list p
and_packet-last None = refl
and_packet-last (Some p) = refl

pub packets_of-push : (interfaces : List Interface) (blocks : List Block) (b : Block)
    → packets_of interfaces (blocks ++ b ∷ [])
    ≡ packets_of interfaces blocks ++ option_to_list (packet_in (interfaces_of interfaces blocks) b)
packets_of-push interfaces [] b = and_packet-last (packet_in interfaces b)
packets_of-push interfaces (a ∷ blocks) b =
    ap (λ (ps : List Packet). and_packet (packet_in interfaces a) ps)
    (packets_of-push (interfaces_after interfaces a) blocks b)
    ∙ and_packet-push (packet_in interfaces a) (packets_of (interfaces_after interfaces a) blocks)
    (option_to_list (packet_in (interfaces_of (interfaces_after interfaces a) blocks) b))

pub read-more : (from : Reader) (known : List Interface) (packets after : List Packet)
    (interfaces then : List Interface) (here next : Reader) (b : Block) → IsReadTo from known packets interfaces here
    → block here ≡ Some (b, next) → after ≡ packets ++ option_to_list (packet_in interfaces b)
    → then ≡ interfaces_after interfaces b → IsReadTo from known after then next
read-more from known packets after interfaces then here next b sofar found taken is = record {
  blocks = sofar.blocks ++ b ∷ [];
  held = Holds-push block from sofar.blocks b here next sofar.held found;
  packets_are = sym (packets_of-push known sofar.blocks b ∙ cc);
  interfaces_are = sym (interfaces_of-push known sofar.blocks b ∙ cc);
}

-- an option passed
pub option_byte-more : (most i : ℕ) (order : ByteOrder) (code : ℕ) (bytes : List ℕ) → i < most → 4 ≤ length bytes
    → (u16_at order bytes 0 ≡ 0 → ⊥) → 4 + padded (u16_at order bytes 2) ≤ length bytes
    → is_wanted order code bytes ≡ false
    → option_byte (most - i) order code bytes
    ≡ option_byte (most - (i + 1)) order code (drop (4 + padded (u16_at order bytes 2)) bytes)
unfolding option_byte
option_byte-more most i order code bytes below room some whole other =
    let one : most - i ≡ suc (most - (i + 1)) = omega arith in
    let a : nat_lt (length bytes) 4 ≡ false = grind arith in
    let b : (u16_at order bytes 0 == 0) ≡ false = grind arith in
    let d : nat_lt (length bytes) (4 + padded (u16_at order bytes 2)) ≡ false = grind arith in
    rw (one, a, b, d, other) refl

-- the option that is sought
pub option_byte-found : (most i : ℕ) (order : ByteOrder) (code : ℕ) (bytes : List ℕ) → i < most → 4 ≤ length bytes
    → (u16_at order bytes 0 ≡ 0 → ⊥) → 4 + padded (u16_at order bytes 2) ≤ length bytes
    → is_wanted order code bytes ≡ true
    → option_byte (most - i) order code bytes ≡ Some (slice_index bytes 4)
unfolding option_byte
option_byte-found most i order code bytes below room some whole wanted =
    let one : most - i ≡ suc (most - (i + 1)) = omega arith in
    let a : nat_lt (length bytes) 4 ≡ false = grind arith in
    let b : (u16_at order bytes 0 == 0) ≡ false = grind arith in
    let d : nat_lt (length bytes) (4 + padded (u16_at order bytes 2)) ≡ false = grind arith in
    rw (one, a, b, d, wanted) refl
