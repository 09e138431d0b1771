-- A datagram of a stream without redundancy, which has repairs, is repaired.
use Rattle.std.proofs.Common.{◌≡◌, ℕ, ◌+◌, ◌^◌, ◌<◌, ◌≤◌, refl, sym, ◌∙◌, ap, arith}
use Rattle.std.proofs.Common.{Bool, true, false, ◌&&◌, List, [], ◌∷◌, length, true≢false}
use Rattle.std.proofs.lemmas.Bool.Decides.{nat_tests}
use Rattle.std.specs.Prelude.{Option, Some, None, Result, Ok, Err, if◌then◌else◌, is_some, nat_lt, ◌==◌}
use Rattle.std.specs.Option.{option_map}
use Rattle.payload_core_base.specs.Outgoing.{Outgoing}
use Rattle.payload_core_audio.specs.RedHistory.{Redundancy}
use Rattle.rtp_wire.specs.Carried.{AreValues}
use Rattle.rtp_wire.specs.Repairs.{repair_of}
use Rattle.rtp_wire.specs.Header.{header_in, layout_of, payload_in, IsWritable}
use Rattle.rtp_wire.specs.Header as header
use Rattle.rtp_wire.specs.Maps.{empty_map}
use Rattle.rtp_wire.specs.declared.header.RtpHeader.{RtpHeader}
use Rattle.rtp_wire.proofs.HeaderLaws.{header_in-layout, payload_in-spelled, IsLayout-of}
use Rattle.rtp_media_streams.specs.Repairing.{has_byte, is_plainly_own, own_header_len, repair, repair_by}
use Rattle.rtp_media_streams.specs.Repairing.{repair_under}
use Rattle.rtp_media_streams.specs.Sending.{Sending, datagram_of, header_of}
use Rattle.rtp_media_streams.specs.declared.errors.RepairError.{RepairError}
use Rattle.rtp_media_streams.specs.declared.errors.RepairError.TheVariants.{LimitTooSmall}
use Rattle.rtp_media_streams.specs.declared.types.RepairKey.{RepairKey}
use Rattle.rtp_media_streams.proofs.Sent.{writable}
use Rattle.rtp_media_runs.specs.Schedules.{is_made}
use Rattle.rtp_media_forward_runs.specs.Hops.{IsPlain}

eqb-same : (a : ℕ) → (a == a) ≡ true
eqb-same a = grind (arith, nat_tests)

both-true : (a b : Bool) → a ≡ true → b ≡ true → (a && b) ≡ true
both-true true b x y = y
both-true false b x y = absurd (true≢false (sym x))

byte-there : (bytes : List ℕ) → 0 < length bytes → has_byte (Some bytes) ≡ true
byte-there [] some = absurd (omega arith)
byte-there (b ∷ bs) some = refl

-- a datagram of a plain stream that has repairs is repaired
module _ (s : Sending) (n : ℕ) (o : Outgoing) (key : RepairKey) (plain : IsPlain s) (none : s.redundancy ≡ None)
    (has : s.types.repair ≡ Some key) (time : o.time < 2 ^ 32)
    (values : AreValues o.values) (some : 0 < length o.payload)
    (fits : length (datagram_of s n o) + 2 ≤ s.limit) where
  abbrev d : List ℕ
  d = datagram_of s n o

  abbrev bare : RtpHeader
  bare = header.header_of empty_map (layout_of s.map (header_of s n o.marker o.time o.values))

  read : header_in empty_map d ≡ Some bare
  read =
      let wire : s.wire_type < 128 = omega (arith, plain.wire_type, plain.payload_type) in
      let w : IsWritable (header_of s n o.marker o.time o.values) =
      writable s n o.marker o.time o.values wire plain.ssrc time values in
      header_in-layout empty_map (layout_of s.map (header_of s n o.marker o.time o.values)) o.payload
      (IsLayout-of s.map (header_of s n o.marker o.time o.values) w)

  body : payload_in bare d ≡ o.payload
  body = payload_in-spelled s.map (header_of s n o.marker o.time o.values) o.payload

  typed : (s.types.pt == s.wire_type) ≡ true
  typed = ap (λ (t : ℕ). s.types.pt == t) plain.wire_type ∙ eqb-same s.types.pt

  own : is_plainly_own s bare d ≡ true
  own = both-true ((s.ssrc == s.ssrc) && (s.types.pt == s.wire_type)) (has_byte (Some (payload_in bare d)))
      (both-true (s.ssrc == s.ssrc) (s.types.pt == s.wire_type) (eqb-same s.ssrc) typed)
      (ap (λ (b : List ℕ). has_byte (Some b)) body ∙ byte-there o.payload some)

  own-len : own_header_len s (header_in empty_map d) d ≡ Some bare.header_len
  own-len =
      ap (λ (q : Option RtpHeader). own_header_len s q d) read
      ∙ ap (λ (b : Bool). option_map (λ (h : RtpHeader). h.header_len) (if b then Some bare else None)) own

  below : nat_lt s.limit (length d + 2) ≡ false
  below = grind (arith, nat_tests, fits)

  pub is-made : is_made (Some (repair s d)) ≡ true
  is-made =
      ap (λ (k : Option RepairKey). is_made (Some (repair_by s k d)))
      (ap (λ (b : Bool). let k : Option RepairKey = if b then None else s.types.repair in k)
      (ap (λ (r : Option Redundancy). is_some r) none) ∙ has)
      ∙ ap (λ (q : Option ℕ). is_made (Some (repair_under s key q d))) own-len
      ∙ ap (λ (b : Bool). let made : Result (List ℕ) RepairError =
      if b then Err LimitTooSmall
      else Ok (repair_of key.pt s.repairs key.ssrc bare.header_len d) in
      is_made (Some made)) below
