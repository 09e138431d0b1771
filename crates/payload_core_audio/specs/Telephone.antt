-- Telephone events (RFC 4733).
use Rattle.std.specs.Prelude.{◌≡◌, ℕ, ◌≤◌, true, List, [], ◌∷◌, length, nat_lt, Result, Ok, Err, if◌then◌else◌}
use Rattle.payload_core_base.specs.Format.{Format, Fragment, Reading}
use Rattle.payload_core_base.specs.Law.{Coding}
use Rattle.payload_core_base.specs.Packing.{Packing, Sender, Sent}
use Rattle.payload_core_base.specs.Telephone.{event_of, is_reports, without_r}
use Rattle.payload_core_base.specs.declared.error.PacketError.{PacketError}
use Rattle.payload_core_base.specs.declared.error.PacketError.TheVariants.{ErrPayloadTooLarge, InvalidTelephoneEvent}
use Rattle.payload_core_base.specs.declared.extra.CodecExtra.{CodecExtra}
use Rattle.payload_core_base.specs.declared.extra.CodecExtra.TheVariants.{Tele}
use Rattle.payload_core_base.specs.Stateless.{AnySender, no_marker, sent_as, stays_idle, unit_of_piece}

-- The reports are sent unchanged, in one packet.
abbrev pub pack_reports : Sender → ℕ → List ℕ → Result Sent PacketError
pack_reports sender limit [] = sent_as sender []
pack_reports sender limit (b ∷ bs) =
    if is_reports (b ∷ bs) then (if nat_lt limit (length (b ∷ bs)) then Err ErrPayloadTooLarge
    else sent_as sender ((b ∷ bs) ∷ []))
    else Err InvalidTelephoneEvent

abbrev pub telephone_packing : Packing
telephone_packing = record { pack = pack_reports; marks = no_marker }

-- The first report with R clear; none if there are fewer than four bytes.
abbrev pub first_report : List ℕ → List ℕ
first_report (event ∷ flags ∷ high ∷ low ∷ rest) = event ∷ without_r flags ∷ high ∷ low ∷ []
first_report _ = []

-- The first report is output with R clear, and reported as an event with a duration by the clock rate.
abbrev pub reading_of_reports : ℕ → Fragment → List ℕ → Result Reading PacketError
reading_of_reports rate fragment (event ∷ flags ∷ high ∷ low ∷ rest) =
    Ok (record {
      written = first_report (event ∷ flags ∷ high ∷ low ∷ rest);
      extra =
          Tele (event_of rate event flags high low);
      fragment = fragment;
    })
reading_of_reports rate fragment _ = Err InvalidTelephoneEvent

-- A packet is a nonempty multiple of four bytes.
abbrev pub read_reports : ℕ → Fragment → CodecExtra → List ℕ → Result Reading PacketError
read_reports rate fragment extra packet = if is_reports packet then reading_of_reports rate fragment packet
    else Err InvalidTelephoneEvent

-- Every packet is a head and a tail.
abbrev pub telephone_format : ℕ → Format
telephone_format rate = record { head = λ packet. true; tail = λ marker packet. true; read = read_reports rate }

-- A single report within the limit is well-formed, and its unit is the report with R clear.
abbrev pub telephone_coding : ℕ → Coding
telephone_coding rate = record {
  packing = telephone_packing;
  format = telephone_format rate;
  IsReached = AnySender;
  IsWellFormed = λ limit sample. (length sample ≡ 4) × (length sample ≤ limit);
  units = λ sender limit sample. unit_of_piece (first_report sample) ∷ [];
  after = stays_idle;
}
