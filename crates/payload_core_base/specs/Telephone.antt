-- Telephone event reports (RFC 4733 2.3).
use Rattle.std.specs.Prelude.{◌≡◌, ℕ, ◌+◌, ◌*◌, ◌/◌, ◌%◌, ◌<◌, ◌==◌, ◌&&◌, Bool, List, [], ◌∷◌, length, nat_lt}
use Rattle.std.specs.Prelude.{nat_le, Option, Some, None, if◌then◌else◌}
use Rattle.payload_core_base.specs.declared.telephone_event.TelephoneEvent.{TelephoneEvent}

-- Clock ticks as nanoseconds, rounded down.
abbrev pub nanoseconds_of : ℕ → ℕ → ℕ
nanoseconds_of rate ticks = ticks * 1000000000 / rate

-- Nanoseconds as clock ticks, rounded up.
abbrev pub ticks_of : ℕ → ℕ → ℕ
ticks_of rate nanoseconds = (nanoseconds * rate + 999999999) / 1000000000

-- The four-byte event: event code, E bit, R bit (ignored), six bits of volume, and the duration in ticks.
abbrev pub event_of : ℕ → ℕ → ℕ → ℕ → ℕ → TelephoneEvent
event_of rate event flags high low = record
    { event = event; end = nat_le 128 flags; volume = flags % 64; duration = nanoseconds_of rate (high * 256 + low) }

-- The first report of a text.
abbrev pub first_event : ℕ → List ℕ → Option TelephoneEvent
first_event rate (event ∷ flags ∷ high ∷ low ∷ rest) = Some (event_of rate event flags high low)
first_event rate _ = None

-- The reports of a text, four bytes each, in order.
abbrev pub events_of : ℕ → List ℕ → List TelephoneEvent
events_of rate (event ∷ flags ∷ high ∷ low ∷ rest) = event_of rate event flags high low ∷ events_of rate rest
events_of rate _ = []

-- A text of reports has a nonzero multiple of four bytes.
abbrev pub is_reports : List ℕ → Bool
is_reports bytes = nat_lt 0 (length bytes) && (length bytes % 4 == 0)

-- The four bytes of a report, with R clear, if volume and duration fit.
abbrev pub report_of : ℕ → TelephoneEvent → Option (List ℕ)
report_of rate e =
    if nat_lt 63 e.volume then None
    else (if nat_lt 65535 (ticks_of rate e.duration) then None
    else Some (e.event ∷ (if e.end then 128 + e.volume else e.volume) ∷ ticks_of rate e.duration / 256
    ∷ ticks_of rate e.duration % 256 ∷ []))

-- The second byte of a report with R clear.
abbrev pub without_r : ℕ → ℕ
without_r flags = flags / 128 * 128 + flags % 64

-- Reading a report and writing it again at a clock rate below 1 GHz changes nothing but the R bit.
abbrev pub ReportsComeBack : Type 0
ReportsComeBack = (rate event flags high low : ℕ) → 0 < rate → rate < 1000000000 → flags < 256 → high < 256
    → low < 256 → report_of rate (event_of rate event flags high low) ≡ Some (event ∷ without_r flags ∷ high ∷ low ∷ [])
