-- What is sent on of sources' datagrams that come.
use Rattle.std.specs.Prelude.{Bool, ℕ, ◌≡◌, ◌<◌, ◌≤◌, List, [], ◌∷◌, ◌++◌, map, Option, Some, None}
use Rattle.rtp_wire.specs.declared.values.ExtensionValues.{ExtensionValues}
use Rattle.rtp_wire.specs.Values.{absent}
use Rattle.rtp_media_schedules.specs.Bare.{bare}
use Rattle.rtp_media_schedules.specs.Hearing.{Content}
use Rattle.rtp_media_forward.specs.Forwarding.{Forwarding, after_packet, placed}
use Rattle.rtp_media_forward.specs.Relayed.{IsOf, IsWithin, Part, content_at}
use Rattle.rtp_media_forward.specs.declared.forwarder.Placed.{Placed}

-- A source's datagram of a number, and whether it is sent on as the end of its frame.
pub record Packet : Type 0 where
  pub source : ℕ
  pub number : ℕ
  pub ends : Bool

-- A datagram as it is sent on: its number, and what it brings.
pub record Sent : Type 0 where
  pub number : ℕ
  pub content : Content

-- What it brings at a timestamp.
abbrev pub content_with : (ExtensionValues → ExtensionValues) → ℕ → Content → Content
content_with values time c = record { time = time; marker = c.marker; values = values c.values; bytes = c.bytes }

-- Where a datagram that comes is placed.
abbrev pub place_of : (ℕ → ℕ → Content) → Forwarding → Packet → Option Placed
place_of senders f p = placed f p.source p.number (senders p.source p.number).time

-- What is sent on for a datagram: nothing, or it under the number and the timestamp of its place.
abbrev pub sent_by : (ExtensionValues → ExtensionValues) → Option Placed → Content → List Sent
sent_by values None c = []
sent_by values (Some at) c = record { number = at.number; content = content_with values at.time c } ∷ []

-- What is sent on of datagrams that come one after the other, under which numbers, and the forwarder after them.
abbrev pub sent_on : (ExtensionValues → ExtensionValues) → (ℕ → ℕ → Content) → Forwarding → List Packet → List Sent
sent_on values senders f [] = []
sent_on values senders f (p ∷ ps) = sent_by values (place_of senders f p) (senders p.source p.number)
    ++ sent_on values senders (after_packet f (place_of senders f p) p.ends) ps

abbrev pub number_of : Option Placed → List ℕ
number_of None = []
number_of (Some at) = at.number ∷ []

abbrev pub numbers_of : (ℕ → ℕ → Content) → Forwarding → List Packet → List ℕ
numbers_of senders f [] = []
numbers_of senders f (p ∷ ps) = number_of (place_of senders f p)
    ++ numbers_of senders (after_packet f (place_of senders f p) p.ends) ps

abbrev pub after_all : (ℕ → ℕ → Content) → Forwarding → List Packet → Forwarding
after_all senders f [] = f
after_all senders f (p ∷ ps) = after_all senders (after_packet f (place_of senders f p) p.ends) ps

abbrev pub AreWithin : List Part → List Packet → Type 0
AreWithin parts [] = Unit {0}
AreWithin parts (p ∷ ps) = IsWithin parts p.source p.number × AreWithin parts ps

-- What a stream's datagrams of these numbers bring.
abbrev pub datagrams_at : (ℕ → Content) → List ℕ → List Sent
datagrams_at sender ys = map (λ y. record { number = y; content = sender y }) ys

-- They are numbers of a stream's datagrams.
abbrev pub AreBetween : ℕ → ℕ → List ℕ → Type 0
AreBetween from end [] = Unit {0}
AreBetween from end (y ∷ ys) = (from ≤ y) × (y < end) × AreBetween from end ys

-- Without values: what sources send, what is sent on of it, and what becomes of values then.
abbrev pub bare_senders : (ℕ → ℕ → Content) → ℕ → ℕ → Content
bare_senders senders source number = bare (senders source number)

abbrev pub bare_sent : Sent → Sent
bare_sent s = record { number = s.number; content = bare s.content }

abbrev pub no_values : ExtensionValues → ExtensionValues
no_values v = absent

-- What a source's datagram of a number brings is what each part that it could be one of has there.
abbrev pub IsAsIn : (ℕ → ℕ → Content) → List Part → (source number : ℕ) → Type 0
IsAsIn senders [] source number = Unit {0}
IsAsIn senders (p ∷ ps) source number =
    (p.source ≡ source → IsOf p number → content_at p number ≡ senders source number)
    × IsAsIn senders ps source number

-- The datagrams that come bring what the parts have there. Of those that don't come nothing is asked: a part's last
-- frame may lack them.
abbrev pub AreAsIn : (ℕ → ℕ → Content) → List Part → List Packet → Type 0
AreAsIn senders parts [] = Unit {0}
AreAsIn senders parts (p ∷ ps) = IsAsIn senders parts p.source p.number × AreAsIn senders parts ps
