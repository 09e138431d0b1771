-- A whole run of a forwarder: packets that come, and parts that begin and end between them.
use Rattle.std.specs.Prelude.{◌≡◌, ℕ, ◌+◌, ◌-◌, ◌⊎◌, List, [], ◌∷◌, ◌++◌, length, Option, Some, None, slice_get}
use Rattle.std.specs.Prelude.{true, false}
use Rattle.rtp_wire.specs.declared.values.ExtensionValues.{ExtensionValues}
use Rattle.rtp_media_schedules.specs.Hearing.{Content}
use Rattle.rtp_media_forward.specs.Forwarding.{Forwarding, after_packet, end_of_numbers, ended, reserved, shift_to}
use Rattle.rtp_media_forward.specs.Forwarding.{is_next_of, passed_empty, skipped, start_of, switched}
use Rattle.rtp_media_forward.specs.Relayed.{IsWithin, Part, count_in, count_of}
use Rattle.rtp_media_forward.specs.Relaying.{IsAsIn, Packet, Sent, number_of, place_of, sent_by}
use Rattle.rtp_media_forward.specs.declared.forwarder.Piece.{Piece}

-- A packet comes; or one of the forwarder's calls is made.
pub data Step : Type 0 where
  Come : (packet : Packet) → Step
  Switch : (source number time at : ℕ) → Step
  SkipTo : (number : ℕ) → Step
  Empty : (source number : ℕ) → Step
  EndAt : (number : ℕ) → Step
  Reserve : (count : ℕ) → Step

abbrev pub after_step : (ℕ → ℕ → Content) → Forwarding → Step → Forwarding
after_step senders f (Come p) = after_packet f (place_of senders f p) p.ends
after_step senders f (Switch source number time at) = switched f source number time at
after_step senders f (SkipTo number) = skipped f number
after_step senders f (Empty source number) = passed_empty f source number
after_step senders f (EndAt number) = ended f number
after_step senders f (Reserve count) = reserved f count

-- What is sent on at a step, and under which number.
abbrev pub sent_at : (ExtensionValues → ExtensionValues) → (ℕ → ℕ → Content) → Forwarding → Step → List Sent
sent_at values senders f (Come p) = sent_by values (place_of senders f p) (senders p.source p.number)
sent_at values senders f (Switch source number time at) = []
sent_at values senders f (SkipTo number) = []
sent_at values senders f (Empty source number) = []
sent_at values senders f (EndAt number) = []
sent_at values senders f (Reserve count) = []

abbrev pub numbers_at : (ℕ → ℕ → Content) → Forwarding → Step → List ℕ
numbers_at senders f (Come p) = number_of (place_of senders f p)
numbers_at senders f (Switch source number time at) = []
numbers_at senders f (SkipTo number) = []
numbers_at senders f (Empty source number) = []
numbers_at senders f (EndAt number) = []
numbers_at senders f (Reserve count) = []

-- The same of a whole run.
abbrev pub sent_in : (ExtensionValues → ExtensionValues) → (ℕ → ℕ → Content) → Forwarding → List Step → List Sent
sent_in values senders f [] = []
sent_in values senders f (x ∷ xs) = sent_at values senders f x ++ sent_in values senders (after_step senders f x) xs

abbrev pub numbers_in : (ℕ → ℕ → Content) → Forwarding → List Step → List ℕ
numbers_in senders f [] = []
numbers_in senders f (x ∷ xs) = numbers_at senders f x ++ numbers_in senders (after_step senders f x) xs

-- A part of this source begins at this number, with this shift.
pub record Begins (q : Part) (source first shift : ℕ) : Type 0 where
  pub source_is : q.source ≡ source
  pub first_is : q.first ≡ first
  pub shift_is : q.shift ≡ shift

-- The same for one that continues the source of the piece before it.
abbrev pub GoesOnFrom : Option Piece → Part → ℕ → Type 0
GoesOnFrom None q first = ⊥
GoesOnFrom (Some p) q first = Begins q p.source first p.shift

-- The part of numbers that are reserved: those of the piece before it, if there is one, at numbers that no source has.
abbrev pub IsKeptBy : Option Piece → Part → Type 0
IsKeptBy None q = Begins q 0 end_of_numbers 0
IsKeptBy (Some p) q = Begins q p.source end_of_numbers p.shift

abbrev pub last_piece : Forwarding → Option Piece
last_piece f = slice_get f.pieces (length f.pieces - 1)

-- What a step needs after these parts if no part begins at it: a packet isn't one of the last part's source after its
-- end, and a number that carries nothing isn't the next one.
abbrev pub IsSound : List Part → Forwarding → Step → Type 0
IsSound begun f (Come p) = IsWithin begun p.source p.number
IsSound begun f (Switch source number time at) = ⊥
IsSound begun f (SkipTo number) = ⊥
IsSound begun f (Empty source number) = is_next_of f source number ≡ false
IsSound begun f (EndAt number) = Unit {0}
IsSound begun f (Reserve count) = ⊥

-- A part that begins at a step.
abbrev pub BeginsAt : Forwarding → Step → Part → Type 0
BeginsAt f (Come p) q = ⊥
BeginsAt f (Switch source number time at) q = Begins q source number (shift_to time at)
BeginsAt f (SkipTo number) q = GoesOnFrom (last_piece f) q number
BeginsAt f (Empty source number) q =
    (is_next_of f source number ≡ true) × GoesOnFrom (last_piece f) q (number + 1)
BeginsAt f (EndAt number) q = ⊥
BeginsAt f (Reserve count) q = IsKeptBy (last_piece f) q × (count_in q ≡ count)

-- The number with which it begins: after a packet that carries nothing no number is left free.
abbrev pub begin_of : Forwarding → Step → ℕ
begin_of f (Come p) = start_of f
begin_of f (Switch source number time at) = start_of f
begin_of f (SkipTo number) = start_of f
begin_of f (Empty source number) = f.next
begin_of f (EndAt number) = start_of f
begin_of f (Reserve count) = start_of f

-- A run that sends parts on, of which the first ones have begun: each later one begins when all numbers of those before
-- it were given, or the forwarder knows where they end.
abbrev pub IsRun : (ℕ → ℕ → Content) → ℕ → List Part → Forwarding → List Part → List Step → Type 0
IsRun senders first begun f later [] = Unit {0}
IsRun senders first begun f [] (x ∷ xs) = IsSound begun f x × IsRun senders first begun (after_step senders f x) [] xs
IsRun senders first begun f (q ∷ later) (x ∷ xs) =
    (IsSound begun f x × IsRun senders first begun (after_step senders f x) (q ∷ later) xs)
    ⊎ ((begin_of f x ≡ first + count_of begun) × BeginsAt f x q
    × IsRun senders first (begun ++ q ∷ []) (after_step senders f x) later xs)

-- A datagram that comes brings what these parts have there; in a run each does.
abbrev pub IsAsInStep : (ℕ → ℕ → Content) → List Part → Step → Type 0
IsAsInStep senders parts (Come p) = IsAsIn senders parts p.source p.number
IsAsInStep senders parts (Switch source number time at) = Unit {0}
IsAsInStep senders parts (SkipTo number) = Unit {0}
IsAsInStep senders parts (Empty source number) = Unit {0}
IsAsInStep senders parts (EndAt number) = Unit {0}
IsAsInStep senders parts (Reserve count) = Unit {0}

abbrev pub AreAsInRun : (ℕ → ℕ → Content) → List Part → List Step → Type 0
AreAsInRun senders parts [] = Unit {0}
AreAsInRun senders parts (x ∷ xs) = IsAsInStep senders parts x × AreAsInRun senders parts xs
