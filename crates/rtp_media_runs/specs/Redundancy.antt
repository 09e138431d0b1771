-- A stream between two ends, opened without redundancy and with it.
use Rattle.std.specs.Prelude.{◌≡◌, List, [], ◌∷◌, None}
use Rattle.rtp_media_ends.specs.Ends.{agreed_red}
use Rattle.rtp_media_ends.specs.Params.{IsSound}
use Rattle.rtp_media_ends.specs.declared.StreamParams.{StreamParams}
use Rattle.rtp_media_runs.specs.Units.{packet_limit_of}
use Rattle.rtp_media_runs.specs.Hops.{Hop}
use Rattle.rtp_media_runs.specs.declared.schedule.Event.{Event}
use Rattle.rtp_media_runs.specs.declared.schedule.Event.TheVariants.{Arrive, Foreign, Poll, Repair}

-- A schedule without repairs: a stream with redundancy makes none.
abbrev pub HasNoRepair : List Event → Type 0
HasNoRepair [] = Unit {0}
HasNoRepair (Arrive k ∷ xs) = HasNoRepair xs
HasNoRepair (Repair k ∷ xs) = ⊥
HasNoRepair (Foreign bytes ∷ xs) = HasNoRepair xs
HasNoRepair (Poll ∷ xs) = HasNoRepair xs

-- The stream opened with other parameters.
abbrev pub opened_with : Hop → StreamParams → Hop
opened_with h params = record h { params = params }

-- The same parameters without redundancy and with it, at the same packet limit: a payload with redundancy may be one
-- byte longer (RFC 2198). Only the datagram limit may differ too.
pub record AddsRedundancy (h : Hop) (plain redundant : StreamParams) : Type 0 where
  pub none : plain.red ≡ None
  pub packets : packet_limit_of redundant ≡ packet_limit_of plain
  pub sound : IsSound (agreed_red h.sender h.mid h.pt) redundant
  pub first : redundant.first ≡ plain.first
  pub picture_id : redundant.picture_id ≡ plain.picture_id
  pub for_browsers : redundant.for_browsers ≡ plain.for_browsers
