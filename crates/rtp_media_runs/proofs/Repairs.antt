-- What repairs leave: the next ones are refused as before, and come to the same stream.
use Rattle.std.proofs.Common.{◌≡◌, ℕ, zero, suc, ◌+◌, ◌<◌, refl, ap, ◌∙◌, arith, Bool, true, false, List, [], ◌∷◌}
use Rattle.std.proofs.Common.{length}
use Rattle.std.specs.Option.{option_map}
use Rattle.std.specs.Prelude.{if◌then◌else◌, nat_lt, Option, Some, None, Result, Ok, Err, slice_get, slice_index_or}
use Rattle.rtp_wire.specs.Header.{header_in}
use Rattle.rtp_wire.specs.Maps.{empty_map}
use Rattle.rtp_wire.specs.declared.header.RtpHeader.{RtpHeader}
use Rattle.rtp_media_streams.specs.Receiving.{Receiving}
use Rattle.rtp_media_streams.specs.Repairing.{own_header_len, repair, repair_by, repair_key, repair_under, with_repair}
use Rattle.rtp_media_streams.specs.Sending.{Sending}
use Rattle.rtp_media_streams.specs.declared.errors.RepairError.{RepairError}
use Rattle.rtp_media_streams.specs.declared.errors.RepairError.TheVariants.{LimitTooSmall}
use Rattle.rtp_media_streams.specs.declared.types.RepairKey.{RepairKey}
use Rattle.rtp_media_ends.specs.Repairs.{TakesRepairs}
use Rattle.rtp_media_runs.specs.Schedules.{is_made, stream_after}

-- whether a repair is made doesn't depend on how many were made before
made-if : (b : Bool) (xs ys : List ℕ) → is_made (Some (if b then Err LimitTooSmall else Ok xs))
    ≡ is_made (Some (if b then Err LimitTooSmall else Ok ys))
made-if true xs ys = refl
made-if false xs ys = refl

module _ (s : Sending) where
  same-len : (o : Option RtpHeader) (d : List ℕ) → own_header_len (with_repair s) o d ≡ own_header_len s o d
  same-len None d = refl
  same-len (Some h) d = refl

  made-under : (key : RepairKey) (o : Option ℕ) (d : List ℕ)
      → is_made (Some (repair_under (with_repair s) key o d)) ≡ is_made (Some (repair_under s key o d))
  made-under key None d = refl
  made-under key (Some len) d = made-if (nat_lt s.limit (length d + 2)) _ _

  made-by : (o : Option RepairKey) (d : List ℕ) → is_made (Some (repair_by (with_repair s) o d))
      ≡ is_made (Some (repair_by s o d))
  made-by None d = refl
  made-by (Some key) d =
      ap (λ (o : Option ℕ). is_made (Some (repair_under (with_repair s) key o d))) (same-len (header_in empty_map d) d)
      ∙ made-under key (own_header_len s (header_in empty_map d) d) d

  made-next : (o : Option (List ℕ)) → is_made (option_map (repair (with_repair s)) o)
      ≡ is_made (option_map (repair s) o)
  made-next None = refl
  made-next (Some d) = made-by (repair_key s) d

  pub made-after : (made : Option (Result (List ℕ) RepairError)) (o : Option (List ℕ))
      → is_made (option_map (repair (stream_after s made)) o) ≡ is_made (option_map (repair s) o)
  made-after None o = refl
  made-after (Some (Err e)) o = refl
  made-after (Some (Ok bytes)) o = made-next o

-- the stream still takes repairs
pub takes-after : (r : Receiving) (s : Sending) (made : Option (Result (List ℕ) RepairError)) → TakesRepairs r s
    → TakesRepairs r (stream_after s made)
takes-after r s None takes = takes
takes-after r s (Some (Err e)) takes = takes
takes-after r s (Some (Ok bytes)) takes = record {
  ssrc = takes.ssrc;
  types = takes.types;
  beside = takes.beside;
  number = omega arith;
}

-- what was repaired
pub record WasRepaired (s : Sending) (o : Option (List ℕ)) (bytes : List ℕ) : Type 0 where
  pub datagram : List ℕ
  pub there : o ≡ Some datagram
  pub is : repair s datagram ≡ Ok bytes

pub was-repaired : (s : Sending) (o : Option (List ℕ)) (bytes : List ℕ) → option_map (repair s) o ≡ Some (Ok bytes)
    → WasRepaired s o bytes
was-repaired s None bytes e = absurd cc
was-repaired s (Some d) bytes e =
    let same : repair s d ≡ Ok bytes = cc in record { datagram = d; there = refl; is = same }

-- what is at a place
pub got : (ds : List (List ℕ)) (k : ℕ) (d : List ℕ) → slice_get ds k ≡ Some d
    → (k < length ds) × (d ≡ slice_index_or ds k [])
got [] k d e = absurd cc
got (x ∷ xs) zero d e = let same : d ≡ x = cc in (omega arith, same)
got (x ∷ xs) (suc k) d e = let more = got xs k d e in (omega (arith, more.0), more.1)
