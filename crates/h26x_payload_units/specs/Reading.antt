-- What packets of H.264, H.265 and H.266 give as they are read, and which bytes of fragments begin and end a unit
-- (RFC 6184 5.8, RFC 7798 4.4.3, RFC 9328 4.3.3).
use Rattle.std.specs.Prelude.{◌≡◌, ℕ, Bool, true, false, List, [], ◌∷◌, ◌++◌, Result, Ok, Err}
use Rattle.payload_core_base.specs.Format.{Fragment}
use Rattle.payload_core_base.specs.declared.error.PacketError.{PacketError}
use Rattle.h26x_payload_units.specs.declared.layout.PacketKind.{PacketKind}
use Rattle.h26x_payload_units.specs.declared.layout.PacketKind.TheVariants.{Fragment as FragmentKind}
use Rattle.h26x_payload_units.specs.Headers.{has_end, has_start}

-- What an accepted packet gives: the bytes written, and the open unit after it.
pub record Given : Type 0 where
  pub written : List ℕ
  pub fragment : Fragment

abbrev pub gives : List ℕ → Fragment → Result Given PacketError
gives written fragment = Ok (record { written = written; fragment = fragment })

-- The output is the old one plus the packet's bytes, and this is the open unit.
abbrev pub Adds : Result Given PacketError → List ℕ → List ℕ → Fragment → Type 0
Adds (Err e) old new fragment = ⊥
Adds (Ok g) old new fragment = (new ≡ old ++ g.written) × (fragment ≡ g.fragment)

-- By the first byte after the packet's header, a fragment starts a unit if it has S and ends one if it has E. Other
-- packets are not fragments.
abbrev pub is_fragment_kind : PacketKind → Bool
is_fragment_kind FragmentKind = true
is_fragment_kind _ = false

abbrev pub starts_by : PacketKind → List ℕ → Bool
starts_by FragmentKind (fu ∷ part) = has_start fu
starts_by _ body = false

abbrev pub ends_by : PacketKind → List ℕ → Bool
ends_by FragmentKind (fu ∷ part) = has_end fu
ends_by _ body = false

-- A fragment is a head if it has S; every other packet is a head.
abbrev pub begins_by : PacketKind → List ℕ → Bool
begins_by FragmentKind [] = false
begins_by FragmentKind (fu ∷ part) = has_start fu
begins_by _ body = true
