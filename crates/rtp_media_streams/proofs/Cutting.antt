-- The payloads of a sample as datagrams are made of them.
use Rattle.std.proofs.Common.{◌≡◌, ℕ, suc, ◌+◌, refl, sym, ◌∙◌, ap, ap₂, subst, arith, List, [], ◌∷◌, ◌++◌, length}
use Rattle.std.proofs.Common.{add-zero}
use Rattle.std.specs.Prelude.{Option, Some, None, Result, Ok, Err}
use Rattle.payload_core_base.specs.Outgoing.{Outgoing}
use Rattle.payload_core_base.specs.Packing.{Packing, Sender, Sent}
use Rattle.payload_core_base.specs.declared.error.PacketError.{PacketError}
use Rattle.payload_core_base.specs.Sending.{outgoing_from}
use Rattle.payload_core_audio.specs.RedHistory.{Redundancy, keeping}
use Rattle.rtp_wire.specs.Header.{spelled}
use Rattle.rtp_wire.specs.Values.{Numbering}
use Rattle.rtp_wire.specs.declared.values.ExtensionValues.{ExtensionValues}
use Rattle.rtp_media_schedules.specs.SentSamples.{sent_or}
use Rattle.rtp_media_streams.specs.Redundant.{kept_after, wraps}
use Rattle.rtp_media_streams.specs.Sending.{Sending, datagram_of, datagrams_from, on_wire, payload_refusal, stamped}
use Rattle.rtp_media_streams.specs.Made.{IsMade, IsMadeRedundant, datagram_with, datagrams_with}
use Rattle.rtp_media_streams.specs.declared.stamp.Stamp.{Stamp}

pub datagrams_from-append : (s : Sending) (n : ℕ) (ps qs : List Outgoing) → datagrams_from s n (ps ++ qs)
    ≡ datagrams_from s n ps ++ datagrams_from s (n + length ps) qs
datagrams_from-append s n [] qs = ap (λ (k : ℕ). datagrams_from s k qs) (sym (add-zero n))
datagrams_from-append s n (p ∷ ps) qs =
    let e : n + 1 + length ps ≡ n + suc (length ps) = omega arith in
    ap (λ (ds : List (List ℕ)). datagram_of s n p ∷ ds)
    (datagrams_from-append s (n + 1) ps qs ∙ ap (λ (k : ℕ). datagrams_from s (n + 1) ps ++ datagrams_from s k qs) e)

pub length-datagrams_from : (s : Sending) (n : ℕ) (ps : List Outgoing) → length (datagrams_from s n ps) ≡ length ps
length-datagrams_from s n [] = refl
length-datagrams_from s n (p ∷ ps) = ap suc (length-datagrams_from s (n + 1) ps)

length-wraps : (pt budget : ℕ) (r : Redundancy) (ps : List Outgoing) → length (wraps pt budget r ps) ≡ length ps
length-wraps pt budget r [] = refl
length-wraps pt budget r (p ∷ ps) = ap suc (length-wraps pt budget (keeping r pt p.payload p.time) ps)

pub length-on_wire : (pt mtu : ℕ) (o : Option Redundancy) (ps : List Outgoing) → length (on_wire pt mtu o ps)
    ≡ length ps
length-on_wire pt mtu None ps = refl
length-on_wire pt mtu (Some r) ps = length-wraps pt mtu r ps

-- a sample that was accepted
pub record WasMade (stamp : Stamp) (number : ℕ) (packing : Packing) (before after : Sender)
    (r : Result Sent PacketError) (time : ℕ) (values : ExtensionValues) (datagrams : List (List ℕ)) : Type 0 where
  pub made : datagrams ≡ datagrams_with stamp number (outgoing_from packing (sent_or before r).packets time values)
  pub sender : after ≡ (sent_or before r).sender
  pub accepted : payload_refusal r ≡ None

was-made : (stamp : Stamp) (number : ℕ) (packing : Packing) (before after : Sender) (r : Result Sent PacketError)
    (time : ℕ) (values : ExtensionValues) (datagrams : List (List ℕ))
    → IsMade stamp number packing r time values datagrams after
    → WasMade stamp number packing before after r time values datagrams
was-made stamp number packing before after (Ok s) time values datagrams is =
    record { made = is.0; sender = is.1; accepted = refl }
was-made stamp number packing before after (Err e) time values datagrams is = absurd is

-- the same if the packetizer cuts as the stream's row says
pub made-as : (stamp : Stamp) (number : ℕ) (packing row : Packing) (before after : Sender) (mtu : ℕ) (bytes : List ℕ)
    (time : ℕ) (values : ExtensionValues) (datagrams : List (List ℕ)) → packing ≡ row
    → IsMade stamp number packing (packing.pack before mtu bytes) time values datagrams after
    → WasMade stamp number row before after (row.pack before mtu bytes) time values datagrams
made-as stamp number packing row before after mtu bytes time values datagrams is made =
    was-made stamp number row before after (row.pack before mtu bytes) time values datagrams
    (subst (λ (p : Packing). IsMade stamp number p (p.pack before mtu bytes) time values datagrams after) is made)

-- a sample that was accepted, with redundancy
pub record WasMadeRedundant (stamp : Stamp) (number : ℕ) (packing : Packing) (before after : Sender)
    (r : Result Sent PacketError) (time : ℕ) (values : ExtensionValues) (pt budget : ℕ) (old new : Redundancy)
    (datagrams : List (List ℕ)) : Type 0 where
  pub made : datagrams ≡ datagrams_with stamp number (wraps pt budget old
      (outgoing_from packing (sent_or before r).packets time values))
  pub kept : new ≡ kept_after pt old (outgoing_from packing (sent_or before r).packets time values)
  pub sender : after ≡ (sent_or before r).sender
  pub accepted : payload_refusal r ≡ None

was-made-redundant : (stamp : Stamp) (number : ℕ) (packing : Packing) (before after : Sender)
    (r : Result Sent PacketError) (time : ℕ) (values : ExtensionValues) (pt budget : ℕ) (old new : Redundancy)
    (datagrams : List (List ℕ))
    → IsMadeRedundant stamp number packing r time values pt budget old new datagrams after
    → WasMadeRedundant stamp number packing before after r time values pt budget old new datagrams
was-made-redundant stamp number packing before after (Ok s) time values pt budget old new datagrams is =
    record { made = is.0; kept = is.1; sender = is.2; accepted = refl }
was-made-redundant stamp number packing before after (Err e) time values pt budget old new datagrams is = absurd is

pub made-redundant-as : (stamp : Stamp) (number : ℕ) (packing row : Packing) (before after : Sender) (mtu : ℕ)
    (bytes : List ℕ) (time : ℕ) (values : ExtensionValues) (pt pt' budget : ℕ) (old new : Redundancy)
    (datagrams : List (List ℕ)) → packing ≡ row → pt ≡ pt'
    → IsMadeRedundant stamp number packing (packing.pack before mtu bytes) time values pt budget old new datagrams after
    → WasMadeRedundant stamp number row before after (row.pack before mtu bytes) time values pt' budget old new
    datagrams
made-redundant-as stamp number packing row before after mtu bytes time values pt pt' budget old new datagrams is same
    made =
    subst (λ (t : ℕ). WasMadeRedundant stamp number row before after (row.pack before mtu bytes) time values t
    budget old
    new datagrams) same
    (was-made-redundant stamp number row before after (row.pack before mtu bytes) time values pt budget old new
    datagrams
    (subst (λ (p : Packing). IsMadeRedundant stamp number p (p.pack before mtu bytes) time values pt budget old new
    datagrams after) is made))

-- what the datagrams of a stream have alike
pub record IsStampOf (s : Sending) (stamp : Stamp) : Type 0 where
  pub ssrc : stamp.ssrc ≡ s.ssrc
  pub pt : stamp.pt ≡ s.wire_type
  pub exts : stamp.exts ≡ s.map

module _ (s : Sending) where
  datagram-is : (stamp : Stamp) (number : ℕ) (o : Outgoing) → IsStampOf s stamp → datagram_with stamp number o
      ≡ datagram_of s number o
  datagram-is stamp number o is =
      ap₂ (λ (ssrc pt : ℕ). spelled stamp.exts (stamped ssrc pt stamp.exts number o.marker o.time o.values)
      ++ o.payload) is.ssrc is.pt
      ∙ ap (λ (map : Numbering). spelled map (stamped s.ssrc s.wire_type map number o.marker o.time o.values)
      ++ o.payload) is.exts

  -- the datagrams of payloads
  pub made-is : (stamp : Stamp) (number : ℕ) (os : List Outgoing) → IsStampOf s stamp → datagrams_with stamp number os
      ≡ datagrams_from s number os
  made-is stamp number [] is = refl
  made-is stamp number (o ∷ os) is = ap₂ (λ (d : List ℕ) (ds : List (List ℕ)). d ∷ ds) (datagram-is stamp number o is)
      (made-is stamp (number + 1) os is)
