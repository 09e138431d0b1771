-- A repair is to a stream what the datagram is that it wraps.
use Rattle.std.proofs.Common.{◌≡◌, ◌≢◌, ℕ, ◌+◌, ◌^◌, ◌<◌, refl, sym, ◌∙◌, ap, ap₂, subst, arith, Bool, true}
use Rattle.std.proofs.Common.{false, ◌&&◌, ◌||◌, true≢false, List, [], ◌∷◌, ◌++◌, length}
use Rattle.std.proofs.lemmas.Bool.Decides.{nat_tests}
use Rattle.std.proofs.lemmas.List.{drop_at}
use Rattle.std.specs.Prelude.{◌==◌, if◌then◌else◌, nat_lt, is_some, Option, Some, None}
use Rattle.std.specs.Prelude.{Ok, Err, option_and_then}
use Rattle.std.specs.Int.{w16, to_be_bytes}
use Rattle.std.specs.Option.{option_map}
use Rattle.rtp_wire.specs.Header.{header_in, header_of, payload_in, values_in}
use Rattle.rtp_wire.specs.Layout.{Layout, IsLayout, layout_bytes}
use Rattle.rtp_wire.specs.Maps.{empty_map}
use Rattle.rtp_wire.specs.Padding.{unpadded}
use Rattle.rtp_wire.specs.declared.values.ExtensionValues.{ExtensionValues}
use Rattle.rtp_wire.specs.declared.header.RtpHeader.{RtpHeader}
use Rattle.rtp_wire.proofs.HeaderLaws.{header_in-layout}
use Rattle.rtp_wire.specs.Repairs.{Wrapped, readdressed, repair_of, wrapped_in}
use Rattle.rtp_wire.proofs.RepairLaws.{payload-layout, reads-layout, wraps-behind}
use Rattle.payload_core_audio.specs.RedReading.{read_red}
use Rattle.rtp_media_schedules.specs.Hearing.{Comes, Content, Event, content_of}
use Rattle.rtp_media_streams.specs.Redundant.{primary_of, unwrapped}
use Rattle.rtp_media_streams.specs.Receiving.{Receiving, brought, is_own, media_payload, plain_brought}
use Rattle.rtp_media_streams.specs.Receiving.{values_of_header, values_read}
use Rattle.rtp_media_streams.specs.Types.{has_type, is_plain_key, is_repair_key, is_type}
use Rattle.rtp_media_streams.specs.declared.errors.RepairError.TheVariants.{LimitTooSmall}
use Rattle.rtp_media_streams.specs.declared.types.PayloadTypes.{PayloadTypes}
use Rattle.rtp_media_streams.specs.declared.types.RepairKey.{RepairKey}
use Rattle.rtp_media_streams.specs.Sending.{Sending}
use Rattle.rtp_media_streams.specs.Repairing.{has_byte, is_plainly_own, own_header_len, repair, repair_by, repair_key}
use Rattle.rtp_media_streams.specs.Repairing.{repair_under}
use Rattle.rtp_media_ends.specs.Repairs.{IsHeaded, IsKeyBeside, TakesRepairs}
use Rattle.rtp_media_ends.specs.OwnEvents.{content_event, event_by, event_in}

eqb-true : (a b : ℕ) → a ≡ b → (a == b) ≡ true
eqb-true a b h = grind (arith, nat_tests)

eqb-is : (a b : ℕ) → (a == b) ≡ true → a ≡ b
eqb-is a b h = grind (arith, nat_tests)

eqb-not : (a b : ℕ) → a ≢ b → (a == b) ≡ false
eqb-not a b h = go (a == b) refl where
  go : (t : Bool) → (a == b) ≡ t → (a == b) ≡ false
  go true e = absurd (h (eqb-is a b e))
  go false e = e

both-true : (a b : Bool) → a ≡ true → b ≡ true → (a && b) ≡ true
both-true true b x y = y
both-true false b x y = absurd (true≢false (sym x))

left-false : (a b : Bool) → a ≡ false → (a && b) ≡ false
left-false true b x = absurd (true≢false x)
left-false false b x = refl

or-left : (a b : Bool) → a ≡ true → (a || b) ≡ true
or-left true b x = refl
or-left false b x = absurd (true≢false (sym x))

or-right : (a b : Bool) → b ≡ true → (a || b) ≡ true
or-right true b x = refl
or-right false b x = x

-- a datagram that a layout spells, whose payload has a byte, and what it brings
module _ (r : Receiving) (l : Layout) (rest : List ℕ) (b : ℕ) (bs : List ℕ) (sound : IsLayout l)
    (body : unpadded l.padding rest ≡ Some (b ∷ bs)) where
  abbrev h : RtpHeader
  h = header_of empty_map l

  abbrev d : List ℕ
  d = layout_bytes l ++ rest

  abbrev what : Event
  what = Comes l.number (content_of l.time l.marker (values_in r.map l.extension) (b ∷ bs))

  abbrev wrapped : Wrapped
  wrapped = record { number = l.number; payload = b ∷ bs }

  pub plain-event : r.ssrc ≡ l.ssrc → r.types.pt ≡ l.payload_type → event_in r d ≡ Some what
  plain-event ssrc pt =
      let same : (r.types.pt == l.payload_type) ≡ true = eqb-true r.types.pt l.payload_type pt in
      let own : is_plain_key r.ssrc r.types l.ssrc l.payload_type ≡ true =
      both-true (r.ssrc == l.ssrc) (has_type r.types l.payload_type) (eqb-true r.ssrc l.ssrc ssrc)
      (or-left (r.types.pt == l.payload_type) (is_type r.types.red l.payload_type) same) in
      let any : is_own r l.ssrc l.payload_type ≡ true =
      or-left (is_plain_key r.ssrc r.types l.ssrc l.payload_type)
      (is_repair_key r.types.repair l.ssrc l.payload_type) own in
      let read : header_in empty_map d ≡ Some h = header_in-layout empty_map l rest sound in
      let values : values_read r.map d ≡ values_in r.map l.extension =
      ap values_of_header (header_in-layout r.map l rest sound) in
      let payload : payload_in h d ≡ rest = drop_at (layout_bytes l) rest (length (layout_bytes l)) refl in
      let media : media_payload r.types h d ≡ Some (b ∷ bs) =
      ap (λ (xs : List ℕ). option_and_then (unwrapped r.types l.payload_type) (unpadded l.padding xs)) payload
      ∙ ap (option_and_then (unwrapped r.types l.payload_type)) body
      ∙ ap (λ (t : Bool). if t then Some (b ∷ bs) else option_and_then (primary_of r.types.pt) (read_red (b ∷ bs)))
      same in
      let brings : brought r.ssrc r.types h d ≡ Some wrapped =
      ap (λ (t : Bool). if t then plain_brought h (media_payload r.types h d)
      else option_and_then wrapped_in (unpadded h.has_padding (payload_in h d))) own
      ∙ ap (plain_brought h) media in
      ap (λ (q : Option RtpHeader). event_by r q d) read
      ∙ ap (λ (t : Bool). if t then content_event h (values_read r.map d) (brought r.ssrc r.types h d) else None) any
      ∙ ap₂ (λ (v : ExtensionValues) (w : Option Wrapped). content_event h v w) values brings

  pub repair-event : (key : RepairKey) (n : ℕ) → key.pt < 128 → key.ssrc < 2 ^ 32 → n < 2 ^ 16
      → r.types.repair ≡ Some key → key.ssrc ≢ r.ssrc
      → event_in r (repair_of key.pt n key.ssrc (length (layout_bytes l)) d) ≡ Some what
  repair-event key n kt ks fits pair apart =
      let bytes : List ℕ = repair_of key.pt n key.ssrc (length (layout_bytes l)) d in
      let g : RtpHeader = readdressed key.pt n key.ssrc h in
      let not-plain : is_plain_key r.ssrc r.types key.ssrc key.pt ≡ false =
      left-false (r.ssrc == key.ssrc) (has_type r.types key.pt)
      (eqb-not r.ssrc key.ssrc (λ (e : r.ssrc ≡ key.ssrc). apart (sym e))) in
      let as-repair : is_repair_key r.types.repair key.ssrc key.pt ≡ true =
      ap (λ (o : Option RepairKey). is_repair_key o key.ssrc key.pt) pair
      ∙ both-true (key.ssrc == key.ssrc) (key.pt == key.pt) (eqb-true key.ssrc key.ssrc refl)
      (eqb-true key.pt key.pt refl) in
      let any : is_own r key.ssrc key.pt ≡ true =
      or-right (is_plain_key r.ssrc r.types key.ssrc key.pt) (is_repair_key r.types.repair key.ssrc key.pt)
      as-repair in
      let read : header_in empty_map bytes ≡ Some g =
      reads-layout empty_map key.pt n key.ssrc l rest sound kt fits ks in
      let values : values_read r.map bytes ≡ values_in r.map l.extension =
      ap values_of_header (reads-layout r.map key.pt n key.ssrc l rest sound kt fits ks) in
      let payload : payload_in g bytes ≡ to_be_bytes w16 l.number ++ rest =
      payload-layout empty_map key.pt n key.ssrc l rest sound.payload_type in
      let brings : brought r.ssrc r.types g bytes ≡ Some wrapped =
      ap (λ (t : Bool). if t then plain_brought g (media_payload r.types g bytes)
      else option_and_then wrapped_in (unpadded l.padding (payload_in g bytes))) not-plain
      ∙ ap (λ (xs : List ℕ). option_and_then wrapped_in (unpadded l.padding xs)) payload
      ∙ wraps-behind l.padding l.number b rest bs sound.number body in
      ap (λ (q : Option RtpHeader). event_by r q bytes) read
      ∙ ap (λ (t : Bool). if t then content_event g (values_read r.map bytes) (brought r.ssrc r.types g bytes)
      else None) any
      ∙ ap₂ (λ (v : ExtensionValues) (w : Option Wrapped). content_event g v w) values brings

-- what a sending stream answers for a datagram
record IsRepair (s : Sending) (d bytes : List ℕ) : Type 0 where
  key : RepairKey
  pair : s.types.repair ≡ Some key
  header : RtpHeader
  read : header_in empty_map d ≡ Some header
  own : is_plainly_own s header d ≡ true
  is : bytes ≡ repair_of key.pt s.repairs key.ssrc header.header_len d

some-is : {A : Type 0} (x y : A) → Some x ≡ Some y → x ≡ y
some-is x y e = cc

within-limit : (b : Bool) (xs bytes : List ℕ) → (if b then Err LimitTooSmall else Ok xs) ≡ Ok bytes → bytes ≡ xs
within-limit true xs bytes e = absurd cc
within-limit false xs bytes e = cc

record IsOwn (s : Sending) (o : Option RtpHeader) (d : List ℕ) (len : ℕ) : Type 0 where
  header : RtpHeader
  read : o ≡ Some header
  own : is_plainly_own s header d ≡ true
  is : len ≡ header.header_len

own-is : (s : Sending) (o : Option RtpHeader) (d : List ℕ) (len : ℕ) → own_header_len s o d ≡ Some len → IsOwn s o d len
own-is s None d len e = absurd cc
own-is s (Some g) d len e = go (is_plainly_own s g d) refl e where
  go : (b : Bool) → is_plainly_own s g d ≡ b
      → option_map (λ (h : RtpHeader). h.header_len) (if b then Some g else None) ≡ Some len
      → IsOwn s (Some g) d len
  go true own e = record { header = g; read = refl; own = own; is = sym (some-is g.header_len len e) }
  go false own e = absurd cc

key-is : (b : Bool) (o : Option RepairKey) (key : RepairKey) → (if b then None else o) ≡ Some key → o ≡ Some key
key-is true o key e = absurd cc
key-is false o key e = e

repair-under : (s : Sending) (key : RepairKey) (o : Option ℕ) (d bytes : List ℕ)
    → repair_under s key o d ≡ Ok bytes → own_header_len s (header_in empty_map d) d ≡ o → repair_key s ≡ Some key
    → IsRepair s d bytes
repair-under s key None d bytes e own pair = absurd cc
repair-under s key (Some len) d bytes e own pair =
    let is : IsOwn s (header_in empty_map d) d len = own-is s (header_in empty_map d) d len own in
    record {
      key = key;
      pair = key-is (is_some s.redundancy) s.types.repair key pair;
      header = is.header;
      read = is.read;
      own = is.own;
      is = within-limit (nat_lt s.limit (length d + 2)) (repair_of key.pt s.repairs key.ssrc len d) bytes e
          ∙ ap (λ (n : ℕ). repair_of key.pt s.repairs key.ssrc n d) is.is;
    }

repair-by : (s : Sending) (o : Option RepairKey) (d bytes : List ℕ) → repair_by s o d ≡ Ok bytes → repair_key s ≡ o
    → IsRepair s d bytes
repair-by s None d bytes e pair = absurd cc
repair-by s (Some key) d bytes e pair =
    repair-under s key (own_header_len s (header_in empty_map d) d) d bytes e refl pair

has-byte : (o : Option (List ℕ)) → has_byte o ≡ true → (b : ℕ) × (bs : List ℕ) × (o ≡ Some (b ∷ bs))
has-byte None e = absurd (true≢false (sym e))
has-byte (Some []) e = absurd (true≢false (sym e))
has-byte (Some (b ∷ bs)) e = (b, bs, refl)

and-left : (a b : Bool) → (a && b) ≡ true → a ≡ true
and-left true b h = refl
and-left false b h = h

and-right : (a b : Bool) → (a && b) ≡ true → b ≡ true
and-right true b h = h
and-right false b h = absurd (true≢false (sym h))

-- a repair and the datagram that it wraps bring a stream the same
pub record BringSame (r : Receiving) (datagram bytes : List ℕ) : Type 0 where
  pub low : ℕ
  pub content : Content
  pub plain : event_in r datagram ≡ Some (Comes low content)
  pub repaired : event_in r bytes ≡ Some (Comes low content)

by-layout : (r : Receiving) (s : Sending) (l : Layout) (rest bytes : List ℕ) → TakesRepairs r s → IsLayout l
    → repair s (layout_bytes l ++ rest) ≡ Ok bytes → BringSame r (layout_bytes l ++ rest) bytes
by-layout r s l rest bytes takes sound e =
    let d : List ℕ = layout_bytes l ++ rest in
    let h : RtpHeader = header_of empty_map l in
    let is : IsRepair s d bytes = repair-by s (repair_key s) d bytes e refl in
    let header-is : is.header ≡ h =
    some-is is.header h (sym is.read ∙ header_in-layout empty_map l rest sound) in
    let own : is_plainly_own s h d ≡ true = ap (λ (x : RtpHeader). is_plainly_own s x d) (sym header-is) ∙ is.own in
    let keys : ((s.ssrc == l.ssrc) && (s.types.pt == l.payload_type)) ≡ true =
    and-left ((s.ssrc == l.ssrc) && (s.types.pt == l.payload_type))
    (has_byte (unpadded l.padding (payload_in h d))) own in
    let ssrc : r.ssrc ≡ l.ssrc =
    takes.ssrc ∙ eqb-is s.ssrc l.ssrc (and-left (s.ssrc == l.ssrc) (s.types.pt == l.payload_type) keys) in
    let pt : r.types.pt ≡ l.payload_type =
    ap (λ (t : PayloadTypes). t.pt) takes.types
    ∙ eqb-is s.types.pt l.payload_type (and-right (s.ssrc == l.ssrc) (s.types.pt == l.payload_type) keys) in
    let payload : payload_in h d ≡ rest = drop_at (layout_bytes l) rest (length (layout_bytes l)) refl in
    let some = has-byte (unpadded l.padding rest)
    (ap (λ (xs : List ℕ). has_byte (unpadded l.padding xs)) (sym payload)
    ∙ and-right ((s.ssrc == l.ssrc) && (s.types.pt == l.payload_type))
    (has_byte (unpadded l.padding (payload_in h d))) own) in
    let beside : IsKeyBeside s.ssrc (Some is.key) = subst (IsKeyBeside s.ssrc) is.pair takes.beside in
    let bytes-are : bytes ≡ repair_of is.key.pt s.repairs is.key.ssrc (length (layout_bytes l)) d =
    is.is ∙ ap (λ (x : RtpHeader). repair_of is.key.pt s.repairs is.key.ssrc x.header_len d) header-is in
    let pair : r.types.repair ≡ Some is.key = ap (λ (t : PayloadTypes). t.repair) takes.types ∙ is.pair in
    record {
      low = l.number;
      content = content_of l.time l.marker (values_in r.map l.extension) (some.0 ∷ some.1);
      plain = plain-event r l rest some.0 some.1 sound some.2 ssrc pt;
      repaired = ap (event_in r) bytes-are
          ∙ repair-event r l rest some.0 some.1 sound some.2 is.key s.repairs beside.1 beside.2
          (omega (arith, takes.number)) pair (λ (x : is.key.ssrc ≡ r.ssrc). beside.0 (x ∙ takes.ssrc));
    }

pub bring-same : (r : Receiving) (s : Sending) (d bytes : List ℕ) → TakesRepairs r s → IsHeaded d
    → repair s d ≡ Ok bytes → BringSame r d bytes
bring-same r s d bytes takes is e =
    let same : BringSame r (layout_bytes is.layout ++ is.rest) bytes =
    by-layout r s is.layout is.rest bytes takes is.sound (ap (repair s) (sym is.is) ∙ e) in
    record {
      low = same.low;
      content = same.content;
      plain = ap (event_in r) is.is ∙ same.plain;
      repaired = same.repaired;
    }

-- A repair counts as the arrival of what it wraps.
pub counts : (r : Receiving) (s : Sending) (d bytes : List ℕ) → TakesRepairs r s → IsHeaded d → repair s d ≡ Ok bytes
    → event_in r bytes ≡ event_in r d
counts r s d bytes takes is e =
    let same : BringSame r d bytes = bring-same r s d bytes takes is e in
    same.repaired ∙ sym same.plain
