use Rattle.std.proofs.Common.{◌≡◌, ℕ, Bool, List, sym, ◌∙◌, ap, ap₂, subst, Some, Result, Ok, Err, IfOk, [], ◌∷◌}
use Rattle.std.specs.Prelude.{Option, slice_range}
use Rattle.rtp_media_streams.specs.Receiving.{taken_number}
use Rattle.rtp_media_streams.specs.declared.receiver.Arrival.{Arrival}
use Rattle.rtp_media_stream_table.specs.Arrivals.{arrival_at}
use Rattle.rtp_media_ends.specs.Ends.{receiver_at}
use Rattle.rtp_media_forward.specs.Forwarding.{after_packet}
use Rattle.rtp_media_forward.specs.declared.forwarder.Placed.{Placed}
use Rattle.rtp_media_program.specs.Relaying.{Brought, arrival_of}
use Rattle.rtp_media_program.specs.declared.reply.Reply.{Reply}
use Rattle.rtp_media_program.specs.declared.reply.Reply.TheVariants as reply
use Rattle.rtp_media_program.proofs.Relayed.{not-placed, not-taken, passed-on, ran-out}
use Rattle.rtp_media_program.proofs.relaying.forward_by.Goals as goal

if_ok : {A E : Type 0} {P Q : A → Type 0} (r : Result A E) → ((a : A) → P a → Q a) → IfOk r P → IfOk r Q
if_ok (Ok a) f h = f a h
if_ok (Err e) f h = tt

-- the packet that was found
abbrev brought : ℕ → Arrival → List ℕ → Brought
brought stream a datagram = record {
  stream = stream;
  low = a.low;
  time = a.time;
  marker = a.marker;
  values = a.ext_vals;
  payload = slice_range datagram a.start a.end;
}

pub returns-in_default : goal.returns-in_default
returns-in_default c =
    let p : Brought = brought c.in-Ok.found.0 c.in-Ok.found.1 c.as_slice-datagram.result.now in
    let own : arrival_at c.args.end.now.streams c.args.command.datagram ≡ arrival_of p =
    subst (λ (d : List ℕ). arrival_at c.args.end.now.streams d ≡ arrival_of p) c.as_slice-datagram.ensures
    c.in-Ok.ensures.own in
    if_ok c.one-in_default.result
    (λ replies printed. not-taken c.args.end.now c.args.forwarder.now c.args.command p own _ replies.items
    (sym c.in_default.ensures.answer) c.take_number.ensures.after printed) c.one-in_default.ensures

pub returns-in_default-forward : goal.returns-in_default-forward
returns-in_default-forward c =
    let p : Brought = brought c.in-Ok.found.0 c.in-Ok.found.1 c.as_slice-datagram.result.now in
    let own : arrival_at c.args.end.now.streams c.args.command.datagram ≡ arrival_of p =
    subst (λ (d : List ℕ). arrival_at c.args.end.now.streams d ≡ arrival_of p) c.as_slice-datagram.ensures
    c.in-Ok.ensures.own in
    let taken : taken_number (receiver_at c.args.end.now p.stream).stream p.low ≡ Some c.get-number.result =
    sym c.in-Some.ensures.answer ∙ ap (λ (n : ℕ). let o : Option ℕ = Some n in o) (sym c.get-number.ensures) in
    if_ok c.two.result
    (λ replies printed. not-placed c.args.end.now c.args.forwarder.now c.args.command p own c.get-number.result taken _
    _
    replies.items (sym c.in_default-forward.ensures.placed) c.take_number.ensures.after
    (c.forward.ensures.after ∙ ap₂ (λ (q : Option Placed) (b : Bool). after_packet c.args.forwarder.now q b)
    (sym c.in_default-forward.ensures.placed) c.ends_frame-ends.ensures) printed) c.two.ensures

pub returns-in-Ok-send_on : goal.returns-in-Ok-send_on
returns-in-Ok-send_on c =
    let p : Brought = brought c.in-Ok.found.0 c.in-Ok.found.1 c.as_slice-datagram.result.now in
    let own : arrival_at c.args.end.now.streams c.args.command.datagram ≡ arrival_of p =
    subst (λ (d : List ℕ). arrival_at c.args.end.now.streams d ≡ arrival_of p) c.as_slice-datagram.ensures
    c.in-Ok.ensures.own in
    let taken : taken_number (receiver_at c.args.end.now p.stream).stream p.low ≡ Some c.get-number.result =
    sym c.in-Some.ensures.answer ∙ ap (λ (n : ℕ). let o : Option ℕ = Some n in o) (sym c.get-number.ensures) in
    if_ok c.two-in-Ok-send_on.result
    (λ replies printed. passed-on c.args.end.now c.args.forwarder.now c.args.command p own c.get-number.result taken
    c.in-Some-forward.at c.take_number.new.self _ _ _ replies.items (sym c.in-Some-forward.ensures.placed)
    c.take_number.ensures.after
    (c.forward.ensures.after ∙ ap₂ (λ (q : Option Placed) (b : Bool). after_packet c.args.forwarder.now q b)
    (sym c.in-Some-forward.ensures.placed) c.ends_frame-ends.ensures) c.in-Ok-send_on.ensures.sent printed)
    c.two-in-Ok-send_on.ensures

pub returns : goal.returns
returns c =
    let p : Brought = brought c.in-Ok.found.0 c.in-Ok.found.1 c.as_slice-datagram.result.now in
    let own : arrival_at c.args.end.now.streams c.args.command.datagram ≡ arrival_of p =
    subst (λ (d : List ℕ). arrival_at c.args.end.now.streams d ≡ arrival_of p) c.as_slice-datagram.ensures
    c.in-Ok.ensures.own in
    let taken : taken_number (receiver_at c.args.end.now p.stream).stream p.low ≡ Some c.get-number.result =
    sym c.in-Some.ensures.answer ∙ ap (λ (n : ℕ). let o : Option ℕ = Some n in o) (sym c.get-number.ensures) in
    if_ok c.one-in-Err-send_on.result
    (λ replies printed. ran-out c.args.end.now c.args.forwarder.now c.args.command p own c.get-number.result taken
    c.in-Some-forward.at c.take_number.new.self _ _ replies.items (sym c.in-Some-forward.ensures.placed)
    c.take_number.ensures.after
    (c.forward.ensures.after ∙ ap₂ (λ (q : Option Placed) (b : Bool). after_packet c.args.forwarder.now q b)
    (sym c.in-Some-forward.ensures.placed) c.ends_frame-ends.ensures) c.in-Err-send_on.ensures.unchanged
    (printed ∙ ap (λ (name : List ℕ). let rs : List Reply = reply.Refused name ∷ [] in rs) c.memory.ensures))
    c.one-in-Err-send_on.ensures
