use Rattle.std.proofs.Common.{◌≡◌, suc, ◌+◌, ◌-◌, ◌++◌, ◌∷◌, [], Some, refl, ap, sym, ◌∙◌, arith, append_assoc}
use Rattle.std.proofs.lemmas.Grind.{common_steps}
use Rattle.std.proofs.lemmas.List.{append-nil}
use Rattle.payload_core_audio.specs.AmrWb.{behind, entry_size, field_size, frames_from, header_at, speech_of}
use Rattle.payload_core_audio.specs.BitPlaces.{place_of}
use Rattle.payload_core_audio.proofs.AmrWbLemmas.{frames_go, frames_stop_room, frames_stop_type, is_room, next_entry}
use Rattle.payload_core_audio.proofs.AmrWbLemmas.{no_room}
use Rattle.payload_core_audio.proofs.amr_wb.frames.Goals as goal

pub returns-in_default-clause-refused : goal.returns-in_default-clause-refused
returns-in_default-clause-refused c =
    let k = c.loop.counter in
    let packet = c.args.packet.now in
    let left : c.args.count - k ≡ suc (c.args.count - (k + 1)) = omega arith in
    let header = c.header_at-header.ensures.value ∙ ap (header_at packet) c.loop.invariant.entry in
    λ other. (
      refl,
      sym c.loop.invariant.frames ∙ ap (λ n. behind c.loop.out.items
          (frames_from c.args.octet_align packet n k (place_of c.loop.place))) left
          ∙ frames_stop_type c.args.octet_align packet (c.args.count - (k + 1)) k (place_of c.loop.place)
          c.header_at-header.result c.loop.out.items header c.in_default.ensures.value,
    )

pub returns-then-not-has_room-clause-refused : goal.returns-then-not-has_room-clause-refused
returns-then-not-has_room-clause-refused c =
    let k = c.loop.counter in
    let packet = c.args.packet.now in
    let left : c.args.count - k ≡ suc (c.args.count - (k + 1)) = omega arith in
    let header = c.header_at-header.ensures.value ∙ ap (header_at packet) c.loop.invariant.entry in
    λ other. (
      refl,
      sym c.loop.invariant.frames ∙ ap (λ n. behind c.loop.out.items
          (frames_from c.args.octet_align packet n k (place_of c.loop.place))) left
          ∙ frames_stop_room c.args.octet_align packet (c.args.count - (k + 1)) k (place_of c.loop.place)
          c.header_at-header.result c.loop.out.items header c.in-Some.size c.in-Some.ensures.value
          (omega (
            arith,
            no_room _ _ (sym c.has_room.ensures ∙ c.if-not-has_room.true),
            c.field_size.ensures.value,
          )),
    )

pub loop-preserved : goal.loop-preserved
loop-preserved c =
    let k = c.loop.counter in
    let o = c.args.octet_align in
    let packet = c.args.packet.now in
    let size = c.in-Some.size in
    let left : c.args.count - k ≡ suc (c.args.count - (k + 1)) = omega arith in
    let header = c.header_at-header.ensures.value ∙ ap (header_at packet) c.loop.invariant.entry in
    let room = is_room _ _ (sym c.has_room.ensures ∙ c.if-not-has_room.false) in
    let next : place_of c.after-place.result ≡ place_of c.loop.place + field_size o size =
    c.after-place.ensures ∙ ap (λ n. place_of c.loop.place + n) (c.field_size-in-loop.ensures.value) in
    let out = c.push_speech.new.out.items in
    let written : out ≡ c.loop.out.items ++ (c.header_at-header.result
    ∷ speech_of packet (place_of c.loop.place) size) =
    c.in_ok-push_speech.ensures ∙ ap (λ xs. xs ++ speech_of packet (place_of c.loop.place) size)
    c.in_ok-push.ensures.items ∙ append_assoc c.loop.out.items (c.header_at-header.result ∷ [])
    (speech_of packet (place_of c.loop.place) size) in
    let go = frames_go o packet (c.args.count - (k + 1)) k (place_of c.loop.place) c.header_at-header.result
    c.loop.out.items header size c.in-Some.ensures.value (omega (arith, room, c.field_size.ensures.value)) in
    record {
      entry = c.after-entry.ensures ∙ ap (λ n. place_of c.loop.entry + n) c.entry_size.ensures
          ∙ ap (λ n. n + entry_size o) c.loop.invariant.entry ∙ next_entry o k;
      room = omega (arith, room, next, c.field_size.ensures.value);
      frames =
          ap (λ xs. behind xs (frames_from o packet (c.args.count - (k + 1)) (k + 1)
          (place_of c.after-place.result))) written
          ∙ ap (λ p. behind (c.loop.out.items ++ (c.header_at-header.result
          ∷ speech_of packet (place_of c.loop.place) size))
          (frames_from o packet (c.args.count - (k + 1)) (k + 1) p)) next
          ∙ sym go
          ∙ ap (λ n. behind c.loop.out.items (frames_from o packet n k (place_of c.loop.place))) (sym left)
          ∙ c.loop.invariant.frames;
    }

pub returns-clause-frames : goal.returns-clause-frames
returns-clause-frames c =
    let o = c.args.octet_align in
    let packet = c.args.packet.now in
    let none_left : c.args.count - c.loop.counter ≡ 0 = omega arith in
    sym c.loop.invariant.frames ∙ ap (λ n. behind c.loop.out.items
    (frames_from o packet n c.loop.counter (place_of c.loop.place))) none_left
    ∙ ap Some (append-nil c.loop.out.items)

pub returns-in_err-out-clause-frames : goal.returns-in_err-out-clause-frames
returns-in_err-out-clause-frames c = grind (arith, common_steps)

pub returns-in_err-out-clause-refused : goal.returns-in_err-out-clause-refused
returns-in_err-out-clause-refused c = grind (arith, common_steps)

pub loop-init : goal.loop-init
loop-init c = grind (arith, common_steps)

pub header_at-header-requires : goal.header_at-header-requires
header_at-header-requires c = grind (arith, common_steps)

pub speech_bits-requires : goal.speech_bits-requires
speech_bits-requires c = grind (arith, common_steps)

pub returns-in_default-clause-frames : goal.returns-in_default-clause-frames
returns-in_default-clause-frames c = grind (arith, common_steps)

pub field_size-requires : goal.field_size-requires
field_size-requires c = grind (arith, common_steps)

pub has_room-requires-clause-few : goal.has_room-requires-clause-few
has_room-requires-clause-few c = grind (arith, common_steps)

pub has_room-requires-clause-room : goal.has_room-requires-clause-room
has_room-requires-clause-room c = grind (arith, common_steps)

pub returns-then-not-has_room-clause-frames : goal.returns-then-not-has_room-clause-frames
returns-then-not-has_room-clause-frames c = grind (arith, common_steps)

pub returns-in_err-push-clause-frames : goal.returns-in_err-push-clause-frames
returns-in_err-push-clause-frames c = grind (arith, common_steps)

pub returns-in_err-push-clause-refused : goal.returns-in_err-push-clause-refused
returns-in_err-push-clause-refused c = grind (arith, common_steps)

pub push_speech-requires-clause-few : goal.push_speech-requires-clause-few
push_speech-requires-clause-few c = grind (arith, common_steps)

pub push_speech-requires-clause-room : goal.push_speech-requires-clause-room
push_speech-requires-clause-room c = grind (arith, common_steps)

pub returns-in_err-push_speech-clause-frames : goal.returns-in_err-push_speech-clause-frames
returns-in_err-push_speech-clause-frames c = grind (arith, common_steps)

pub returns-in_err-push_speech-clause-refused : goal.returns-in_err-push_speech-clause-refused
returns-in_err-push_speech-clause-refused c = grind (arith, common_steps)

pub after-entry-requires-clause-few : goal.after-entry-requires-clause-few
after-entry-requires-clause-few c = grind (arith, common_steps)

pub after-entry-requires-clause-room : goal.after-entry-requires-clause-room
after-entry-requires-clause-room c = grind (arith, common_steps)

pub field_size-requires-in-loop : goal.field_size-requires-in-loop
field_size-requires-in-loop c = grind (arith, common_steps)

pub after-place-requires-clause-few : goal.after-place-requires-clause-few
after-place-requires-clause-few c = grind (arith, common_steps)

pub after-place-requires-clause-room : goal.after-place-requires-clause-room
after-place-requires-clause-room c = grind (arith, common_steps)

pub returns-clause-refused : goal.returns-clause-refused
returns-clause-refused c = grind (arith, common_steps)
