use Rattle.std.proofs.Common.{◌≡◌, ℕ, ◌+◌, ◌-◌, ◌/◌, List, ◌++◌, length, take, drop, replicate, ap, sym, ◌∙◌}
use Rattle.std.proofs.Common.{arith}
use Rattle.std.proofs.lemmas.List.{length-drop, length-take, take_all, take_at}
use Rattle.payload_core_audio.proofs.AmrWbLemmas.{efficient_len}
use Rattle.payload_core_audio.proofs.EfficientLemmas.{after-front}
use Rattle.payload_core_audio.proofs.amr_wb.efficient_packet.Goals as goal

pub write_efficient-requires-clause-len : goal.write_efficient-requires-clause-len
write_efficient-requires-clause-len c =
    let len : c.packet_len-len.result ≡ (c.args.size + 17) / 8 =
    sym (c.packet_len-len.ensures c.args.bytes.now) ∙ efficient_len c.args.bytes.now c.args.size in
    omega (
      arith,
      length-take (length c.deref_mut.result.now - length c.args.prefix.now)
          (drop (length c.args.prefix.now) c.deref_mut.result.now),
      length-drop (length c.args.prefix.now) c.deref_mut.result.now,
      c.deref_mut.ensures.len,
      c.in_ok-resize.ensures.len,
      len,
    )

pub returns : goal.returns
returns c =
    let prefix : List ℕ = c.args.prefix.now in
    let len : ℕ = c.packet_len-len.result in
    let put : c.extend_from_slice.new.self.items ≡ prefix =
    c.in_ok-extend_from_slice.ensures.items ∙ ap (λ xs. xs ++ prefix) c.in_ok-packet.ensures.items in
    let filled = c.deref_mut.ensures.value ∙ c.in_ok-resize.ensures.items in
    let same : take (length prefix) c.deref_mut.result.now ≡ prefix =
    ap (take (length prefix)) (filled ∙ ap (λ xs. xs ++ replicate
    (length prefix + len - c.extend_from_slice.new.self.len) 0)
    (take_all (length prefix + len) c.extend_from_slice.new.self.items (omega (arith, ap length put)) ∙ put))
    ∙ take_at prefix (replicate (length prefix + len - c.extend_from_slice.new.self.len) 0) (length prefix)
    (omega arith) in
    after-front prefix c.write_efficient.new.out c.deref_mut.result.now c.resize.new.self.items
    c.resize.new.self.len _ same
    (omega (
      arith,
      c.deref_mut.ensures.len,
      c.in_ok-resize.ensures.len,
      ap length c.write_efficient.ensures,
      c.packet_len-len.ensures c.args.bytes.now,
    ))
    (omega (arith, c.deref_mut.ensures.len))
    ∙ ap (λ xs. prefix ++ xs) c.write_efficient.ensures
