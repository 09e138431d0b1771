use Rattle.std.proofs.Common.{◌++◌, ◌∷◌, [], ap, sym, ◌∙◌, append_assoc, arith}
use Rattle.std.proofs.lemmas.List.FromFn.{map-range_with_len_more}
use Rattle.payload_core_audio.specs.AmrWb.{byte_from, bytes_from}
use Rattle.payload_core_audio.specs.BitBytes.{bits_from}
use Rattle.payload_core_audio.specs.BitPlaces.{place_of}
use Rattle.payload_core_audio.proofs.BitLemmas.{byte-after}
use Rattle.payload_core_audio.proofs.field.push_bytes.Goals as goal

pub loop-k-preserved : goal.loop-k-preserved
loop-k-preserved c =
    let bytes = c.args.bytes.now in
    let bit = bits_from bytes (place_of c.args.place) in
    let old = c.args.out.now.items in
    let k = c.loop-k.k in
    c.in_ok-push.ensures.items
    ∙ ap (λ xs. xs ++ c.byte.result ∷ []) c.loop-k.invariant
    ∙ ap (λ b. (old ++ bytes_from bit k) ++ b ∷ []) (c.byte.ensures
    ∙ ap (λ p. byte_from (bits_from bytes p) 0) c.after.ensures ∙ sym (byte-after bytes (place_of c.args.place) k))
    ∙ append_assoc old (bytes_from bit k) (byte_from bit k ∷ [])
    ∙ ap (λ xs. old ++ xs) (sym (map-range_with_len_more (byte_from bit) 0 k k (omega arith)))
