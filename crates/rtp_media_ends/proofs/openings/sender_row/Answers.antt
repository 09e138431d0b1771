use Rattle.std.proofs.Common.{◌≡◌, ◌∙◌, ap, sym, arith}
use Rattle.std.proofs.lemmas.Grind.{common_steps}
use Rattle.std.specs.List.{list_any}
use Rattle.rtp_media_ends.specs.Ends.{end_of, refusal_of_open_sender, types_by}
use Rattle.rtp_media_stream_table.specs.Streams.{sends_as}
use Rattle.rtp_media_ends.proofs.Refusals.{sender-refusal}
use Rattle.rtp_media_ends.proofs.openings.sender_row.Goals as goal

pub returns-in-None-clause-opens : goal.returns-in-None-clause-opens
unfolding refusal_of_open_sender
returns-in-None-clause-opens c =
    let e : refusal_of_open_sender (end_of c.args.exchange.now c.args.streams.now) c.args.mid c.args.ssrc c.args.pt
    ≡ c.opening_refusal-refusal.result =
    ((sender-refusal c.args.exchange.now.config.rows c.args.exchange.now.agreed _ c.args.mid
    c.args.ssrc c.args.pt _ c.in_ok-row.row _ _ _ _ c.in_ok-section.ensures.found c.in_ok-row.ensures.found
    c.agrees_in.ensures c.is_sending.ensures c.names_own.ensures
    (c.could_send.ensures
    ∙ ap (λ types. list_any (sends_as c.args.ssrc types) c.args.streams.now) (c.types_of-types.ensures.value
    ∙ ap (types_by c.in_ok-row.row c.args.ssrc) c.own_repair_of.ensures))))
    ∙ sym c.opening_refusal-refusal.ensures in
    grind (arith, common_steps, e)

pub returns-in-Some-clause-refused : goal.returns-in-Some-clause-refused
unfolding refusal_of_open_sender
returns-in-Some-clause-refused c =
    let e : refusal_of_open_sender (end_of c.args.exchange.now c.args.streams.now) c.args.mid c.args.ssrc c.args.pt
    ≡ c.opening_refusal-refusal.result =
    ((sender-refusal c.args.exchange.now.config.rows c.args.exchange.now.agreed _ c.args.mid
    c.args.ssrc c.args.pt _ c.in_ok-row.row _ _ _ _ c.in_ok-section.ensures.found c.in_ok-row.ensures.found
    c.agrees_in.ensures c.is_sending.ensures c.names_own.ensures
    (c.could_send.ensures
    ∙ ap (λ types. list_any (sends_as c.args.ssrc types) c.args.streams.now) (c.types_of-types.ensures.value
    ∙ ap (types_by c.in_ok-row.row c.args.ssrc) c.own_repair_of.ensures))))
    ∙ sym c.opening_refusal-refusal.ensures in
    grind (arith, common_steps, e)
