use Rattle.std.proofs.Common.{◌≡◌, ◌<◌, ◌^◌, true, arith}
use Rattle.std.proofs.lemmas.Grind.{common_steps}
use Rattle.rtp_media_sections.specs.Extensions.{is_writable_map}
use Rattle.rtp_media_exchange.proofs.Keeping.{new_kept}
use Rattle.rtp_media_exchange.proofs.plain.check_new.Goals as goal

pub returns-clause-kept : goal.returns-clause-kept
returns-clause-kept c =
    let id : c.args.session.now.id < 2 ^ 64 = grind (arith, common_steps) in
    let writable : c.in_ok-is_writable_session.field-0 ≡ true = grind (arith, common_steps) in
    let words : is_writable_map c.args.exts.now ≡ true = grind (arith, common_steps) in
    new_kept c.args.session.now c.args.exts.now c.args.rows.now id
    (c.in_ok-is_writable_session.ensures.0 writable) c.is_writable.ensures.numbers words
    c.in_ok-check_rows.ensures.ok c.in_ok-check_types.ensures.ok c.pass_rows.ensures
