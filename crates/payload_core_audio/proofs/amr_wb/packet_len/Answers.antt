use Rattle.std.proofs.Common.{length, ap, ◌∙◌}
use Rattle.payload_core_audio.specs.AmrWb.{amr_wb_packet}
use Rattle.payload_core_audio.proofs.AmrWbLemmas.{aligned_len, efficient_len}
use Rattle.payload_core_audio.proofs.amr_wb.packet_len.Goals as goal

pub returns-then-octet_align : goal.returns-then-octet_align
returns-then-octet_align c = λ sample. ap (λ o. length (amr_wb_packet o sample c.args.size)) c.if-octet_align.true
    ∙ aligned_len sample c.args.size

pub returns-else-octet_align : goal.returns-else-octet_align
returns-else-octet_align c = λ sample. ap (λ o. length (amr_wb_packet o sample c.args.size)) c.if-octet_align.false
    ∙ efficient_len sample c.args.size
