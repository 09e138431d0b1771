use Rattle.rtp_media_stream_table.proofs.KeptOrSet.{removed_there}
use Rattle.rtp_media_stream_table.proofs.StreamKeys.{other-key}
use Rattle.rtp_media_stream_table.proofs.stream_index.StreamIndex.remove.Goals as goal

pub returns-clause-others : goal.returns-clause-others
returns-clause-others c s p n =
    c.remove.ensures.updates.2 _
    (other-key c.get.result c.get-2.result s p (rw (c.get.ensures, c.get-2.ensures) n))

pub returns-clause-kept : goal.returns-clause-kept
returns-clause-kept c =
    removed_there c.get.result c.get-2.result c.args.self.now (record { numbers = c.remove.new.self })
    c.remove.ensures.updates.1
    (λ s p n. c.remove.ensures.updates.2 _ (other-key c.get.result c.get-2.result s p n))
