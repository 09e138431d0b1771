use Rattle.std.proofs.Common.{List, ap, map, Option, Bor, ℕ, ◌∙◌}
use Rattle.media_files.specs.Opus.{item}
use Rattle.media_files.specs.OpusViews.{stream_shown}
use Rattle.media_files.proofs.OpusLemmas.{opus_file-is}
use Rattle.media_files.proofs.opus.opus_file.Goals as goal

pub returns-clause-value : goal.returns-clause-value
returns-clause-value c =
    opus_file-is (stream_shown c.args.stream) (map item c.args.packets.now) c.split_at.result.1.now c.is_empty.result
    c.new-out.result.items c.push_head_page.new.out.items c.push_tags_page.new.out.items c.push_sounds.new.out.items
    c.new-out.ensures.items c.in_ok-push_head_page.ensures c.in_ok-push_tags_page.ensures
    c.in_ok-push_sounds.ensures.value c.is_empty.ensures
    (ap (λ (xs : List (Option (Bor (List ℕ)))). map item xs) c.split_at.ensures.back ∙ c.lost_in_front.ensures.value)
