use Rattle.std.proofs.Common.{◌≡◌, ◌++◌, ◌*◌, ◌<◌, ◌^◌, [], map, drop}
use Rattle.media_files.specs.Mkv.{clusters_after}
use Rattle.media_files.specs.MkvViews.{block_shown}
use Rattle.media_files.proofs.mkv.push_clusters.Given as goal

-- what is written, and what the blocks left become after those of the last second
abbrev pub invariant-loop-block : goal.invariant-loop-block
invariant-loop-block l = record {
  small : 1000 * l.second < 2 ^ 64;
  written : l.out.items ++ clusters_after l.second l.inner.items (map block_shown (drop l.block-index l.blocks))
      ≡ l.fn.out.items ++ clusters_after 0 [] (map block_shown l.blocks);
}
