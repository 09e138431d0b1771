use Rattle.std.proofs.Common.{◌≡◌, ◌++◌, ℕ, List, length, ap, ◌∙◌, arith}
use Rattle.media_files.specs.Opus.{opus_head}
use Rattle.media_files.specs.OpusViews.{stream_shown}
use Rattle.media_files.proofs.OpusLemmas.{length-opus_head}
use Rattle.media_files.proofs.opus.push_head_page.Goals as goal

pub push_page-requires : goal.push_page-requires
push_page-requires c =
    let written : c.push_head.new.out.items ≡ opus_head (stream_shown c.args.stream) =
    c.in_ok-push_head.ensures
    ∙ ap (λ (v : List ℕ). v ++ opus_head (stream_shown c.args.stream)) c.new-head.ensures.items in
    let short : length c.deref.result.now ≡ 19 =
    ap (λ (v : List ℕ). length v) (c.deref.ensures.value ∙ written) ∙ length-opus_head (stream_shown c.args.stream) in
    omega (arith, short)
