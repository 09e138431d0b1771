use Rattle.std.proofs.Common.{◌≡◌, ◌++◌, ℕ, List, length, ap, ◌∙◌, arith}
use Rattle.media_files.specs.Opus.{opus_tags}
use Rattle.media_files.proofs.OpusLemmas.{length-opus_tags}
use Rattle.media_files.proofs.opus.push_tags_page.Goals as goal

pub push_page-requires : goal.push_page-requires
push_page-requires c =
    let written : c.push_tags.new.out.items ≡ opus_tags =
    c.in_ok-push_tags.ensures ∙ ap (λ (v : List ℕ). v ++ opus_tags) c.new-tags.ensures.items in
    let short : length c.deref.result.now ≡ 27 =
    ap (λ (v : List ℕ). length v) (c.deref.ensures.value ∙ written) ∙ length-opus_tags in
    omega (arith, short)
