use Rattle.std.proofs.Common.{◌∙◌}
use Rattle.h26x_payload.proofs.CodecLaws.{same_format}
use Rattle.h26x_payload.proofs.Runs.{pair_of}
use Rattle.h26x_payload.proofs.laws.pair_law.Goals as goal
use Rattle.h26x_payload.specs.Codings.{coding_in, coding_of}

pub returns-clause-plain : goal.returns-clause-plain
returns-clause-plain g c = λ s has_id codec packs reads. pair_of (coding_of s has_id codec) _ _ packs reads
    (c.codec_law.ensures.codec s has_id codec)

pub returns-clause-in_forms : goal.returns-clause-in_forms
returns-clause-in_forms g c = λ f s has_id codec packs reads. pair_of (coding_in f s has_id codec) _ _ packs
    (reads ∙ same_format f s has_id codec) (c.codec_law.ensures.codec_in_forms f s has_id codec)
