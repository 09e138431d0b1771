use Rattle.std.proofs.Common.{map, arith}
use Rattle.std.proofs.lemmas.List.{length-map}
use Rattle.media_files.specs.Ivf.{size_of}
use Rattle.media_files.specs.Units.{timed}
use Rattle.media_files.proofs.IvfLemmas.{ivf_file-begun, too-long}
use Rattle.std.proofs.lemmas.Result.{err_from_is_err_and}
use Rattle.media_files.proofs.ivf.ivf_file.Goals as goal

pub loop-frame-init : goal.loop-frame-init
loop-frame-init c = record {
  low = omega (arith, c.first_time-first.ensures.low);
  fits = λ k d below. absurd (omega (arith, below));
  written = ivf_file-begun c.args.codec c.args.rate c.ticks_of-ticks.result c.first_time-first.result
      (size_of c.picture_size.result.0 c.picture_size.result.1) (map timed c.args.frames.now)
      c.new-out.result.items c.push_header.new.out.items c.new-out.ensures.items
      c.in_ok-push_header.ensures c.picture_size.ensures (cc (length-map c.args.frames.now timed))
      c.first_time-first.ensures.value;
}

pub returns-in_err-push_frame-clause-refused : goal.returns-in_err-push_frame-clause-refused
returns-in_err-push_frame-clause-refused c =
    let p = err_from_is_err_and c.from_residual-in_err-push_frame.result c.from_residual-in_err-push_frame.ensures.1 in
    rw (p.1, p.2)
    (λ other. let h = c.in_err-push_frame.ensures.refused other in
    (h.0, too-long c.args.codec c.args.frames.now c.loop-frame.frame-index _ c.loop-frame-test.true h.1))
