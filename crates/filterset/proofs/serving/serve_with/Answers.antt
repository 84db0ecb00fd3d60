use Rattle.std.proofs.Common.{Err, ap, ◌∙◌}
use Rattle.filterset.proofs.ServingLemmas.{stream_fault}
use Rattle.filterset.proofs.serving.serve_with.Goals as goal

pub returns-in-Err-clause-refused : goal.returns-in-Err-clause-refused
returns-in-Err-clause-refused g c =
    stream_fault (g.R.Source.failed c.serve.new.input) (g.W.Sink.failed c.serve.new.output) c.in-Err.fault
    (λ e. c.serve.ensures.read_failed (c.in-Err.is ∙ ap Err e)) (λ e. c.serve.ensures.write_failed (c.in-Err.is ∙ ap Err e))
