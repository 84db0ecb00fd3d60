use Rattle.std.proofs.Common.{◌≡◌}
use Rattle.std.specs.Io.KnownBytes.{prepend_known}
use Rattle.filterset_display.specs.{Machine.state_of, Sessions.IsServing}
use Rattle.filterset_display.proofs.serving.serve.Given as goal

abbrev pub invariant-loop-turn : goal.invariant-loop-turn
invariant-loop-turn g l = record {
  serving : IsServing (g.L.Language.says l.language) (prepend_known l.opening (g.R.Source.left l.fn.input))
      (g.R.Source.left l.input) (g.W.Sink.taken l.fn.output) (g.W.Sink.taken l.output) (state_of l.server) l.waiting.items;
  read : g.R.Source.failed l.input ≡ g.R.Source.failed l.fn.input;
  written : g.W.Sink.failed l.output ≡ g.W.Sink.failed l.fn.output;
}
