use Rattle.std.proofs.Common.{refl, ◌∙◌}
use Rattle.filterset_display.specs.Machine.{state_of}
use Rattle.filterset_display.proofs.SessionLemmas.{serving-begun}
use Rattle.filterset_display.proofs.serving.serve.Goals as goal

pub loop-turn-init : goal.loop-turn-init
loop-turn-init g c = record {
  serving =
      serving-begun (g.L.Language.says c.args.language.now) (g.R.Source.left c.args.input.now) (g.W.Sink.taken c.args.output.now)
      c.args.opening.now c.in_ok-waiting.waiting.items (state_of c.new-server.result) c.new-server.ensures c.in_ok-waiting.ensures.items;
  read = refl;
  written = refl;
}

pub returns-in-Some-clause-served : goal.returns-in-Some-clause-served
returns-in-Some-clause-served g c = (
  state_of c.take_turn.new.server,
  c.take_turn.new.waiting.items,
  c.in_ok-ending.ensures.goes_on _ _ c.loop-turn.invariant.serving,
  rw c.in-Some.is at c.in_ok-ending.ensures.ends,
)

pub loop-turn-preserved : goal.loop-turn-preserved
loop-turn-preserved g c = record {
  serving = c.in_ok-ending.ensures.goes_on _ _ c.loop-turn.invariant.serving;
  read = c.in_ok-ending.ensures.none_failed.0 ∙ c.loop-turn.invariant.read;
  written = c.in_ok-ending.ensures.none_failed.1 ∙ c.loop-turn.invariant.written;
}
