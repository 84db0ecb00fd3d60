use Rattle.std.proofs.Common.{Ok, map}
use Rattle.std.specs.List.{AllZip}
use Rattle.filterset_entries.specs.Checked.{text_row}
use Rattle.filterset_verdicts.specs.Deciding.{ResolvesTo}
use Rattle.filterset_verdicts.proofs.naming.resolve_entries.Given as goal

-- what the texts so far stand for
abbrev pub invariant-loop-entry : goal.invariant-loop-entry
invariant-loop-entry l = AllZip (λ row own. ResolvesTo l.known l.texts row (Ok own)) (map text_row l.yielded) (map text_row l.resolved.items)
