use Rattle.std.proofs.Common.{refl}
use Rattle.filterset_language.specs.{Parsing.Position.position_of, Parsed.LiesOnBody, Parsing.Descent.leaf_at}
use Rattle.filterset_language.proofs.{Matching.set_gives, Outcomes.gives_as}
use Rattle.filterset_grammar.specs.Patterns.{PatternsAreRead}
use Rattle.filterset_language.proofs.parsing.expressions.read_set.Goals as goal

pub returns-clause-value : goal.returns-clause-value
returns-clause-value c = λ n le.
    let text = c.args.input.text.now in
    let read = set_gives text _ _ _ (position_of c.in_ok-leaf.leaf.end) (leaf_at c.args.name c.args.start.offset (position_of c.args.input)) c.in_ok-leaf.ensures.value in
    gives_as PatternsAreRead (LiesOnBody text) _ _ _ _ _ _ _ read c.in_ok-make_set.ensures refl
