use Rattle.std.proofs.Common.{◌∙◌}
use Rattle.filterset_glob.proofs.Passing.{moves_last}
use Rattle.filterset_glob.proofs.matcher.pass_last_run.Goals as goal

pub returns-clause-moved : goal.returns-clause-moved
returns-clause-moved c = moves_last c.args.text.now c.args.positions.now c.pass_character.new.positions c.fill.new.self c.pass_character.ensures.moved (c.fill.ensures.moved c.args.text.now (c.pass_character.ensures.length ∙ c.requires))
