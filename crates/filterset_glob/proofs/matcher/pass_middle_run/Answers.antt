use Rattle.filterset_glob.proofs.Passing.{moves_mid}
use Rattle.filterset_glob.proofs.matcher.pass_middle_run.Goals as goal

pub returns-clause-moved : goal.returns-clause-moved
returns-clause-moved c = moves_mid c.args.text.now c.args.positions.now c.pass_character.new.positions c.add_behind_slashes.new.self c.pass_character.ensures.moved (rw c.pass_character.ensures.same at c.add_behind_slashes.ensures.moved)
