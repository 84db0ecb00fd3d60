use Rattle.std.proofs.{Common.arith, lemmas.Str.Pattern.strip_prefix_char}
use Rattle.filterset_verdicts.proofs.naming.profile_name.Goals as goal

pub returns : goal.returns
returns c = strip_prefix_char 64 c.args.text.now c.strip_prefix.result c.strip_prefix.ensures.cases (omega arith)
