use Rattle.std.proofs.lemmas.Str.Pattern.{strip_prefix_char}
use Rattle.filterset_rewriting.proofs.FrontLemmas.{after_sign}
use Rattle.filterset_rewriting.proofs.operands.after.Goals as goal

pub returns-clause-found : goal.returns-clause-found
returns-clause-found c =
    after_sign c.args.mark c.args.text.now c.trim_start.result.now _ c.trim_start.ensures.trim
    (strip_prefix_char c.args.mark _ _ c.strip_prefix.ensures.cases c.requires)
