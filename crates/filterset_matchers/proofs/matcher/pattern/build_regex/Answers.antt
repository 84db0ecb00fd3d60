use Rattle.filterset_matchers.proofs.PatternLemmas.{IsErrorFor-of_built}
use Rattle.filterset_matchers.proofs.matcher.pattern.build_regex.Goals as goal

pub refusal_of-requires : goal.refusal_of-requires
refusal_of-requires c = IsErrorFor-of_built c.args.text.now c.in-Err.error c.in-Err.ensures.by_grammar c.in-Err.ensures.kind
