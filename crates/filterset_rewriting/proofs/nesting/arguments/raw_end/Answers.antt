use Rattle.std.proofs.Common.{◌∙◌, ap, false}
use Rattle.filterset_rewriting.specs.Nesting.Arguments.{raw_len}
use Rattle.filterset_rewriting.proofs.ArgumentLemmas.{cut, over_raw}
use Rattle.filterset_rewriting.proofs.nesting.arguments.raw_end.Goals as goal

pub returns-clause-behind : goal.returns-clause-behind
returns-clause-behind c inside t raw is =
    c.after_byte.ensures.behind t (c.split_at.ensures.back ∙ cut _ inside _ _ is (c.raw_len.ensures.value ∙ ap (raw_len false) is ∙ over_raw raw.1 t))
