use Rattle.std.proofs.{Common.rules, lemmas.Result.IfOk-weaker}
use Rattle.filterset_expression.specs.Contexts.{default_of}
use Rattle.filterset_overrides.specs.Asking.{IsFilterOf}
use Rattle.filterset_overrides.proofs.ApplyingLemmas.{filter_is}
use Rattle.filterset_overrides.proofs.applying.apply_to_test.Goals as goal

pub returns : goal.returns
returns c =
    let is_filter : IsFilterOf c.args.asked.now c.unwrap_or-filter.result.now = filter_is c.args.asked.now.filter _ c.unwrap_or-filter.result (search rules) c.unwrap_or-filter.ensures in
    IfOk-weaker c.apply_flat.result _ _ (λ application applies packages compiled.
    applies packages (default_of c.args.context.now) compiled (c.unwrap_or-filter.result.now, is_filter, c.in_ok-flat.ensures.flat)) c.apply_flat.ensures
