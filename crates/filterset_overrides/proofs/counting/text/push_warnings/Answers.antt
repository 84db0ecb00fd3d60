use Rattle.std.proofs.lemmas.Result.{on_ok_weaker}
use Rattle.filterset_overrides.proofs.ListLemmas.{three_more}
use Rattle.filterset_overrides.proofs.counting.text.push_warnings.Goals as goal

pub returns : goal.returns
returns c =
    let second = rw c.is_overtaken.ensures at c.in_ok-push_warning-2.ensures in
    on_ok_weaker c.push_warning-3.result (three_more _ _ _ _ _ _ _ (rw c.is_zero.ensures at c.in_ok-push_warning.ensures) second) c.push_warning-3.ensures
