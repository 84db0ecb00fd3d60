use Rattle.std.proofs.Common.{◌∙◌, ap, inl, inr, not, rules}
use Rattle.std.specs.List.{list_any}
use Rattle.filterset_server.specs.Mending.{begins_in}
use Rattle.filterset_server.proofs.mending.is_clear.Goals as goal

pub returns-in-Err-Found : goal.returns-in-Err-Found
returns-in-Err-Found c =
    let told = c.any_begins.ensures ∙ ap (list_any (begins_in c.args.from c.args.len)) c.as_slice.ensures.value in
    inr (inl (c.in-Err-Found.faults.items, search rules, ap not told))
