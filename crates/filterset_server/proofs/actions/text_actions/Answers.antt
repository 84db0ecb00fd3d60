use Rattle.std.proofs.{Common.inl, lemmas.Result.IfOk-weaker}
use Rattle.filterset_language.specs.Views.{tree_of}
use Rattle.filterset_server.proofs.actions.text_actions.Goals as goal

pub returns-in-Ok : goal.returns-in-Ok
returns-in-Ok c =
    let reads = rw c.in-Ok.is at c.in_ok-tree.ensures.read in
    IfOk-weaker c.tree_actions.result _ _ (λ values are. inl (tree_of c.in-Ok.tree, reads, are)) c.tree_actions.ensures
