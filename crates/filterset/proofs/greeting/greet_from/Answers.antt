use Rattle.std.proofs.{Common.ap, Common.inl, Common.inr, Common.refl, Common.Option, lemmas.Result.IfOk-weaker}
use Rattle.std.specs.Prelude.{option_map}
use Rattle.filterset.specs.Serving.{row_of}
use Rattle.filterset.proofs.ServingLemmas.{named_fault}
use Rattle.filterset_loading.specs.{Workspaces.IsWorkspaceFault, declared.workspace.Workspace.Workspace}
use Rattle.filterset.proofs.greeting.greet_from.Goals as goal

pub returns-in-Ok : goal.returns-in-Ok
returns-in-Ok g c = record { greeted = inl ((c.in-Ok.workspace, c.in-Ok.ensures.read, refl), c.new.ensures.bytes) }

pub returns-in-Err : goal.returns-in-Err
returns-in-Err g c =
    let content = g.F.FileSource.content c.args.files.now in
    let fails = g.F.FileSource.fails c.args.files.now in
    let fault = c.in-Err.fault in
    record {
      greeted = IfOk-weaker c.complain.result _ _
          (λ greeting shown.
          inr (
            fault,
            named_fault (IsWorkspaceFault content fails c.args.paths.now) fault c.in-Err.ensures.refused shown.2,
            ap (λ (o : Option Workspace). option_map row_of o) shown.0,
            shown.1,
          ))
          c.complain.ensures.shown;
    }
