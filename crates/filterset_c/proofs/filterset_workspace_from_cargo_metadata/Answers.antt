use Rattle.filterset_c.specs.declared.failure.Failure.TheVariants.{NotUtf8}
use Rattle.filterset_c.proofs.Statuses.{source_failed, source_judged, source_rejected}
use Rattle.filterset_c.proofs.filterset_workspace_from_cargo_metadata.Goals as goal

pub returns-clause-rejected : goal.returns-clause-rejected
returns-clause-rejected c four =
    source_rejected _ _ c.workspace_of_metadata-made.result c.store_workspace.result _ c.workspace_of_metadata-made.ensures.rejected c.store_workspace.ensures four

pub returns-clause-well : goal.returns-clause-well
returns-clause-well c utf8 =
    source_judged _ c.workspace_of_metadata-made.result c.store_workspace.result _ (c.workspace_of_metadata-made.ensures.well utf8) c.store_workspace.ensures

pub returns-clause-not_utf8 : goal.returns-clause-not_utf8
returns-clause-not_utf8 c other =
    source_failed NotUtf8 _ c.workspace_of_metadata-made.result c.store_workspace.result _ (c.workspace_of_metadata-made.ensures.not_utf8 other) c.store_workspace.ensures
