use Rattle.std.proofs.Common.{◌≡◌, drop}
use Rattle.serde_json.specs.View.{items_view}
use Rattle.filterset_display.specs.Messages.{first_known}
use Rattle.filterset_display.proofs.message.choose_encoding.Given as goal

abbrev pub invariant-loop-value : goal.invariant-loop-value
invariant-loop-value l = first_known (items_view (drop l.value-index l.values)) ≡ first_known (items_view l.values)
