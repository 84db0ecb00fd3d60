use Rattle.std.proofs.Common.{◌≡◌, ap, option_map, sym, ◌∙◌, None, Some}
use Rattle.serde_json.specs.View.{view}
use Rattle.filterset_display.specs.Messages.{change_in, change_row}
use Rattle.filterset_display.proofs.MessageLemmas.{changes-all, changes-next, changes-none, changes-wrong}
use Rattle.filterset_display.proofs.message.read_changes.Goals as goal

pub loop-value-init : goal.loop-value-init
loop-value-init c = changes-none c.args.values.now c.new-changes.result.items c.new-changes.ensures.items

pub returns-in_default : goal.returns-in_default
returns-in_default c =
    sym (changes-wrong c.args.values.now c.loop-value.value-index c.value-item.result c.loop-value.changes.items c.loop-value-test.true c.value-item.is
    (sym c.in_ok-change.ensures ∙ ap (option_map change_row) c.in_default.is) c.loop-value.invariant)

pub loop-value-preserved : goal.loop-value-preserved
loop-value-preserved c =
    changes-next c.args.values.now c.loop-value.value-index c.value-item.result c.loop-value.changes.items c.push.new.self.items c.in-Some.change
    c.loop-value-test.true c.value-item.is (sym c.in_ok-change.ensures ∙ ap (option_map change_row) c.in-Some.is) c.in_ok-push.ensures.items c.loop-value.invariant

pub returns : goal.returns
returns c = sym (changes-all c.args.values.now c.loop-value.value-index c.loop-value.changes.items c.loop-value-test.false c.loop-value.invariant)
