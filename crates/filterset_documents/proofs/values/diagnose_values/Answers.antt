use Rattle.std.proofs.Common.{rules, arith, ◌≡◌, ◌<◌, List, length, get_or, subst, sym}
use Rattle.std.proofs.lemmas.List.{take_all}
use Rattle.serde_json.specs.View.{view}
use Rattle.filterset_configuration.specs.{Wrong.AreWrongValues, declared.wrong.WrongValue.WrongValue}
use Rattle.filterset_documents.specs.Diagnostics.{IsValueWarning}
use Rattle.filterset_documents.proofs.JoinLemmas.{Zips-items}
use Rattle.filterset_documents.proofs.values.diagnose_values.Goals as goal

pub returns : goal.returns
returns c =
    let found = c.deref-wrong-items.result.now in
    let are = c.loop-wrong.invariant in
    let Are : List WrongValue → Type 0 = λ ws. AreWrongValues c.args.shown.now.lines.text.now ws in
    (found, subst Are (sym c.deref-wrong-items.ensures.value) (rw c.requires at c.in_ok-found.ensures), rw (take_all c.loop-wrong.wrong-index found c.loop-wrong-test.false) at are)

pub loop-wrong-preserved : goal.loop-wrong-preserved
loop-wrong-preserved c =
    let shown = c.args.shown.now in
    let found = c.deref-wrong-items.result.now in
    let i = c.loop-wrong.wrong-index in
    let wrong = c.wrong-item.result in
    let lt : i < length found = omega (arith, c.loop-wrong-test.true) in
    let at : get_or found i wrong ≡ wrong = search (rules, c.wrong-item.is) in
    rw c.in_ok-push.ensures.items
    (Zips-items (IsValueWarning shown.encoding shown.lines.text.now) view found i wrong c.loop-wrong.values.items _
    lt at c.loop-wrong.invariant c.in_ok-value_warning.ensures)
