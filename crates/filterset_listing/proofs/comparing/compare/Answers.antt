use Rattle.std.proofs.{Common.◌∷◌, Common.[], Common.subst, Common.sym, Common.take, lemmas.List.take_all}
use Rattle.filterset_expression.specs.Contexts.{default_of}
use Rattle.filterset_listing.specs.{Comparing.IsBinaryDifference, Overrides.AreLaid}
use Rattle.filterset_listing.specs.Pickers.{expr_picker, tree_picker}
use Rattle.filterset_listing.proofs.ListingLemmas.{AllZip-push, one_more}
use Rattle.filterset_listing.proofs.PickerLemmas.{all_differences_alike, compiled_alike, used_alike}
use Rattle.filterset_listing.proofs.comparing.compare.Goals as goal

pub loop-binary-preserved : goal.loop-binary-preserved
loop-binary-preserved c =
    let default = default_of c.args.context.now in
    let overrides = c.args.overrides.now in
    let first = c.args.first.now in
    let second = c.args.second.now in
    let is_first = c.in_ok-first.ensures.flat in
    let is_second = c.in_ok-second.ensures.flat in
    let used = c.overrides_for_both.result.now in
    let binaries = c.args.binaries.now in
    let i = c.loop-binary.binary-index in
    let binary = c.binary-item.result in
    let laid = subst (AreLaid default used) (sym c.deref.ensures.value) c.in_ok-laid.ensures in
    let is = c.in_ok-difference_of.ensures first second default used is_first is_second laid in
    let own = all_differences_alike (expr_picker default used first) (expr_picker default overrides first) (expr_picker default used second) (expr_picker default overrides second)
    (used_alike c.in_ok-first.first default overrides used first is_first c.overrides_for_both.ensures.first)
    (used_alike c.in_ok-second.second default overrides used second is_second c.overrides_for_both.ensures.second) (binary ∷ []) (c.in_ok-difference_of.field-0 ∷ []) (is, tt) in
    rw (c.in_ok-push.ensures.items, one_more binaries i binary c.loop-binary-test.true (sym c.binary-item.is))
    (AllZip-push (IsBinaryDifference (expr_picker default overrides first) (expr_picker default overrides second)) (take i binaries) _ binary _ c.loop-binary.invariant own.0)

pub returns-clause-picks : goal.returns-clause-picks
returns-clause-picks c =
    let all = c.loop-binary.invariant in
    rw (take_all c.loop-binary.binary-index c.args.binaries.now c.loop-binary-test.false) at all

pub returns-clause-meaning : goal.returns-clause-meaning
returns-clause-meaning c packages one other is_one is_other =
    let default = default_of c.args.context.now in
    let overrides = c.args.overrides.now in
    let first = c.args.first.now in
    let second = c.args.second.now in
    all_differences_alike (expr_picker default overrides first) (tree_picker packages default overrides one) (expr_picker default overrides second) (tree_picker packages default overrides other)
    (compiled_alike packages default overrides one first is_one) (compiled_alike packages default overrides other second is_other) _ _
    (returns-clause-picks c)
