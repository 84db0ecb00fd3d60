use Rattle.std.proofs.{Common.rules, Common.List, Common.subst, Common.sym, Common.take, lemmas.List.take_all}
use Rattle.std.specs.List.{AllZip}
use Rattle.filterset_expression.specs.Contexts.{default_of}
use Rattle.filterset_overrides.specs.Applying.{AppliesAs, Test, tests_of, tests_of_one}
use Rattle.filterset_overrides.specs.Asking.{IsFilterOf}
use Rattle.filterset_overrides.proofs.{ApplyingLemmas.filter_is, ListLemmas.flat_more}
use Rattle.filterset_overrides.proofs.applying.apply_to_tests.Goals as goal

pub loop-binary-init : goal.loop-binary-init
loop-binary-init c packages compiled = rw c.new-applications.ensures.items tt

pub loop-binary-preserved : goal.loop-binary-preserved
loop-binary-preserved c packages compiled =
    let binaries = c.args.binaries.now in
    let i = c.loop-binary.binary-index in
    let default = default_of c.args.context.now in
    let is_filter : IsFilterOf c.args.asked.now c.unwrap_or-filter.result.now = filter_is c.args.asked.now.filter _ c.unwrap_or-filter.result (search rules) c.unwrap_or-filter.ensures in
    subst (λ (all : List Test). AllZip (λ test. AppliesAs packages default test c.args.asked.now) all c.push_applications.new.applications.items)
    (sym (flat_more tests_of_one binaries i c.binary-item.result c.loop-binary-test.true (sym c.binary-item.is)))
    (c.in_ok-push_applications.ensures packages default (tests_of (take i binaries)) compiled (c.unwrap_or-filter.result.now, is_filter, c.in_ok-flat.ensures.flat) (c.loop-binary.invariant packages compiled))

pub returns : goal.returns
returns c packages compiled = rw (take_all c.loop-binary.binary-index c.args.binaries.now c.loop-binary-test.false) at (c.loop-binary.invariant packages compiled)
