use Rattle.std.proofs.Common.{◌≡◌, ap, arith}
use Rattle.std.specs.Prelude.{codes}
use Rattle.filterset_graph.specs.Packages.{ids}
use Rattle.filterset_json.specs.{Paths.joined, Paths.key_text, Places.Place}
use Rattle.filterset_sources.specs.Suites.{IsOfPackage, WrongPackages}
use Rattle.filterset_sources.proofs.GraphLemmas.{All-done, All-next, Contains-id, first_not, found_says, missing_says}
use Rattle.filterset_sources.proofs.ShapeLemmas.{Refuses-if}
use Rattle.filterset_sources.proofs.list.check_packages.Goals as goal

pub returns-then-is_none-clause-refused : goal.returns-then-is_none-clause-refused
returns-then-is_none-clause-refused c =
    let first = first_not (IsOfPackage (ids c.args.graph.now)) c.args.list.now.suites.items c.loop-suite.suite-index c.suite-item.result (rw c.deref-suite-items.ensures.value at c.loop-suite-test.true) (rw c.deref-suite-items.ensures.value at c.suite-item.is) c.loop-suite.invariant
    (missing_says c.metadata.result _ _ c.is_none.result c.metadata.ensures c.is_none.ensures c.if-is_none.true) in
    Refuses-if (λ (place : Place). place ≡ (joined (codes "rust-suites") (joined (key_text c.suite-item.result.binary_id) (codes "package-id")), codes "the id of a package of cargo's metadata")) (WrongPackages (ids c.args.graph.now) c.args.list.now.suites.items)
    c.unknown_package.result (λ place is. (c.loop-suite.suite-index, c.suite-item.result, first, ap (λ (q : Place). q.0) is, ap (λ (q : Place). q.1) is)) c.unknown_package.ensures

pub loop-suite-preserved : goal.loop-suite-preserved
loop-suite-preserved c =
    let p = found_says c.metadata.result _ _ c.is_none.result c.metadata.ensures c.is_none.ensures c.if-is_none.false in
    All-next (IsOfPackage (ids c.args.graph.now)) c.args.list.now.suites.items c.loop-suite.suite-index c.suite-item.result (rw c.deref-suite-items.ensures.value at c.loop-suite-test.true) (rw c.deref-suite-items.ensures.value at c.suite-item.is) c.loop-suite.invariant
    (Contains-id c.args.graph.now p.0.now c.suite-item.result.package_id p.1.0 p.1.1)

pub returns-clause-ok : goal.returns-clause-ok
returns-clause-ok c = All-done (IsOfPackage (ids c.args.graph.now)) c.args.list.now.suites.items c.loop-suite.suite-index (omega (arith, rw c.deref-suite-items.ensures.value at c.loop-suite-test.false)) c.loop-suite.invariant
