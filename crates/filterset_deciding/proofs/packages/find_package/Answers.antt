use Rattle.std.proofs.Common.{rules, arith, ◌≡◌, ◌<◌, ◌∙◌, ℕ, List, length, get_or, refl, ap, sym}
use Rattle.std.specs.Borrow.{Bor}
use Rattle.std.proofs.lemmas.List.{take_all}
use Rattle.filterset_deciding.specs.PackageSets.{IsInNone}
use Rattle.filterset_deciding.proofs.{Agreeing.each_taken, Branches.agrees_at}
use Rattle.filterset_deciding.proofs.packages.find_package.Goals as goal

pub loop-placed-preserved : goal.loop-placed-preserved
loop-placed-preserved c =
    let branch = c.args.branch.now in
    let i = c.loop-placed.placed-index in
    let p = c.placed-item.result in
    let lt : i < length branch = omega (arith, c.loop-placed-test.true) in
    let at : get_or branch i p ≡ p = search (rules, c.placed-item.is) in
    each_taken IsInNone branch i p lt at c.loop-placed.invariant c.in-None.ensures.none

pub returns-clause-any : goal.returns-clause-any
returns-clause-any c = λ e. rw (take_all c.loop-placed.placed-index c.args.branch.now c.loop-placed-test.false) at c.loop-placed.invariant

pub returns-in-Some-find_allowed-clause-is : goal.returns-in-Some-find_allowed-clause-is
returns-in-Some-find_allowed-clause-is c = λ id e test same.
    let one : c.in-Some-find_allowed.id ≡ id = cc in
    c.in-Some-find_allowed.ensures.some test (same ∙ ap (λ (x : Bor (List ℕ)). x.now) (sym one))

pub returns-in-None-find_allowed-clause-impossible :
    goal.returns-in-None-find_allowed-clause-impossible
returns-in-None-find_allowed-clause-impossible c = λ e test agrees.
    let branch = c.args.branch.now in
    let i = c.loop-placed.placed-index in
    let p = c.placed-item.result in
    let lt : i < length branch = omega (arith, c.loop-placed-test.true) in
    let at : get_or branch i p ≡ p = search (rules, c.placed-item.is) in
    let own = rw (c.in-Some.ensures.step, c.in-Some.ensures.value) at (agrees_at test branch i p lt at agrees) in
    c.in-None-find_allowed.ensures.none test (own.0 refl) agrees
