use Rattle.std.proofs.Common.{arith, ◌≡◌, ◌<◌, ◌≤◌, ◌∙◌, ⊎_elim, subst, sym}
use Rattle.std.proofs.lemmas.Bool.{cases_lt, false≢true}
use Rattle.filterset_deciding.specs.Texts.{AreSimple}
use Rattle.filterset_deciding.proofs.Parts.{simple_for}
use Rattle.filterset_deciding.proofs.texts.find_separator.Goals as goal

pub returns-then-are_simple-clause-some : goal.returns-then-are_simple-clause-some
returns-then-are_simple-clause-some c = (omega arith, c.are_simple.ensures.0 c.if-are_simple.true)

pub loop-c-preserved : goal.loop-c-preserved
loop-c-preserved c = λ k low within are.
    let at = c.loop-c.c in
    ⊎_elim (λ (earlier : k < at). c.loop-c.invariant k low earlier are)
    (λ (later : at ≤ k).
    let same : k ≡ at = omega (arith, later, within) in
    false≢true (sym c.if-are_simple.false ∙ c.are_simple.ensures.1 (subst (λ x. AreSimple x c.args.demands.now) same are))) (cases_lt k at)

pub returns-clause-none : goal.returns-clause-none
returns-clause-none c = λ are.
    let one = simple_for c.args.demands.now are in
    c.loop-c.invariant one.0 (omega (arith, one.1)) (omega (arith, one.2)) one.3
