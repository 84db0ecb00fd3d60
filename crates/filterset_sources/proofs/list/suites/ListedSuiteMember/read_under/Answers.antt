use Rattle.std.proofs.Common.{rules, ◌≡◌, [], ap, arith, inr, map, ◌∙◌}
use Rattle.std.specs.Prelude.{codes}
use Rattle.serde_json.specs.View.{view}
use Rattle.filterset_json.specs.{Paths.joined, Paths.key_text, Places.Place, Shape.Text}
use Rattle.filterset_json.proofs.RefusalLemmas.{Names-whole, handed_on}
use Rattle.filterset_sources.specs.Suites.{IsListedUnder}
use Rattle.filterset_sources.proofs.{ShapeLemmas.Names-by, TestLemmas.test_row}
use Rattle.filterset_sources.proofs.list.suites.ListedSuiteMember.read_under.Goals as goal

pub returns-in_err-listed-clause-refused : goal.returns-in_err-listed-clause-refused
returns-in_err-listed-clause-refused c =
    handed_on c.from_residual.result c.in_err-listed.field-0.0 c.from_residual.ensures.1
    (λ fact. let is : IsListedUnder c.args.key.now (view c.args.value.now) fact.0 = fact.1 in (fact.0, is.0))
    c.in_err-listed.ensures.refused

-- the suite is right by itself, and its key is another
pub returns-else-eq-clause-place : goal.returns-else-eq-clause-place
returns-else-eq-clause-place c =
    λ wrong same.
    let must = codes "the key of its suite" in
    let key : Text = codes "binary-id" in
    let differs : c.in_ok-listed.listed.suite.binary_id ≡ c.args.key.now → ⊥ = λ is. first_of (search (rules, is, c.as_str.ensures, c.eq.ensures, c.if-eq.false), grind (arith, is, c.as_str.ensures, c.eq.ensures, c.if-eq.false)) in
    let named = Names-by (λ (place : Place). place ≡ ([], must)) (key_text key) c.wrong.result c.after.result
    (λ v w inner outer. rw (inner, outer) at c.after.ensures) (λ e w inner outer. absurd (cc (rw (inner, outer) at c.after.ensures)))
    (Names-whole c.wrong.result must c.wrong.ensures) wrong same in
    inr (((c.in_ok-listed.listed.suite, map test_row c.in_ok-listed.listed.tests.items), c.in_ok-listed.ensures.read, differs), ap (λ (path : Text). (path, wrong.expected.now)) named.1 ∙ ap (λ (q : Place). (joined key q.0, q.1)) named.2)
