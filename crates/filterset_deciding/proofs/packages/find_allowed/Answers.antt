use Rattle.std.proofs.{Common.◌≡◌, Common.◌∙◌, Common.refl, Common.sym, lemmas.Bool.false≢true}
use Rattle.filterset_deciding.specs.{AnyTest.AnyTest, Known.Agrees}
use Rattle.filterset_deciding.proofs.{Agreeing.agrees_on, Rules.passed_one, Rules.passed_all}
use Rattle.filterset_deciding.proofs.packages.find_allowed.Goals as goal

pub loop-id-preserved : goal.loop-id-preserved
loop-id-preserved c =
    passed_one (λ x. (test : AnyTest) → test.query.binary_query.package_id.now ≡ x → ¬ Agrees test c.args.branch.now) c.args.ids.now.keys c.loop-id.id-iterator c.next.new.self c.in-Some.id.now c.in-Some.ensures.steps
    (λ test same agrees. false≢true (sym c.if-is_allowed.false ∙ (c.is_allowed.ensures test same).1 (agrees_on _ test c.args.branch.now agrees))) c.loop-id.invariant

pub returns-clause-none : goal.returns-clause-none
returns-clause-none c = λ test has.
    passed_all (λ x. (test : AnyTest) → test.query.binary_query.package_id.now ≡ x → ¬ Agrees test c.args.branch.now) c.args.ids.now.keys c.loop-id.id-iterator c.in-None.ensures.steps.0 c.loop-id.invariant
    test.query.binary_query.package_id.now has test refl

pub returns-then-is_allowed-clause-some : goal.returns-then-is_allowed-clause-some
returns-then-is_allowed-clause-some c = λ test same. (c.is_allowed.ensures test same).0 c.if-is_allowed.true
