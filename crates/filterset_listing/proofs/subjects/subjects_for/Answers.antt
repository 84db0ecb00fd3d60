use Rattle.std.proofs.Common.{◌∙◌, ◌++◌, ap, subst, sym}
use Rattle.filterset_expression.specs.Contexts.{default_of}
use Rattle.filterset_listing.specs.{Overrides.AreLaid, Overrides.AreTold, Subjects.AreOfTest, Subjects.HangsBy}
use Rattle.filterset_listing.proofs.subjects.subjects_for.Goals as goal

pub returns-in_ok-path-in-Test : goal.returns-in_ok-path-in-Test
returns-in_ok-path-in-Test c =
    let default = default_of c.args.context.now in
    let overrides = c.args.overrides.now in
    let test = c.in-Test.test in
    let laid = subst (AreLaid default overrides) (sym c.deref.ensures.value) c.in_ok-laid-in-Test.ensures in
    let told = subst (AreTold default overrides test.binary_query) (sym c.deref-in-Test.ensures.value) (c.in_ok-rows-in-Test.ensures default overrides laid) in
    let one = c.in_ok-path-in-Test.ensures default overrides told in
    let is = one.1 ∙ ap (λ l. l ++ one.0) c.new-subjects.ensures.items in
    rw c.in-Test.is (subst (λ l. AreOfTest default overrides test l × HangsBy default overrides test l c.in_ok-path-in-Test.path) (sym is) (one.2, one.3))
