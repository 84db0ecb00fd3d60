use Rattle.std.proofs.Common.{◌≡◌, ◌<◌, Some, true, ap, arith, length, subst, sym}
use Rattle.std.specs.Prelude.{slice_get}
use Rattle.std.proofs.lemmas.Option.{slice_get_within}
use Rattle.toml.specs.View.{view}
use Rattle.filterset_configuration.specs.{Wrong.IsRight, declared.wrong.ValueRole.ValueRole}
use Rattle.filterset_configuration.proofs.checking.is_right.Goals as goal

pub returns-in-None-clause-right : goal.returns-in-None-clause-right
returns-in-None-clause-right c =
    let at = c.in-NoCircle.at in
    let P : ValueRole → Type 0 = λ role. IsRight (view c.args.file.now.file.now) role c.args.text.now in
    subst P (sym c.in-NoCircle.is)
    (λ circle.
    omega (arith, slice_get_within c.args.file.now.circles.items at true ((c.requires.0 at).1 circle), c.in-None.ensures.lookup.3, ap length c.deref.ensures.value))
