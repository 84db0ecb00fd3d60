use Rattle.std.proofs.Common.{◌↔◌, IsTrue, refl}
use Rattle.std.specs.Prelude.{Contains}
use Rattle.filterset_expression.proofs.PackageIds.{found_exactly}
use Rattle.filterset_deciding.proofs.Agreeing.{alike_on, no_package_known}
use Rattle.filterset_deciding.proofs.packages.allows.Goals as goal

pub returns-in-Some : goal.returns-in-Some
returns-in-Some c = λ test same.
    let keys = c.in-Some.ids.now.keys in
    let found : IsTrue c.contains.result ↔ Contains keys c.args.id.now = rw c.contains.ensures (found_exactly c.args.id.now keys) in
    rw (c.in-Some.ensures.step, c.in-Some.ensures.value, same) (alike_on c.contains.result c.in-Some.value (Contains keys c.args.id.now) found)

pub returns-in-None : goal.returns-in-None
returns-in-None c = λ test same. (λ e. no_package_known test c.args.placed c.in-None.ensures.none, λ known. refl)
