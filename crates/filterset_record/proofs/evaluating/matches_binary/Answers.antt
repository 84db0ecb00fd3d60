use Rattle.filterset_expression.proofs.PackageIds.{found_exactly}
use Rattle.filterset_record.proofs.evaluating.matches_binary.Goals as goal

pub returns-in-Packages : goal.returns-in-Packages
returns-in-Packages c =
    rw (c.in-Packages.is, c.contains.ensures) (found_exactly c.args.query.now.package_id.now c.in-Packages.ids.keys)
