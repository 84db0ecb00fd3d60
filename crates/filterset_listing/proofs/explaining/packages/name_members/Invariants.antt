use Rattle.std.proofs.Common.{take}
use Rattle.filterset_listing.specs.NamedPackages.{Names, members}
use Rattle.filterset_listing.proofs.explaining.packages.name_members.Given as goal

-- the members among the packages so far are named
abbrev pub invariant-loop-package : goal.invariant-loop-package
invariant-loop-package l = Names (members l.ids.keys (take l.package-index l.package-items)) l.named
