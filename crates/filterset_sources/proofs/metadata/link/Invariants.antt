use Rattle.std.proofs.Common.{◌≡◌, map}
use Rattle.std.specs.Prelude.{All}
use Rattle.filterset_sources.specs.Metadata.{IsLinkedAs, itself}
use Rattle.filterset_sources.proofs.metadata.link.Given as goal

-- the packages so far, linked
abbrev pub invariant-loop-package : goal.invariant-loop-package
invariant-loop-package l = (map itself l.all.items ≡ map itself l.yielded) × All (IsLinkedAs l.members l.nodes) l.all.items
