-- The predicates that are banned from each kind of filterset.
use Rattle.std.specs.Prelude.{Option, Some, None}
use Rattle.filterset_faults.specs.declared.kind.BannedPredicateReason.{BannedPredicateReason}
use Rattle.filterset_faults.specs.declared.kind.BannedPredicateReason.TheVariants.{DefaultInfiniteRecursion, GroupCircularDependency, GroupNotAvailableInDefaultFilter, GroupNotAvailableInArchive, TestNotAvailableInArchive}
use Rattle.filterset_faults.specs.declared.kind.FiltersetKind.{FiltersetKind}
use Rattle.filterset_faults.specs.declared.kind.FiltersetKind.TheVariants.{TestArchive, OverrideFilter, DefaultFilter}
use Rattle.filterset_grammar.specs.Tree.{Leaf, Matching, Default}
use Rattle.filterset_grammar.specs.declared.predicate.Predicate.TheVariants.{Test, Group}

-- why filtersets of a kind may not hold the predicate, if they may not
abbrev pub ban_reason : Leaf (Unit {0}) → FiltersetKind → Option BannedPredicateReason
ban_reason (Matching Group matcher s) OverrideFilter = Some GroupCircularDependency
ban_reason (Matching Test matcher s) TestArchive = Some TestNotAvailableInArchive
ban_reason (Matching Group matcher s) TestArchive = Some GroupNotAvailableInArchive
ban_reason (Default s) DefaultFilter = Some DefaultInfiniteRecursion
ban_reason (Matching Group matcher s) DefaultFilter = Some GroupNotAvailableInDefaultFilter
ban_reason _ _ = None
