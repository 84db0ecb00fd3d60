-- The exact texts of kinds and reasons.
use Rattle.std.specs.Prelude.{List, ℕ, codes}
use Rattle.filterset_faults.specs.declared.kind.FiltersetKind.{FiltersetKind}
use Rattle.filterset_faults.specs.declared.kind.FiltersetKind.TheVariants.{Test, TestArchive, OverrideFilter, DefaultFilter}
use Rattle.filterset_faults.specs.declared.kind.BannedPredicateReason.{BannedPredicateReason}
use Rattle.filterset_faults.specs.declared.kind.BannedPredicateReason.TheVariants.{DefaultInfiniteRecursion, GroupCircularDependency, GroupNotAvailableInDefaultFilter, GroupNotAvailableInArchive, TestNotAvailableInArchive}

abbrev pub kind_text : FiltersetKind → List ℕ
kind_text Test = codes "test"
kind_text TestArchive = codes "archive-filter"
kind_text OverrideFilter = codes "override-filter"
kind_text DefaultFilter = codes "default-filter"

abbrev pub reason_text : BannedPredicateReason → List ℕ
reason_text DefaultInfiniteRecursion = codes "default() causes infinite recursion"
reason_text GroupCircularDependency = codes "group() creates a circular dependency with overrides"
reason_text GroupNotAvailableInDefaultFilter = codes "group() is not available in default-filter expressions"
reason_text GroupNotAvailableInArchive = codes "group() predicates are not supported while archiving"
reason_text TestNotAvailableInArchive = codes "test() predicates are not supported while archiving"
