-- The equality test of faults is true exactly of equal faults. Only proofs cite this file.
use Rattle.std.specs.Prelude.{◌≡◌, ℕ, ◌==◌, ◌&&◌, true, List, Option, Some, None, refl}
use Rattle.std.specs.{Bool.Decides, Str.bytes_eq, Cmp.IsEquivalence, Cmp.decided, Cmp.on_equiv}
use Rattle.std.proofs.Common.{ap, subst}
use Rattle.std.proofs.lemmas.Bool.{and_parts, and_from, eqb-true, eq-eqb, false≢true}
use Rattle.std.proofs.lemmas.Slice.Eq.{bytes_eq-Decides}
use Rattle.filterset_glob.specs.declared.fault.GlobConstructError.{GlobConstructError}
use Rattle.filterset_glob.specs.declared.fault.GlobConstructError.TheVariants.{UnclosedClass, InvalidRange, UnopenedAlternates, UnclosedAlternates}
use Rattle.filterset_faults.specs.declared.{span.SourceSpan.SourceSpan, kind.FiltersetKind.FiltersetKind}
use Rattle.filterset_faults.specs.declared.kind.FiltersetKind.TheVariants.{Test, TestArchive, OverrideFilter, DefaultFilter}
use Rattle.filterset_faults.specs.declared.kind.BannedPredicateReason.{BannedPredicateReason}
use Rattle.filterset_faults.specs.declared.kind.BannedPredicateReason.TheVariants.{DefaultInfiniteRecursion, GroupCircularDependency, GroupNotAvailableInDefaultFilter, GroupNotAvailableInArchive, TestNotAvailableInArchive}
use Rattle.filterset_faults.specs.declared.error.Details.{Details}
use Rattle.filterset_faults.specs.Equality.{same_span, same_glob_fault, same_kind, same_reason, Held, nothing, glob_fault, ban, operators, Seen, seen, same_optional_span, same_held, same_seen, same_fault}
use Rattle.filterset_faults.specs.declared.error.Details.TheVariants as details

span_is : (a b : SourceSpan) → same_span a b ≡ true → a ≡ b
span_is a b e =
    let parts = and_parts (a.offset == b.offset) (a.len == b.len) e in
    λ i. record { offset = eqb-true a.offset b.offset parts.0 i; len = eqb-true a.len b.len parts.1 i }

span_self : (a : SourceSpan) → same_span a a ≡ true
span_self a =
    and_from (a.offset == a.offset) (a.len == a.len) (eq-eqb a.offset a.offset refl) (eq-eqb a.len a.len refl)

glob_fault_is : (a b : GlobConstructError) → same_glob_fault a b ≡ true → a ≡ b
glob_fault_is UnclosedClass UnclosedClass e = refl
glob_fault_is (InvalidRange c d) (InvalidRange c' d') e =
    let parts = and_parts (c == c') (d == d') e in
    λ i. InvalidRange (eqb-true c c' parts.0 i) (eqb-true d d' parts.1 i)
glob_fault_is UnopenedAlternates UnopenedAlternates e = refl
glob_fault_is UnclosedAlternates UnclosedAlternates e = refl
glob_fault_is _ _ e = absurd (false≢true e)

glob_fault_self : (a : GlobConstructError) → same_glob_fault a a ≡ true
glob_fault_self UnclosedClass = refl
glob_fault_self (InvalidRange c d) = and_from (c == c) (d == d) (eq-eqb c c refl) (eq-eqb d d refl)
glob_fault_self UnopenedAlternates = refl
glob_fault_self UnclosedAlternates = refl

kind_is : (a b : FiltersetKind) → same_kind a b ≡ true → a ≡ b
kind_is Test Test e = refl
kind_is TestArchive TestArchive e = refl
kind_is OverrideFilter OverrideFilter e = refl
kind_is DefaultFilter DefaultFilter e = refl
kind_is _ _ e = absurd (false≢true e)

kind_self : (a : FiltersetKind) → same_kind a a ≡ true
kind_self Test = refl
kind_self TestArchive = refl
kind_self OverrideFilter = refl
kind_self DefaultFilter = refl

reason_is : (a b : BannedPredicateReason) → same_reason a b ≡ true → a ≡ b
reason_is DefaultInfiniteRecursion DefaultInfiniteRecursion e = refl
reason_is GroupCircularDependency GroupCircularDependency e = refl
reason_is GroupNotAvailableInDefaultFilter GroupNotAvailableInDefaultFilter e = refl
reason_is GroupNotAvailableInArchive GroupNotAvailableInArchive e = refl
reason_is TestNotAvailableInArchive TestNotAvailableInArchive e = refl
reason_is _ _ e = absurd (false≢true e)

reason_self : (a : BannedPredicateReason) → same_reason a a ≡ true
reason_self DefaultInfiniteRecursion = refl
reason_self GroupCircularDependency = refl
reason_self GroupNotAvailableInDefaultFilter = refl
reason_self GroupNotAvailableInArchive = refl
reason_self TestNotAvailableInArchive = refl

-- the same, as the program has it
abbrev pub held_as : Details → Held
held_as details.None = nothing
held_as (details.Glob error) = glob_fault error.now
held_as (details.Ban kind reason) = ban kind reason
held_as (details.Operators op suggest) = operators op.now suggest.now

bytes_is : (a b : List ℕ) → bytes_eq a b ≡ true → a ≡ b
bytes_is a b = (bytes_eq-Decides a b).0

bytes_self : (a : List ℕ) → bytes_eq a a ≡ true
bytes_self a = (bytes_eq-Decides a a).1 refl

optional_span_is : (a b : Option SourceSpan) → same_optional_span a b ≡ true → a ≡ b
optional_span_is (Some a) (Some b) e = ap Some (span_is a b e)
optional_span_is None None e = refl
optional_span_is _ _ e = absurd (false≢true e)

optional_span_self : (a : Option SourceSpan) → same_optional_span a a ≡ true
optional_span_self (Some a) = span_self a
optional_span_self None = refl

held_is : (a b : Held) → same_held a b ≡ true → a ≡ b
held_is nothing nothing e = refl
held_is (glob_fault a) (glob_fault b) e = ap glob_fault (glob_fault_is a b e)
held_is (ban kind reason) (ban other also) e =
    let parts = and_parts (same_kind kind other) (same_reason reason also) e in
    λ i. ban (kind_is kind other parts.0 i) (reason_is reason also parts.1 i)
held_is (operators op suggest) (operators other also) e =
    let parts = and_parts (bytes_eq op other) (bytes_eq suggest also) e in
    λ i. operators (bytes_is op other parts.0 i) (bytes_is suggest also parts.1 i)
held_is _ _ e = absurd (false≢true e)

held_self : (a : Held) → same_held a a ≡ true
held_self nothing = refl
held_self (glob_fault a) = glob_fault_self a
held_self (ban kind reason) = and_from (same_kind kind kind) (same_reason reason reason) (kind_self kind) (reason_self reason)
held_self (operators op suggest) = and_from (bytes_eq op op) (bytes_eq suggest suggest) (bytes_self op) (bytes_self suggest)

seen_is : (a b : Seen) → same_seen a b ≡ true → a ≡ b
seen_is a b e =
    let parts = and_parts (bytes_eq a.code b.code) (same_optional_span a.span b.span && same_held a.held b.held) e in
    let others = and_parts (same_optional_span a.span b.span) (same_held a.held b.held) parts.1 in
    λ i. record {
      code = bytes_is a.code b.code parts.0 i;
      span = optional_span_is a.span b.span others.0 i;
      held = held_is a.held b.held others.1 i;
    }

seen_self : (a : Seen) → same_seen a a ≡ true
seen_self a =
    and_from (bytes_eq a.code a.code) (same_optional_span a.span a.span && same_held a.held a.held) (bytes_self a.code)
    (and_from (same_optional_span a.span a.span) (same_held a.held a.held) (optional_span_self a.span) (held_self a.held))

-- so equality says exactly that these are the same
pub same_seen_Decides : (a b : Seen) → Decides (same_seen a b) (a ≡ b)
same_seen_Decides a b = (seen_is a b, λ e. subst (λ c. same_seen a c ≡ true) e (seen_self a))

pub same_fault_equiv : IsEquivalence same_fault
same_fault_equiv = on_equiv seen (decided same_seen same_seen_Decides)
