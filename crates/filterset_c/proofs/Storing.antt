-- The outcome of a call that stores what was parsed.
use Rattle.std.proofs.Common.{◌≡◌, ◌≢◌, ◌∙◌, ℕ, List, ap, arith, inl, inr, refl, subst}
use Rattle.std.specs.Prelude.{Option, Some, Result, Ok, Err, IfOk, IfErr, IfSome}
use Rattle.filterset_c.specs.Parsing.{IsOutcome, IsRefused, IsStored, ParsesIn, object_status}
use Rattle.filterset_c.specs.{Statuses.IsJudged, Statuses.status_code, Workspaces.HoldsWorkspace}
use Rattle.filterset_c.specs.declared.failure.Failure.{Failure, TheVariants.OutOfMemory, TheVariants.Rejected}
use Rattle.filterset_c.specs.declared.object.Object.{Object}
use Rattle.filterset_c.specs.declared.object.Object.TheVariants.{Workspace, Filterset, Refused}
use Rattle.filterset_c.specs.declared.object.Refusal.{Refusal}
use Rattle.filterset_faults.specs.declared.kind.FiltersetKind.TheVariants.{DefaultFilter}

memory_differs : OutOfMemory ≢ Rejected
memory_differs e = cc

pub outcome_of : (P : Object → Type 0) (old : Option Object) (made : Result Object Failure) (status : ℕ) (new : Option Object)
    → IfOk made P → IfErr made (λ failure. failure ≢ Rejected) → IsStored old made status new → IsOutcome P old status new
outcome_of P old (Ok object) status new is not (inl stored) = inl (object, is, stored.0, stored.1)
outcome_of P old (Ok object) status new is not (inr kept) = inr (OutOfMemory, memory_differs, kept.0, kept.1)
outcome_of P old (Err failure) status new is not kept = inr (failure, not, kept.0, kept.1)

judged_object : (object : Object) (status : ℕ) → status ≡ object_status object → IsJudged status
judged_object (Workspace workspace) status is = inl is
judged_object (Filterset bound) status is = inl is
judged_object (Refused refused) status is = inr (inr is)

-- a text was parsed or rejected, or there was not enough memory
pub judged : (old : Option Object) (made : Result Object Failure) (status : ℕ) (new : Option Object)
    → IfErr made (λ failure. failure ≡ OutOfMemory) → IsStored old made status new → IsJudged status
judged old (Ok object) status new is (inl stored) = judged_object object status stored.0
judged old (Ok object) status new is (inr kept) = inr (inl kept.0)
judged old (Err failure) status new is kept = inr (inl (kept.0 ∙ ap status_code is))

-- the same if what was parsed are faults, and then the status is not 0
pub rejected_outcome : (P : Object → Type 0) (old : Option Object) (refused : Refusal) (status : ℕ) (new : Option Object)
    → P (Refused refused) → IsStored old (Ok (Refused refused)) status new → IsOutcome P old status new
rejected_outcome P old refused status new is stored = outcome_of P old (Ok (Refused refused)) status new is tt stored

pub rejected_status : (old : Option Object) (refused : Refusal) (status : ℕ) (new : Option Object)
    → IsStored old (Ok (Refused refused)) status new → status ≢ 0
rejected_status old refused status new (inl stored) zero = omega (arith, stored.0, zero)
rejected_status old refused status new (inr kept) zero = omega (arith, kept.0, zero)

-- what is rejected as a default filter is parsed so as the kind with its number
pub parses_default : (object : Object) (text : List ℕ) (refusal : Refusal)
    → HoldsWorkspace (λ workspace. IsRefused workspace text DefaultFilter refusal) (Some object) → ParsesIn (Some object) text 3 (Refused refusal)
parses_default (Workspace workspace) text refusal is = (DefaultFilter, refl, is)
parses_default (Filterset bound) text refusal is = absurd is
parses_default (Refused refused) text refusal is = absurd is

-- what is said of a value that is there
pub of_some : (P : Refusal → Type 0) (found : Option Refusal) (refused : Refusal)
    → found ≡ Some refused → IfSome found P → P refused
of_some P found refused is given = subst (λ (o : Option Refusal). IfSome o P) is given
