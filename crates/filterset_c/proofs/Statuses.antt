-- Which status comes of what was made.
use Rattle.std.proofs.Common.{◌≡◌, ◌∙◌, ℕ, List, ap, arith, inl, inr, refl, subst, sym}
use Rattle.std.specs.Prelude.{Option, Result, Ok, Err, IfOk, IfErr, Vec, length}
use Rattle.std.specs.declared.alloc.Global.{Global}
use Rattle.filterset_c.specs.Parsing.{IsWorkspaceStored}
use Rattle.filterset_c.specs.Statuses.{IsDone, IsJudged, IsSourceFailure, status_code}
use Rattle.filterset_c.specs.{Written.AreWritten, declared.failure.Failure.Failure}
use Rattle.filterset_c.specs.declared.failure.Failure.TheVariants.{OutOfMemory, WrongHandle, NotUtf8, Rejected, InvalidArgument}
use Rattle.filterset_c.specs.declared.object.{Object.Object, Workspace.Workspace}

-- ---- statuses tell failures apart

pub is_rejected : (failure : Failure) → status_code failure ≡ 4 → failure ≡ Rejected
is_rejected OutOfMemory e = absurd (omega (arith, e))
is_rejected WrongHandle e = absurd (omega (arith, e))
is_rejected NotUtf8 e = absurd (omega (arith, e))
is_rejected Rejected e = refl
is_rejected InvalidArgument e = absurd (omega (arith, e))

-- ---- workspaces

pub source_judged : (old : Option Object) (made : Result Workspace Failure) (status : ℕ) (new : Option Object)
    → IfErr made IsSourceFailure → IsWorkspaceStored old made status new → IsJudged status
source_judged old (Ok workspace) status new failed (inl stored) = inl stored.0
source_judged old (Ok workspace) status new failed (inr kept) = inr (inl kept.0)
source_judged old (Err failure) status new (inl is) kept = inr (inr (kept.0 ∙ ap status_code is))
source_judged old (Err failure) status new (inr is) kept = inr (inl (kept.0 ∙ ap status_code is))

pub source_rejected : (P : Type 0) (old : Option Object) (made : Result Workspace Failure) (status : ℕ) (new : Option Object)
    → IfErr made (λ failure. failure ≡ Rejected → P) → IsWorkspaceStored old made status new → status ≡ 4 → P
source_rejected P old (Ok workspace) status new why (inl stored) four = absurd (omega (arith, stored.0, four))
source_rejected P old (Ok workspace) status new why (inr kept) four = absurd (omega (arith, kept.0, four))
source_rejected P old (Err failure) status new why kept four = why (is_rejected failure (sym kept.0 ∙ four))

pub source_failed : (failure : Failure) (old : Option Object) (made : Result Workspace Failure) (status : ℕ) (new : Option Object)
    → made ≡ Err failure → IsWorkspaceStored old made status new → status ≡ status_code failure
source_failed failure old made status new is stored =
    (subst (λ (m : Result Workspace Failure). IsWorkspaceStored old m status new) is stored).0

-- ---- numbers

pub numbers_done : (numbers : Result (Vec ℕ Global) Failure) (old : List ℕ) (status : ℕ) (new : List ℕ)
    → IfErr numbers (λ failure. failure ≡ OutOfMemory) → IfOk numbers (λ n. length n.items ≡ length old)
    → AreWritten numbers old status new → IsDone status
numbers_done (Ok numbers) old status new failed count (inl written) = inl written.0
numbers_done (Ok numbers) old status new failed count (inr other) = absurd (other.1 count)
numbers_done (Err failure) old status new is count kept = inr (kept.0 ∙ ap status_code is)

pub numbers_failed : (failure : Failure) (numbers : Result (Vec ℕ Global) Failure) (old : List ℕ) (status : ℕ) (new : List ℕ)
    → numbers ≡ Err failure → AreWritten numbers old status new → status ≡ status_code failure
numbers_failed failure numbers old status new is written =
    (subst (λ (n : Result (Vec ℕ Global) Failure). AreWritten n old status new) is written).0
