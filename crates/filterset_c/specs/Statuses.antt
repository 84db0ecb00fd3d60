-- The statuses of calls.
use Rattle.std.specs.Prelude.{◌≡◌, ◌⊎◌, ℕ, Result, Ok, Err}
use Rattle.filterset_c.specs.declared.failure.Failure.{Failure}
use Rattle.filterset_c.specs.declared.failure.Failure.TheVariants.{OutOfMemory, WrongHandle, NotUtf8, Rejected, InvalidArgument}

abbrev pub status_code : Failure → ℕ
status_code OutOfMemory = 1
status_code WrongHandle = 2
status_code NotUtf8 = 3
status_code Rejected = 4
status_code InvalidArgument = 5

-- the call was done, or there was not enough memory for it
abbrev pub IsDone : ℕ → Type 0
IsDone status = (status ≡ 0) ⊎ (status ≡ 1)

-- the same of a call that parses a text, which may have been rejected
abbrev pub IsJudged : ℕ → Type 0
IsJudged status = (status ≡ 0) ⊎ ((status ≡ 1) ⊎ (status ≡ 4))

-- the call that reads a file failed: the file is rejected, or there was not enough memory
abbrev pub IsSourceFailure : Failure → Type 0
IsSourceFailure failure = (failure ≡ Rejected) ⊎ (failure ≡ OutOfMemory)

abbrev pub status_of : {A : Type 0} → Result A Failure → ℕ
status_of (Ok value) = 0
status_of (Err failure) = status_code failure
