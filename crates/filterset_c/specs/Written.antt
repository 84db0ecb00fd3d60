-- What calls write where C says.
use Rattle.std.specs.Prelude.{◌≡◌, ◌≢◌, ◌⊎◌, ℕ, List, Result, Ok, Err, String, Vec, length, string_bytes}
use Rattle.std.specs.declared.alloc.Global.{Global}
use Rattle.filterset_c.specs.{Faulty.written, Statuses.status_code}
use Rattle.filterset_c.specs.declared.failure.Failure.{Failure, TheVariants.InvalidArgument}

-- the number is written, or the call failed and nothing is
abbrev pub IsWritten : Result ℕ Failure → ℕ → ℕ → ℕ → Type 0
IsWritten (Ok number) old status new = (status ≡ 0) × (new ≡ number)
IsWritten (Err failure) old status new = (status ≡ status_code failure) × (new ≡ old)

-- the numbers are written if there is room for just as many; or the call failed and nothing is
abbrev pub AreWritten : Result (Vec ℕ Global) Failure → List ℕ → ℕ → List ℕ → Type 0
AreWritten (Ok numbers) old status new =
    ((status ≡ 0) × (new ≡ numbers.items))
    ⊎ ((status ≡ status_code InvalidArgument) × (length numbers.items ≢ length old) × (new ≡ old))
AreWritten (Err failure) old status new = (status ≡ status_code failure) × (new ≡ old)

-- a text of which P holds is written as far as there is room for it, and its length
abbrev pub IsWrittenText : (List ℕ → Type 0) → List ℕ → List ℕ → ℕ → Type 0
IsWrittenText P old new count = (text : List ℕ) × P text × (count ≡ length text) × (new ≡ written text old)

-- the text is written as far as there is room for it, with its length; or the call failed and nothing is
abbrev pub IsTextWritten : Result (String Global) Failure → List ℕ → ℕ → ℕ → List ℕ → ℕ → Type 0
IsTextWritten (Ok text) room old status new count =
    (status ≡ 0) × (new ≡ written (string_bytes text) room) × (count ≡ length (string_bytes text))
IsTextWritten (Err failure) room old status new count = (status ≡ status_code failure) × (new ≡ room) × (count ≡ old)
