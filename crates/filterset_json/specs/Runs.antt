-- What a run of a program writes, and how it ends.
use Rattle.std.specs.Prelude.{◌≡◌, ◌++◌, ◌<◌, ℕ, List, Option, IfSome, Result, Ok, Err, length}
use Rattle.std.specs.Io.KnownBytes.{Appends}
use Rattle.filterset_json.specs.declared.fault.RunFault.{RunFault}

-- the bytes are what a reader had left, if that is known
abbrev pub AreLeft : Option (List ℕ) → List ℕ → Type 0
AreLeft left bytes = IfSome left (λ known. bytes ≡ known)

-- a report of the bytes that were left has this outcome, and a writer took the report and nothing else
abbrev pub IsWritten : {O : Type 0} → (List ℕ → List ℕ → O → Type 0) → Option (List ℕ) → Option (List ℕ)
    → Option (List ℕ) → O → Type 0
IsWritten reports left old new outcome =
    (bytes : List ℕ) × (text : List ℕ) × AreLeft left bytes × reports bytes text outcome × Appends old new text

-- a writer took a beginning of a report of the bytes that were left, which is not the whole report, and nothing else
abbrev pub IsBegun : {O : Type 0} → (List ℕ → List ℕ → O → Type 0) → Option (List ℕ) → Option (List ℕ)
    → Option (List ℕ) → Type 0
IsBegun {O} reports left old new =
    (bytes : List ℕ) × (front : List ℕ) × (rest : List ℕ) × (outcome : O) × AreLeft left bytes
    × reports bytes (front ++ rest) outcome × (0 < length rest) × Appends old new front

-- the exit status of a run: the status of its outcome, or 3
abbrev pub ending_status : {O : Type 0} → (O → ℕ) → Result O RunFault → ℕ
ending_status status_of (Ok outcome) = status_of outcome
ending_status status_of (Err fault) = 3
