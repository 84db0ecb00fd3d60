-- Which binary or test `explain` is about.
use Rattle.std.specs.Prelude.{◌≡◌, Bool, false, List, Option, Some, None, find, is_some, option_and_then, option_map, string_bytes}
use Rattle.std.specs.{Option.option_or, Borrow.Bor, Str.bytes_eq}
use Rattle.filterset_display.specs.Columns.{Text}
use Rattle.filterset_listing.specs.declared.{binary.AskedBinary.AskedBinary, explaining.candidate.Candidate.Candidate}
use Rattle.filterset_listing.specs.declared.explaining.candidate.Candidate.TheVariants.{Binary, Test}
use Rattle.filterset_loading.specs.declared.fault.CommandFault.{CommandFault, TheVariants.NoBinary, TheVariants.NoTest}

-- the first of the binaries with this id
abbrev pub binary_called : Text → List AskedBinary → Option AskedBinary
binary_called id binaries = find (λ (b : AskedBinary). bytes_eq b.query.binary_id.now id) binaries

-- the name, if a test has it
abbrev pub name_called : Text → List Text → Option Text
name_called name names = find (λ n. bytes_eq n name) names

-- the first test of the binary with this name, of those that count, or else of the others
abbrev pub test_called : Text → AskedBinary → Option Text
test_called name binary = option_or (name_called name binary.tests.now) (name_called name binary.uncounted.now)

-- the binary with this id has a test with this name that does not count
abbrev pub is_uncounted : List AskedBinary → Text → Option (Bor Text) → Bool
is_uncounted binaries id None = false
is_uncounted binaries id (Some test) =
    is_some (option_and_then (λ (b : AskedBinary). name_called test.now b.uncounted.now) (binary_called id binaries))

-- the candidate is the binary with this id, or its test with this name
abbrev pub IsCandidate : List AskedBinary → Text → Option (Bor Text) → Candidate → Type 0
IsCandidate binaries id None (Binary query) = option_map (λ b. b.query) (binary_called id binaries) ≡ Some query
IsCandidate binaries id (Some test) (Test query) =
    (binary : AskedBinary) × (binary_called id binaries ≡ Some binary) × (query.binary_query ≡ binary.query)
    × (test_called test.now binary ≡ Some query.test_name.now)
IsCandidate binaries id _ _ = ⊥

-- the fault names the list, and what it lacks: a binary with this id, or a test of it with this name
abbrev pub IsMissing : Text → List AskedBinary → Text → Option (Bor Text) → CommandFault → Type 0
IsMissing list binaries id test (NoBinary at own) =
    (string_bytes at ≡ list) × (string_bytes own ≡ id) × (binary_called id binaries ≡ None)
IsMissing list binaries id (Some test) (NoTest at own name) =
    (binary : AskedBinary) × (binary_called id binaries ≡ Some binary) × (string_bytes at ≡ list)
    × (string_bytes own ≡ id) × (string_bytes name ≡ test.now) × (test_called test.now binary ≡ None)
IsMissing list binaries id test _ = ⊥
