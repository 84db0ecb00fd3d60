-- How two filtersets differ on a list.
use Rattle.std.specs.Prelude.{◌≡◌, ◌↔◌, ◌⊎◌, ◌||◌, ◌++◌, Bool, true, false, not, IsTrue, List, [], ◌∷◌, Option, Some, is_none, map}
use Rattle.std.specs.{Borrow.Bor, List.Any}
use Rattle.filterset_listing.specs.{Asking.Text, Groups.known_of, Listing.one_of, Pickers.Answers, Pickers.Picker}
use Rattle.filterset_listing.specs.declared.binary.AskedBinary.{AskedBinary}
use Rattle.filterset_listing.specs.declared.groups.TestAnswer.{TestAnswer, TheVariants.Known}
use Rattle.filterset_listing.specs.declared.comparing.{BinaryDifference.BinaryDifference, Part.Part}
use Rattle.filterset_listing.specs.declared.comparing.Part.TheVariants.{OnlyFirst, OnlySecond, Both, Unknown}
use Rattle.filterset_listing.specs.declared.groups.TestAnswer.TheVariants as answers

-- whether the two filtersets' answers are of the part
abbrev pub is_of : Part → Option Bool → Option Bool → Bool
is_of OnlyFirst (Some true) (Some false) = true
is_of OnlySecond (Some false) (Some true) = true
is_of Both (Some true) (Some true) = true
is_of Unknown first second = is_none first || is_none second
is_of _ _ _ = false

-- the tests of a part of a binary
abbrev pub tests_in : Part → BinaryDifference → List Text
tests_in OnlyFirst difference = map (λ t. t.now) difference.first.items
tests_in OnlySecond difference = map (λ t. t.now) difference.second.items
tests_in Both difference = map (λ t. t.now) difference.both.items
tests_in Unknown difference = map (λ t. t.now) difference.unknown.items

-- each part has the tests whose answers are of it, each once and in their order
abbrev pub Divides : (Text → TestAnswer → Type 0) → (Text → TestAnswer → Type 0) → List Text → (Part → List Text) → Type 0
Divides One Other [] parts = (part : Part) → parts part ≡ []
Divides One Other (test ∷ tests) parts = (x : TestAnswer) × (y : TestAnswer) × (rest : Part → List Text)
    × One test x × Other test y × ((part : Part) → parts part ≡ one_of (is_of part (known_of x) (known_of y)) test ++ rest part)
    × Divides One Other tests rest

-- how the two filtersets differ on the binary
abbrev pub IsBinaryDifference : Picker → Picker → AskedBinary → BinaryDifference → Type 0
IsBinaryDifference one other binary d = (d.binary ≡ binary)
    × Answers one binary.query d.first_answer × Answers other binary.query d.second_answer
    × Divides (one.Says binary.query) (other.Says binary.query) binary.tests.now (λ part. tests_in part d)

-- a test of the binary is picked by one of them alone, or nextest skipped the binary, and they do not decide it alike
abbrev pub MayDifferOn : Picker → Picker → AskedBinary → Type 0
MayDifferOn one other b =
    Any (λ test. (x : Bool) × one.Says b.query test (Known x) × other.Says b.query test (Known (not x))) b.tests.now
    ⊎ ((b.is_skipped ≡ true) × ((x : Bool) → ¬ (Answers one b.query (Some x) × Answers other b.query (Some x))))

-- whether they may differ on one of the binaries
abbrev pub TellsDifference : Picker → Picker → List AskedBinary → Bool → Type 0
TellsDifference one other binaries answer = IsTrue answer ↔ Any (MayDifferOn one other) binaries

-- a test of the binary is unknown to one of them, and depends on the override at some path
abbrev pub IsUnknownOn : Picker → Picker → AskedBinary → Type 0
IsUnknownOn one other b = Any (λ test. (path : Bor Text)
    × (one.Says b.query test (answers.Unknown path) ⊎ other.Says b.query test (answers.Unknown path))) b.tests.now

-- whether a test of the binaries is unknown to one of them
abbrev pub TellsUnknown : Picker → Picker → List AskedBinary → Bool → Type 0
TellsUnknown one other binaries answer = IsTrue answer ↔ Any (IsUnknownOn one other) binaries
