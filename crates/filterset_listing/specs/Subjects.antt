-- What filtersets are asked about for a list of tests.
use Rattle.std.specs.Prelude.{◌≡◌, true, false, List, [], ◌∷◌, ◌++◌, All, Contains, Option, Some, None, map}
use Rattle.std.specs.Borrow.{Bor}
use Rattle.filterset_expression.specs.declared.expression.CompiledExpr.{CompiledExpr}
use Rattle.filterset_expression.specs.declared.query.{BinaryQuery.BinaryQuery, TestQuery.TestQuery}
use Rattle.filterset_listing.specs.{Asking.Text, Groups.HangsOn, Groups.MayBeIn}
use Rattle.filterset_listing.specs.declared.{binary.AskedBinary.AskedBinary, explaining.candidate.Candidate.Candidate}
use Rattle.filterset_listing.specs.declared.explaining.candidate.Candidate.TheVariants.{Binary, Test}
use Rattle.filterset_listing.specs.declared.{groups.GroupOverride.GroupOverride, subjects.Subject.Subject}

-- the groups are those that the test may be in
abbrev pub AreGroupsOf : CompiledExpr → List GroupOverride → TestQuery → List Text → Type 0
AreGroupsOf default overrides test groups = All (MayBeIn default overrides test) groups
    × ((group : Text) → MayBeIn default overrides test group → Contains groups group)

-- the test in each group that it may be in
abbrev pub AreOfTest : CompiledExpr → List GroupOverride → TestQuery → List Subject → Type 0
AreOfTest default overrides test subjects = All (λ s. s.candidate ≡ Test test) subjects
    × AreGroupsOf default overrides test (map (λ s. s.group.now) subjects)

-- If the test may be in several groups, this is the path of the override that it depends on. It is in one, if there is none.
abbrev pub HangsBy : CompiledExpr → List GroupOverride → TestQuery → List Subject → Option (Bor Text) → Type 0
HangsBy default overrides test subjects (Some path) = HangsOn default overrides test path.now
HangsBy default overrides test subjects None = (subject : Subject) × (subjects ≡ subject ∷ [])

-- the binary, or the test in each group that it may be in
abbrev pub AreOfCandidate : CompiledExpr → List GroupOverride → Candidate → List Subject → Option (Bor Text) → Type 0
AreOfCandidate default overrides (Binary query) subjects path =
    (path ≡ None) × ((subject : Subject) × (subjects ≡ subject ∷ []) × (subject.candidate ≡ Binary query))
AreOfCandidate default overrides (Test test) subjects path =
    AreOfTest default overrides test subjects × HangsBy default overrides test subjects path

-- the test of the binary with this name, in each such group
abbrev pub AreOfName : CompiledExpr → List GroupOverride → BinaryQuery → Text → List Subject → Type 0
AreOfName default overrides binary name subjects = (test : TestQuery) × (test.binary_query ≡ binary)
    × (test.test_name.now ≡ name) × AreOfTest default overrides test subjects

-- a list that is made of a part for each element of another, in their order
pub data Parts {A : Type 0} (IsPart : A → List Subject → Type 0) : List A → List Subject → Type 0 where
  no_parts : Parts IsPart [] []
  next_part : {x : A} {xs : List A} {front rest : List Subject}
      → IsPart x front → Parts IsPart xs rest → Parts IsPart (x ∷ xs) (front ++ rest)

-- a binary that was skipped, or each test of one that was not
pub data AreOfBinary (default : CompiledExpr) (overrides : List GroupOverride) (binary : AskedBinary)
    (subjects : List Subject) : Type 0 where
  of_skipped : (subject : Subject) → binary.is_skipped ≡ true → subject.candidate ≡ Binary binary.query
      → subjects ≡ subject ∷ [] → AreOfBinary default overrides binary subjects
  of_listed : binary.is_skipped ≡ false
      → Parts (AreOfName default overrides binary.query) binary.tests.now subjects
      → AreOfBinary default overrides binary subjects

-- the subjects of each binary of a list, where overrides put tests in groups, and this is the default filter
abbrev pub AreSubjects : CompiledExpr → List GroupOverride → List AskedBinary → List Subject → Type 0
AreSubjects default overrides binaries subjects = Parts (AreOfBinary default overrides) binaries subjects
