-- What may be offered at a position of a filterset.
use Rattle.std.specs.Prelude.{ℕ, ◌+◌, ◌++◌, ◌==◌, ◌&&◌, ◌||◌, Bool, List, [], ◌∷◌, codes, length, nat_le}
use Rattle.filterset_display.specs.Positions.{Text}
use Rattle.filterset_offers.specs.declared.named.Named.{Named}
use Rattle.filterset_offers.specs.declared.named.Named.TheVariants as named
use Rattle.filterset_offers.specs.declared.candidates.{Candidate.Candidate, Mark.Mark}
use Rattle.filterset_offers.specs.declared.candidates.Mark.TheVariants.{Begins, Precedes, Inside, Names}
use Rattle.filterset_offers.specs.declared.candidates.Owner.{Owner}
use Rattle.filterset_offers.specs.declared.candidates.Owner.TheVariants as owners

-- what may be offered: its name, what is put after it, what may follow both (`sample`), how it shows that it stands where it may,
-- the protocol's number of what it is, and what it means
pub record Row : Type 0 where
  pub label : Text
  pub tail : Text
  pub sample : Text
  pub mark : Mark
  pub kind : ℕ
  pub detail : Text

abbrev pub row : Text → Text → Text → Mark → ℕ → Text → Row
row label tail sample mark kind detail =
    record { label = label; tail = tail; sample = sample; mark = mark; kind = kind; detail = detail }

abbrev pub row_of : Candidate → Row
row_of c = row c.label.now c.tail.now c.sample.now c.mark c.kind c.detail.now

-- ---- where operands may begin

-- a predicate with an argument, which this one may be: a function (3), whose span begins after its parenthesis
abbrev pub calling : Text → Text → Text → Row
calling label sample detail = row label (codes "(") sample (Begins (length label + 1)) 3 detail

-- a predicate without an argument, after which an operand shows that it stands where it may
abbrev pub whole : Text → Text → Row
whole label detail = row label (codes "()") (codes " and default()") (Precedes (length label + 7)) 3 detail

abbrev pub predicates : List Row
predicates =
    calling (codes "package") (codes "x)") (codes "Tests of workspace packages, by their names")
    ∷ calling (codes "deps") (codes "x)") (codes "The same, and tests of the packages that these depend on")
    ∷ calling (codes "rdeps") (codes "x)") (codes "The same, and tests of the packages that depend on these")
    ∷ calling (codes "kind") (codes "x)") (codes "Tests of binaries, by their kinds")
    ∷ calling (codes "binary") (codes "x)") (codes "Tests of binaries, by their names")
    ∷ calling (codes "binary_id") (codes "x)") (codes "Tests of binaries, by their ids")
    ∷ calling (codes "platform") (codes "host)") (codes "Tests of binaries, by the platform that they are built for")
    ∷ calling (codes "test") (codes "x)") (codes "Tests, by their names")
    ∷ calling (codes "group") (codes "x)") (codes "Tests, by their groups")
    ∷ row (codes "default") (codes "()") [] (Begins 0) 3 (codes "Tests that the default filter picks")
    ∷ whole (codes "all") (codes "All tests")
    ∷ whole (codes "none") (codes "No tests")
    ∷ []

-- ---- operators

-- an operator before an operand: a keyword (14) or an operator (24)
abbrev pub operator : Text → ℕ → Text → Row
operator label kind detail = row label [] (codes " default()") (Precedes (length label + 1)) kind detail

abbrev pub operators : List Row
operators =
    operator (codes "not") 14 (codes "Tests that the operand does not match")
    ∷ operator (codes "and") 14 (codes "Tests that both operands match")
    ∷ operator (codes "or") 14 (codes "Tests that one operand matches, or both")
    ∷ operator (codes "!") 24 (codes "The same as `not`")
    ∷ operator (codes "&") 24 (codes "The same as `and`")
    ∷ operator (codes "|") 24 (codes "The same as `or`")
    ∷ operator (codes "+") 24 (codes "The same as `or`")
    ∷ operator (codes "-") 24 (codes "Tests that the left operand matches, and not the right one")
    ∷ operator (codes "^") 24 (codes "Tests that one operand matches, and not both")
    ∷ []

-- ---- arguments

-- a value of an argument: a member of an enumeration (20)
abbrev pub value_of : Owner → Text → Text → Row
value_of owner label detail = row label [] [] (Inside owner) 20 detail

abbrev pub values : List Row
values =
    value_of owners.Kind (codes "lib") (codes "Unit tests of a library")
    ∷ value_of owners.Kind (codes "bin") (codes "Unit tests of a program")
    ∷ value_of owners.Kind (codes "test") (codes "Integration tests")
    ∷ value_of owners.Kind (codes "bench") (codes "Benchmarks")
    ∷ value_of owners.Kind (codes "example") (codes "Tests of an example")
    ∷ value_of owners.Kind (codes "proc-macro") (codes "Unit tests of a procedural macro")
    ∷ value_of owners.Platform (codes "host") (codes "Built for the host")
    ∷ value_of owners.Platform (codes "target") (codes "Built for the target")
    ∷ value_of owners.Group (codes "@global") (codes "Tests in no other group")
    ∷ []

-- ---- names of a workspace

abbrev pub detail_of : Named → Text
detail_of named.Package = codes "A package of the workspace"
detail_of named.Binary = codes "A test binary"
detail_of named.BinaryId = codes "The id of a test binary"
detail_of named.Test = codes "A test"

-- a name of what is named so: a value (12)
abbrev pub naming : Named → Text → Row
naming what name = row name [] [] (Names what) 12 (detail_of what)

-- ---- bytes

-- the bytes of words of the language
abbrev pub is_word_byte : ℕ → Bool
is_word_byte b =
    (nat_le 97 b && nat_le b 122) || (nat_le 65 b && nat_le b 90) || (nat_le 48 b && nat_le b 57) || b == 95

-- the bytes of names: those of words, and `-`, `.`, `/`, `:` and `@`
abbrev pub is_name_byte : ℕ → Bool
is_name_byte b = is_word_byte b || b == 45 || b == 46 || b == 47 || b == 58 || b == 64

-- all that may be offered without a workspace
abbrev pub all_rows : List Row
all_rows = predicates ++ operators ++ values
