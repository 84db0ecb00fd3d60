-- What prepared matchers find.
use Rattle.std.specs.Prelude.{◌≡◌, ◌↔◌, ◌<◌, ◌≤◌, ℕ, false, IsTrue, List, chars}
use Rattle.filterset_glob.specs.Matching.{Matches}
use Rattle.filterset_matchers.specs.{Matcher.MatchesName, Matchers.matcher_of, Pattern.HasMatch}
use Rattle.filterset_record.specs.{Bits.bit_of, Columns.IsAt, declared.search.Searcher.Searcher}
use Rattle.filterset_record.specs.declared.search.Searcher.TheVariants.{Plain, Glob, Pattern}

-- the prepared matcher finds what it searches for in this name
abbrev pub Finds : Searcher → List ℕ → Type 0
Finds (Plain matcher) name = MatchesName (matcher_of matcher.now) name
Finds (Glob glob) name = Matches glob.tokens (chars name)
Finds (Pattern pattern) name = HasMatch pattern name

-- so many items have been answered by bits, and the bits of the others are not set
pub record AnsweredSoFar {A : Type 0} (bits : List ℕ) (items : List A) (holds : ℕ → A → Type 0) (count : ℕ) : Type 0 where
  pub answered : (position : ℕ) (item : A) → position < count → IsAt items position item
      → IsTrue (bit_of bits position) ↔ holds position item
  pub open_ones : (position : ℕ) → count ≤ position → bit_of bits position ≡ false
