-- What reading a whole text returns.
use Rattle.std.specs.Prelude.{◌≡◌, ◌≢◌, ℕ, suc, List, [], ◌∷◌, ◌++◌, ◌⊎◌, length, All, Option, None, Some}
use Rattle.filterset_language.specs.{Parsing.Position.position, Faults.FaultStands, Parsed.LiesOnBody}
use Rattle.filterset_language.specs.Parsing.Descent.{Placed, operand_at, or_level_by, whole_by}
use Rattle.filterset_grammar.specs.Patterns.{PatternsAreRead}
use Rattle.filterset_faults.specs.Span.{offset_of}
use Rattle.filterset_faults.specs.declared.{span.SourceSpan.SourceSpan, error.ParseSingleError.ParseSingleError}
use Rattle.filterset_faults.specs.declared.error.ParseSingleError.TheVariants.{ExpectedEndOfExpression}

-- an expression was read up to an offset
pub record ReadUpTo (text : List ℕ) (tree : Option Placed) (offset : ℕ) : Type 0 where
  pub expr : Placed
  pub is : tree ≡ Some expr
  pub rest : List ℕ
  pub read : or_level_by (operand_at (suc (length text))) (position 0 text) ≡ Some (expr, position offset rest)

-- the tree that reading gives comes, and its patterns are read
pub record WhollyRead (text : List ℕ) (tree : Option Placed) : Type 0 where
  pub expr : Placed
  pub is : tree ≡ Some expr
  pub read : whole_by (length text) text ≡ Some expr
  pub patterns : PatternsAreRead expr

-- the tree that reading gives does not come, since some of its patterns were refused
pub record WhollyRefused (text : List ℕ) (tree : Option Placed) (faults : List ParseSingleError) : Type 0 where
  pub expr : Placed
  pub no_tree : tree ≡ None
  pub read : whole_by (length text) text ≡ Some expr
  pub bodies : All (LiesOnBody text expr) faults

-- what a whole text gives
pub record Wholly (text : List ℕ) (tree : Option Placed) (faults : List ParseSingleError) : Type 0 where
  pub stand : All (FaultStands text) faults
  pub clean : faults ≡ [] → WhollyRead text tree
  pub fault : faults ≢ [] → (whole_by (length text) text ≡ None) ⊎ WhollyRefused text tree faults
  pub front : (s : SourceSpan) → faults ≡ ExpectedEndOfExpression s ∷ [] → ReadUpTo text tree (offset_of s)
  pub last : (s : SourceSpan) (before behind : List ParseSingleError)
      → faults ≡ before ++ ExpectedEndOfExpression s ∷ behind → behind ≡ []
