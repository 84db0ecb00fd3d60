-- Expressions at the front of texts.
use Rattle.std.specs.Prelude.{◌≡◌, ◌⊎◌, ◌++◌, ◌∷◌, ℕ, List, []}
use Rattle.std.specs.Str.{IsCharBoundary}
use Rattle.filterset_faults.specs.{Span.offset_of, declared.error.ParseSingleError.ParseSingleError}
use Rattle.filterset_faults.specs.declared.error.ParseSingleError.TheVariants.{ExpectedEndOfExpression}
use Rattle.filterset_faults.specs.declared.span.SourceSpan.{SourceSpan}
use Rattle.filterset_grammar.specs.{Grammar.Spells, Tree.Tree}
use Rattle.filterset_language.specs.Parsed.{IsUnreadWith, Reads}
use Rattle.filterset_rewriting.specs.Nesting.Depth.{IsTooDeep, most_levels}

-- the text begins with an expression, and goes on with the other text
pub record IsExpression (text : List ℕ) (e : Tree SourceSpan) (behind : List ℕ) : Type 0 where
  pub own : List ℕ
  pub whole : text ≡ own ++ behind
  pub spelled : Spells own e

-- the faults are not only the one that a text goes on after an expression
abbrev pub IsMore : List ℕ → List ParseSingleError → Type 0
IsMore text faults = (s : SourceSpan) → faults ≡ ExpectedEndOfExpression s ∷ [] → IsCharBoundary text (offset_of s) → ⊥

-- the text is an expression as a whole, or has other faults, or nests too deeply
abbrev pub NoExpression : List ℕ → Type 0
NoExpression text =
    ((e : Tree SourceSpan) × Reads text e)
    ⊎ ((faults : List ParseSingleError) × IsUnreadWith text faults × IsMore text faults)
    ⊎ ((place : ℕ) × IsTooDeep most_levels text place)
