-- Levels of a filterset, from token to token.
use Rattle.std.specs.Prelude.{◌≡◌, ℕ, ◌+◌, ◌<◌, ◌≤◌, Bool, true, false, List, [], ◌∷◌, ◌++◌}
use Rattle.filterset_rewriting.specs.{Nesting.Tokens.Begins, declared.nesting.Levels.Levels, declared.nesting.Step.Step}
use Rattle.filterset_rewriting.specs.declared.nesting.Step.TheVariants.{Misplaced, TooDeep, Within}
use Rattle.filterset_rewriting.specs.declared.nesting.tokens.Lexeme.{Lexeme}
use Rattle.filterset_rewriting.specs.declared.nesting.tokens.Lexeme.TheVariants.{Between, Close, Negation, Open, Other, Predicate}

-- The rest of a filterset, from a position on. The limit is given, the levels outside of each open parenthesis, the level
-- of operands, and the level at the position; and whether all levels from there on are within the limit.
pub data Rest : ℕ → List ℕ → List ℕ → ℕ → ℕ → Bool → Type 0 where
  ended : {limit base level : ℕ} {outside : List ℕ} → Rest limit [] outside base level true
  between : {limit base level : ℕ} {text outside : List ℕ} {within : Bool} (t : List ℕ) → Begins text Between t
      → Rest limit t outside base level within → Rest limit text outside base level within
  negation : {limit base level : ℕ} {text outside : List ℕ} {within : Bool} (t : List ℕ) → Begins text Negation t
      → level < limit → Rest limit t outside base (level + 1) within → Rest limit text outside base level within
  opened : {limit base level : ℕ} {text outside : List ℕ} {within : Bool} (t : List ℕ) → Begins text Open t
      → level < limit → Rest limit t (outside ++ base ∷ []) (level + 1) (level + 1) within
      → Rest limit text outside base level within
  closed : {limit base level : ℕ} {text outside : List ℕ} {within : Bool} (t further : List ℕ) (back : ℕ)
      → Begins text Close t → outside ≡ further ++ back ∷ [] → Rest limit t further back back within
      → Rest limit text outside base level within
  predicate : {limit base level : ℕ} {text outside : List ℕ} {within : Bool} (t : List ℕ) → Begins text Predicate t
      → Rest limit t outside base base within → Rest limit text outside base level within
  deep_negation : {limit base level : ℕ} {text outside : List ℕ} (t : List ℕ) → Begins text Negation t
      → limit ≤ level → Rest limit text outside base level false
  deep_open : {limit base level : ℕ} {text outside : List ℕ} (t : List ℕ) → Begins text Open t
      → limit ≤ level → Rest limit text outside base level false

-- what follows a token
abbrev pub After : ℕ → Lexeme → List ℕ → List ℕ → ℕ → ℕ → Bool → Type 0
After limit Between t outside base level within = Rest limit t outside base level within
After limit Negation t outside base level within =
    (level < limit → Rest limit t outside base (level + 1) within) × (limit ≤ level → within ≡ false)
After limit Open t outside base level within =
    (level < limit → Rest limit t (outside ++ base ∷ []) (level + 1) (level + 1) within) × (limit ≤ level → within ≡ false)
After limit Close t outside base level within =
    (further : List ℕ) × (back : ℕ) × (outside ≡ further ++ back ∷ []) × Rest limit t further back back within
After limit Predicate t outside base level within = Rest limit t outside base base within
After limit Other t outside base level within = ⊥

-- the levels after a token, by what came of moving past it
abbrev pub Passes : ℕ → List ℕ → Bool → Levels → Step → Type 0
Passes limit t within levels Within = Rest limit t levels.outside.items levels.base levels.level within
Passes limit t within levels TooDeep = within ≡ false
Passes limit t within levels Misplaced = ⊥
