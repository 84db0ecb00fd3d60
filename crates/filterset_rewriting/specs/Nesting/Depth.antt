-- How deeply texts nest.
use Rattle.std.specs.Prelude.{◌≡◌, ◌⊎◌, ◌==◌, ◌<◌, ℕ, List, length, max, slice_index, suc}
use Rattle.std.specs.List.{count_by}
use Rattle.filterset_faults.specs.declared.span.SourceSpan.{SourceSpan}
use Rattle.filterset_grammar.specs.{Grammar.Spells, Tree.Tree, Tree.Join, Tree.Not, Tree.Parens, Tree.Set, Tree.Union}

-- the most parentheses and negations that a predicate is in; operands side by side do not add up
abbrev pub depth : {S : Type 0} → Tree S → ℕ
depth (Not op e) = suc (depth e)
depth (Union op l r) = max (depth l) (depth r)
depth (Join op l r) = max (depth l) (depth r)
depth (Parens e) = suc (depth e)
depth (Set leaf) = 0

-- whatever filterset the text is, its parentheses and negations are nested past the limit, or more braces open than that
abbrev pub IsTooDeep : ℕ → List ℕ → ℕ → Type 0
IsTooDeep limit text place = (place < length text) × (((e : Tree SourceSpan) → Spells text e → limit < depth e)
    ⊎ ((slice_index text place ≡ 123) × (limit < count_by (λ b. b == 123) text)))

-- the most levels that a text may have, for people and for editors
abbrev pub most_levels : ℕ
most_levels = 512
