-- What `simplify` makes of a tree.
use Rattle.std.specs.Prelude.{◌≡◌, ◌⊎◌}
use Rattle.filterset_grammar.specs.Tree.{Tree}
use Rattle.filterset_deciding.specs.Simplifying.Answers.{KeepsDecided, PickAlike}
use Rattle.filterset_deciding.specs.Simplifying.{Pruned.IsLeftOf, Simple.IsConstant, Simple.IsSimple}

-- The second tree is the first without what changes nothing for every test.
pub record IsSimplified {S : Type 0} (e d : Tree S) : Type 0 where
  pub tests : PickAlike e d
  pub binaries : KeepsDecided e d
  pub left : IsConstant d ⊎ IsLeftOf e d
  pub simple : IsSimple d
  pub unchanged : IsSimple e → d ≡ e
