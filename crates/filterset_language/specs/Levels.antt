-- For the proof that parentheses are added correctly: the level that an operand must have, and what it becomes there.
use Rattle.filterset_grammar.specs.{Tree.Tree, Printing.IsBasic, Printing.IsNoUnion}
use Rattle.filterset_grammar.specs.AddedParens.{IsEnclosedUnless, IsWithParens}
use Rattle.filterset_language.specs.declared.tree.parens.Level.{Level}
use Rattle.filterset_language.specs.declared.tree.parens.Level.TheVariants.{Basic, And, Or}

-- the tree is of the level, without parentheses of its own
abbrev pub IsOfLevel : {S : Type 0} → Level → Tree S → Type 0
IsOfLevel Basic e = IsBasic e
IsOfLevel And e = IsNoUnion e
IsOfLevel Or e = Unit {0}

-- the tree with parentheses added, and between one pair more unless it may stand as it is
pub record IsOperand {S : Type 0} (may : Type 0) (e f : Tree S) : Type 0 where
  pub inside : Tree S
  pub added : IsWithParens e inside
  pub placed : IsEnclosedUnless may inside f
