-- Operators that are written in front of their operands.
use Rattle.std.specs.{Prelude.◌≡◌, Prelude.◌≢◌, Prelude.◌++◌, Prelude.ℕ, Prelude.List, Prelude.codes, Str.trim_start}
use Rattle.filterset_grammar.specs.Tree.{Tree, Join, Union}
use Rattle.filterset_grammar.specs.declared.operators.AndOperator.TheVariants.{LiteralAnd, Ampersand}
use Rattle.filterset_grammar.specs.declared.operators.Joiner.TheVariants.{Both}
use Rattle.filterset_grammar.specs.declared.operators.OrOperator.TheVariants.{LiteralOr, Pipe}
use Rattle.filterset_rewriting.specs.declared.links.Link.{Link, TheVariants.Every, TheVariants.Any}

-- the operator that is meant by this word or sign, of this language or another
pub data Says : List ℕ → Link → Type 0 where
  and_word : Says (codes "and") (Every LiteralAnd)
  and_capitals : Says (codes "AND") (Every LiteralAnd)
  and_sign : Says (codes "&&") (Every Ampersand)
  or_word : Says (codes "or") (Any LiteralOr)
  or_capitals : Says (codes "OR") (Any LiteralOr)
  or_sign : Says (codes "||") (Any Pipe)

-- the text does not go on with this word after white space
abbrev pub LacksWord : List ℕ → List ℕ → Type 0
LacksWord word text = (rest : List ℕ) → trim_start text ≢ word ++ rest

-- the text begins with the operator after white space, and goes on with the other text
pub record IsOperator (text : List ℕ) (link : Link) (rest : List ℕ) : Type 0 where
  pub word : List ℕ
  pub says : Says word link
  pub begins : trim_start text ≡ word ++ rest

-- the text begins with none
abbrev pub NoOperator : List ℕ → Type 0
NoOperator text = (word : List ℕ) (link : Link) → Says word link → LacksWord word text

-- two trees with the operator between them
abbrev pub linked : {S : Type 0} → Link → Tree S → Tree S → Tree S
linked (Every op) l r = Join (Both op) l r
linked (Any op) l r = Union op l r
