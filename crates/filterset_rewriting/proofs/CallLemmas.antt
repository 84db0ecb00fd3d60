-- What operands are joined to prints so that it reads back.
use Rattle.std.proofs.Common.{List, [], ℕ}
use Rattle.std.proofs.lemmas.List.Elements.{All-append, All-cons, All-nil}
use Rattle.filterset_faults.specs.declared.span.SourceSpan.{SourceSpan}
use Rattle.filterset_grammar.specs.{AddedParens.HasWellFormedLeaves, Printing.IsWellFormedLeaf, Printing.WellFormed}
use Rattle.filterset_grammar.specs.Tree.{Tree, Not, Union, Join, Parens, Set, tree_leaves}
use Rattle.filterset_language.proofs.Formed.{spelled_is_well_formed}
use Rattle.filterset_rewriting.specs.Calls.{AreJoined, IsFront, IsList, IsOperand, call, expression, last, list, more, operand}
use Rattle.filterset_rewriting.specs.Links.{linked}
use Rattle.filterset_rewriting.specs.declared.links.Link.{Link, TheVariants.Every, TheVariants.Any}

formed_leaves : {S : Type 0} (e : Tree S) → WellFormed e → HasWellFormedLeaves e
formed_leaves (Not op e) h = formed_leaves e h.1
formed_leaves (Union op l r) h =
    All-append IsWellFormedLeaf (tree_leaves l) (tree_leaves r) (formed_leaves l h.1) (formed_leaves r h.2)
formed_leaves (Join op l r) h =
    All-append IsWellFormedLeaf (tree_leaves l) (tree_leaves r) (formed_leaves l h.2) (formed_leaves r h.3)
formed_leaves (Parens e) h = formed_leaves e h
formed_leaves (Set l) h = All-cons IsWellFormedLeaf l [] h (All-nil IsWellFormedLeaf)

linked_leaves : (link : Link) (l r : Tree SourceSpan) → HasWellFormedLeaves l → HasWellFormedLeaves r → HasWellFormedLeaves (linked link l r)
linked_leaves (Every op) l r left right = All-append IsWellFormedLeaf (tree_leaves l) (tree_leaves r) left right
linked_leaves (Any op) l r left right = All-append IsWellFormedLeaf (tree_leaves l) (tree_leaves r) left right

mutual
  front_leaves : {text behind : List ℕ} {e : Tree SourceSpan} → IsFront text e behind → HasWellFormedLeaves e
  front_leaves {text} {behind} {e} (expression is) = formed_leaves e (spelled_is_well_formed is.own e is.spelled)
  front_leaves (call operator are) = list_leaves are

  pub list_leaves : {link : Link} {text behind : List ℕ} {e : Tree SourceSpan} → IsList link text e behind → HasWellFormedLeaves e
  list_leaves (list opens first others) = joined_leaves others (operand_leaves first)

  operand_leaves : {text behind : List ℕ} {e : Tree SourceSpan} {b : ℕ} → IsOperand text e b behind → HasWellFormedLeaves e
  operand_leaves (operand front ends) = front_leaves front

  joined_leaves : {link : Link} {text behind : List ℕ} {before e : Tree SourceSpan} → AreJoined link before text e behind
      → HasWellFormedLeaves before → HasWellFormedLeaves e
  joined_leaves (last {link} {before} {e} is) leaves = linked_leaves link before e leaves (operand_leaves is)
  joined_leaves (more {link} {before} {e} is others) leaves =
      joined_leaves others (linked_leaves link before e leaves (operand_leaves is))
