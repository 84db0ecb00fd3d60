-- When trees are equal: all their parts are, spans included. Matchers are compared by `same_compared`, so globs only by
-- their tokens.
use Rattle.std.specs.Prelude.{◌==◌, ◌&&◌, Bool, true, false, []}
use Rattle.filterset_faults.specs.{Span.offset_of, Span.length_of, declared.span.SourceSpan.SourceSpan}
use Rattle.filterset_graph.specs.declared.package.BuildPlatform.{BuildPlatform, TheVariants.Target, TheVariants.Host}
use Rattle.filterset_matchers.specs.{Matcher.Matcher, Matcher.Glob, Equality.compared, Equality.same_compared}
use Rattle.filterset_grammar.specs.Tree.{Predicate, Package, Deps, Rdeps, Kind, Binary, BinaryId, Test, Group, Leaf, Matching, Platform, Default, All, None, Joiner, Both, Without, ExactlyOne, Tree, Not, Union, Join, Parens, Set}
use Rattle.filterset_grammar.specs.declared.operators.AndOperator.TheVariants.{LiteralAnd, Ampersand}
use Rattle.filterset_grammar.specs.declared.operators.{DifferenceOperator.TheVariants.Minus, NotOperator.NotOperator}
use Rattle.filterset_grammar.specs.declared.operators.NotOperator.TheVariants.{LiteralNot, Exclamation}
use Rattle.filterset_grammar.specs.declared.operators.OrOperator.{OrOperator}
use Rattle.filterset_grammar.specs.declared.operators.OrOperator.TheVariants.{LiteralOr, Pipe, Plus}
use Rattle.filterset_grammar.specs.declared.operators.SymmetricDifferenceOperator.TheVariants.{Caret}

abbrev pub same_span : SourceSpan → SourceSpan → Bool
same_span a b = (offset_of a == offset_of b) && (length_of a == length_of b)

abbrev pub same_platform : BuildPlatform → BuildPlatform → Bool
same_platform Target Target = true
same_platform Host Host = true
same_platform _ _ = false

abbrev pub same_predicate : Predicate → Predicate → Bool
same_predicate Package Package = true
same_predicate Deps Deps = true
same_predicate Rdeps Rdeps = true
same_predicate Kind Kind = true
same_predicate Binary Binary = true
same_predicate BinaryId BinaryId = true
same_predicate Test Test = true
same_predicate Group Group = true
same_predicate _ _ = false

-- whether predicates are equal, by this test of their spans
abbrev pub same_leaf : {S : Type 0} → (S → S → Bool) → Leaf S → Leaf S → Bool
same_leaf same (Matching p m s) (Matching q n t) =
    same_predicate p q && same_compared (compared m) (compared n) && same s t
same_leaf same (Platform p s) (Platform q t) = same_platform p q && same s t
same_leaf same (Default s) (Default t) = same s t
same_leaf same All All = true
same_leaf same None None = true
same_leaf same _ _ = false

abbrev pub same_not : NotOperator → NotOperator → Bool
same_not LiteralNot LiteralNot = true
same_not Exclamation Exclamation = true
same_not _ _ = false

abbrev pub same_or : OrOperator → OrOperator → Bool
same_or LiteralOr LiteralOr = true
same_or Pipe Pipe = true
same_or Plus Plus = true
same_or _ _ = false

abbrev pub same_joiner : Joiner → Joiner → Bool
same_joiner (Both LiteralAnd) (Both LiteralAnd) = true
same_joiner (Both Ampersand) (Both Ampersand) = true
same_joiner (Without Minus) (Without Minus) = true
same_joiner (ExactlyOne Caret) (ExactlyOne Caret) = true
same_joiner _ _ = false

-- whether trees are equal, by this test of their spans
abbrev pub same_tree : {S : Type 0} → (S → S → Bool) → Tree S → Tree S → Bool
same_tree same (Not op a) (Not other b) = same_not op other && same_tree same a b
same_tree same (Union op a b) (Union other c d) = same_or op other && same_tree same a c && same_tree same b d
same_tree same (Join op a b) (Join other c d) = same_joiner op other && same_tree same a c && same_tree same b d
same_tree same (Parens a) (Parens b) = same_tree same a b
same_tree same (Set a) (Set b) = same_leaf same a b
same_tree same _ _ = false

-- what is compared of a matcher: every glob gets the same text and sign, and so its tokens alone tell it from others
abbrev pub compared_matcher : Matcher → Matcher
compared_matcher (Glob text tokens implicit) = Glob [] tokens false
compared_matcher matcher = matcher

-- what is compared of a predicate
abbrev pub compared_leaf : {S : Type 0} → Leaf S → Leaf S
compared_leaf (Matching p m s) = Matching p (compared_matcher m) s
compared_leaf leaf = leaf

-- what is compared of a tree
abbrev pub compared_tree : {S : Type 0} → Tree S → Tree S
compared_tree (Not op e) = Not op (compared_tree e)
compared_tree (Union op l r) = Union op (compared_tree l) (compared_tree r)
compared_tree (Join op l r) = Join op (compared_tree l) (compared_tree r)
compared_tree (Parens e) = Parens (compared_tree e)
compared_tree (Set leaf) = Set (compared_leaf leaf)
