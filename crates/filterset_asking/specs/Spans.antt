-- Which span of its text a part of a filterset has.
use Rattle.std.specs.Prelude.{◌+◌, ◌-◌, ◌^◌, Option, None, Some, min}
use Rattle.filterset_faults.specs.{Span.length_of, Span.offset_of, Span.span, declared.span.SourceSpan.SourceSpan}
use Rattle.filterset_grammar.specs.Tree.{Tree, Not, Union, Join, Parens, Set}
use Rattle.filterset_language.specs.Faults.{leaf_span}

-- the span of two operands, if one of them has any: from the start of the first to the end of the last
abbrev pub joined : Option SourceSpan → Option SourceSpan → Option SourceSpan
joined None right = right
joined (Some first) None = Some first
joined (Some first) (Some last) =
    Some (span (offset_of first) (min (offset_of last + length_of last) (2 ^ 64 - 1) - offset_of first))

-- from the first span of the tree's predicates to the last; `all()` and `none()` have none
abbrev pub tree_span : Tree SourceSpan → Option SourceSpan
tree_span (Not op e) = tree_span e
tree_span (Union op l r) = joined (tree_span l) (tree_span r)
tree_span (Join op l r) = joined (tree_span l) (tree_span r)
tree_span (Parens e) = tree_span e
tree_span (Set leaf) = leaf_span leaf
