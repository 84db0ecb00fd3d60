-- Where the grammar of `regex` reads each pattern of a tree, a body of the tree is rejected for its size alone.
use Rattle.std.proofs.Common.{ℕ, List, [], ⊎_elim, subst, arith}
use Rattle.std.proofs.lemmas.List.Elements.{Contains-append_cases, Contains-push_cases}
use Rattle.std.specs.List.{Contains}
use Rattle.filterset_faults.specs.declared.{error.ParseSingleError.ParseSingleError, span.SourceSpan.SourceSpan}
use Rattle.filterset_grammar.specs.Patterns.{LeafIsRead, PatternsAreRead}
use Rattle.filterset_grammar.specs.Tree.{Tree, Leaf, Matching, Not, Union, Join, Parens, Set, tree_leaves}
use Rattle.filterset_grammar.specs.declared.predicate.Predicate.{Predicate}
use Rattle.filterset_matchers.specs.{Matcher.Regex, Pattern.IsPattern}
use Rattle.filterset_language.specs.Parsed.{LiesOnBody, LiesOnLargeBody}

-- each pattern of the tree is one
pattern_is_read : {S : Type 0} (e : Tree S) (predicate : Predicate) (pattern : List ℕ) (s : S) → PatternsAreRead e → Contains (tree_leaves e) (Matching predicate (Regex pattern) s) → IsPattern pattern
pattern_is_read (Not op e) predicate pattern s read has = pattern_is_read e predicate pattern s read has
pattern_is_read (Parens e) predicate pattern s read has = pattern_is_read e predicate pattern s read has
pattern_is_read (Union op l r) predicate pattern s read has =
    ⊎_elim (pattern_is_read l predicate pattern s read.0) (pattern_is_read r predicate pattern s read.1) (Contains-append_cases (tree_leaves l) (tree_leaves r) _ has)
pattern_is_read (Join op l r) predicate pattern s read has =
    ⊎_elim (pattern_is_read l predicate pattern s read.0) (pattern_is_read r predicate pattern s read.1) (Contains-append_cases (tree_leaves l) (tree_leaves r) _ has)
pattern_is_read {S} (Set leaf) predicate pattern s read has =
    ⊎_elim (λ (k, within, _). absurd (omega (arith, within))) (λ same. subst (λ (l : Leaf S). LeafIsRead l) same read) (Contains-push_cases [] leaf _ has)

-- so a body of the tree is not rejected but for its size
pub large_body : (text : List ℕ) (e : Tree SourceSpan) (fault : ParseSingleError) → PatternsAreRead e → LiesOnBody text e fault → LiesOnLargeBody text e fault
large_body text e fault read lies = record {
  lies = lies;
  large = ⊎_elim
      (λ (unread : ¬ IsPattern lies.pattern). absurd (unread (pattern_is_read e lies.predicate lies.pattern lies.argument read lies.is_leaf)))
      (λ large. large)
      lies.rejected;
}
