-- A text that spells a tree with a `deps` or an `rdeps` has the word `deps`.
use Rattle.std.proofs.Common.{ℕ, inl, inr, List, [], ◌∷◌, ◌++◌, codes, subst, sym, ap, ◌∙◌, refl}
use Rattle.std.proofs.lemmas.List.{append_assoc}
use Rattle.std.specs.Str.Iter.{HasSubslice}
use Rattle.filterset_glob.specs.Signs.{sign}
use Rattle.filterset_faults.specs.declared.span.SourceSpan.{SourceSpan}
use Rattle.filterset_grammar.specs.Grammar.{not_text, or_text, join_text, Call, LeafText, matching, Basic, leaf, negation, parens, AndLevel, one, join, OrLevel, one_and, union, Spells}
use Rattle.filterset_grammar.specs.Tree as tree
use Rattle.filterset_grammar.specs.Tree.{Leaf, Tree}
use Rattle.filterset_grammar.specs.declared.predicate.Predicate.TheVariants as predicates
use Rattle.nextest_filtering.specs.NeedsDeps.{IsOfDeps, HasDeps}

-- the word stands in what it stands in a part of
after : (word front text : List ℕ) → HasSubslice text word → HasSubslice (front ++ text) word
after word front text (a, b, e) = (front ++ a, b, ap (λ t. front ++ t) e ∙ sym (append_assoc front a (word ++ b)))

before : (word text rest : List ℕ) → HasSubslice text word → HasSubslice (text ++ rest) word
before word text rest (a, b, e) =
    (a, b ++ rest, ap (λ t. t ++ rest) e ∙ append_assoc a (word ++ b) rest ∙ ap (λ t. a ++ t) (append_assoc word b rest))

-- a predicate's name
called : (name argument t : List ℕ) (at inside : ℕ) → Call name argument t at inside → HasSubslice name (codes "deps") → HasSubslice t (codes "deps")
called name argument t at inside call has =
    subst (λ u. HasSubslice u (codes "deps")) (sym call.text) (before (codes "deps") name (call.blanks ++ (sign "(" ∷ (argument ++ codes ")"))) has)

of_leaf : (t : List ℕ) (at : ℕ) (l : Leaf SourceSpan) → LeafText t at l → IsOfDeps l → HasSubslice t (codes "deps")
of_leaf t at (tree.Matching predicates.Deps m s) (matching inside blanks raw behind call w v u x) has =
    called (codes "deps") (blanks ++ (raw ++ behind)) t at inside call ([], [], refl)
of_leaf t at (tree.Matching predicates.Rdeps m s) (matching inside blanks raw behind call w v u x) has =
    called (codes "rdeps") (blanks ++ (raw ++ behind)) t at inside call (codes "r", [], refl)
of_leaf t at _ _ has = absurd has

mutual
  of_basic : (t : List ℕ) (at : ℕ) (e : Tree SourceSpan) → Basic t at e → HasDeps e → HasSubslice t (codes "deps")
  of_basic t at (tree.Set l) (leaf blanks own w text whole) has =
      subst (λ u. HasSubslice u (codes "deps")) (sym whole) (after (codes "deps") blanks own (of_leaf own _ l text has))
  of_basic t at (tree.Not op e) (negation blanks own w ends operand whole) has =
      subst (λ u. HasSubslice u (codes "deps")) (sym whole)
      (after (codes "deps") blanks (not_text op ++ own) (after (codes "deps") (not_text op) own (of_basic own _ e operand has)))
  of_basic t at (tree.Parens e) (parens blanks own behind w inner v whole) has =
      subst (λ u. HasSubslice u (codes "deps")) (sym whole)
      (after (codes "deps") blanks (sign "(" ∷ (own ++ (behind ++ codes ")")))
      (after (codes "deps") (sign "(" ∷ []) (own ++ (behind ++ codes ")"))
      (before (codes "deps") own (behind ++ codes ")") (of_or own _ e inner has))))
  of_basic t at (tree.Union op l r) basic has = elim basic [ ]
  of_basic t at (tree.Join op l r) basic has = elim basic [ ]

  of_and : (t : List ℕ) (at : ℕ) (e : Tree SourceSpan) → AndLevel t at e → HasDeps e → HasSubslice t (codes "deps")
  of_and t at e (one basic) has = of_basic t at e basic has
  of_and t at (tree.Join op l r) (join left blanks right first w ends second whole) (inl has) =
      subst (λ u. HasSubslice u (codes "deps")) (sym whole) (before (codes "deps") left (blanks ++ (join_text op ++ right)) (of_and left at l first has))
  of_and t at (tree.Join op l r) (join left blanks right first w ends second whole) (inr has) =
      subst (λ u. HasSubslice u (codes "deps")) (sym whole)
      (after (codes "deps") left (blanks ++ (join_text op ++ right))
      (after (codes "deps") blanks (join_text op ++ right) (after (codes "deps") (join_text op) right (of_basic right _ r second has))))

  of_or : (t : List ℕ) (at : ℕ) (e : Tree SourceSpan) → OrLevel t at e → HasDeps e → HasSubslice t (codes "deps")
  of_or t at e (one_and level) has = of_and t at e level has
  of_or t at (tree.Union op l r) (union left blanks right first w ends second whole) (inl has) =
      subst (λ u. HasSubslice u (codes "deps")) (sym whole) (before (codes "deps") left (blanks ++ (or_text op ++ right)) (of_or left at l first has))
  of_or t at (tree.Union op l r) (union left blanks right first w ends second whole) (inr has) =
      subst (λ u. HasSubslice u (codes "deps")) (sym whole)
      (after (codes "deps") left (blanks ++ (or_text op ++ right))
      (after (codes "deps") blanks (or_text op ++ right) (after (codes "deps") (or_text op) right (of_and right _ r second has))))

pub deps_are_named : (t : List ℕ) (e : Tree SourceSpan) → Spells t e → HasDeps e → HasSubslice t (codes "deps")
deps_are_named t e spells has =
    subst (λ u. HasSubslice u (codes "deps")) (sym spells.whole) (before (codes "deps") spells.own spells.behind (of_or spells.own 0 e spells.expression has))
