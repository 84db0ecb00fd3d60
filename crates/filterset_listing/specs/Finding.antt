-- How hints are found. But for `found_of` and `unmatched_of`, only contracts of private functions cite this.
use Rattle.std.specs.Prelude.{◌≡◌, ◌↔◌, ◌++◌, ◌&&◌, Bool, true, false, not, cond, IsTrue, List, Option, Some, None, map, zip}
use Rattle.std.specs.List.{AllZip, list_all}
use Rattle.filterset_faults.specs.declared.span.SourceSpan.{SourceSpan}
use Rattle.filterset_grammar.specs.Tree.{Tree, Not, Union, Join, Parens, Set}
use Rattle.filterset_language.specs.Views.{leaf_of, tree_of}
use Rattle.filterset_listing.specs.Columns.{Fits, first_of, second_of, values_of}
use Rattle.filterset_listing.specs.Needless.{Frame, MayDecide, Found, AreFound}
use Rattle.filterset_listing.specs.SubjectValues.{Basis, may_be}
use Rattle.filterset_listing.specs.Unmatched.{Unmatched, unmatched_in}
use Rattle.filterset_listing.specs.declared.{columns.Columns.Columns, needless.NeedlessOperand.NeedlessOperand}
use Rattle.filterset_listing.specs.declared.{subjects.Subject.Subject, unmatched.UnmatchedPredicate.UnmatchedPredicate}

-- the operands that are found, each with its constant
abbrev pub found_of : List NeedlessOperand → List Found
found_of operands = map (λ o. (tree_of o.node.now, o.is_all)) operands

-- the predicates that are found
abbrev pub unmatched_of : List UnmatchedPredicate → List Unmatched
unmatched_of predicates = map (λ p. (leaf_of p.leaf.now, p.skipped)) predicates

-- no value of a deciding subject may be this one
abbrev pub never : List (Option Bool) → List Bool → Bool → Bool
never values deciding other = list_all (λ p. not (p.1 && may_be p.0 other)) (zip values deciding)

abbrev pub needless_by : List (Option Bool) → List Bool → Option Bool
needless_by values deciding =
    cond (never values deciding true) (Some false) (cond (never values deciding false) (Some true) None)

-- that of an operand; parentheses are none
abbrev pub constant_for : Tree SourceSpan → List (Option Bool) → List Bool → Bool → Option Bool
constant_for (Parens e) values deciding is_operand = None
constant_for e values deciding is_operand = cond is_operand (needless_by values deciding) None

-- the subjects that are deciding still, beside an operand with these values that has to be this one
abbrev pub may_still : List Bool → List (Option Bool) → Bool → List Bool
may_still deciding others value = map (λ p. p.0 && may_be p.1 value) (zip deciding others)

-- for each subject, whether an operand there may decide
abbrev pub AreDeciding : Basis → List Subject → List Frame → List Bool → Type 0
AreDeciding basis subjects frames deciding =
    AllZip (λ subject decides. IsTrue decides ↔ MayDecide basis subject frames) subjects deciding

-- what is added is what is to be found, whatever the subjects and the operators above are
abbrev pub FindsFor : Tree SourceSpan → Columns → List Bool → Bool → List Found → List Found → Type 0
FindsFor e columns deciding is_operand before after =
    (basis : Basis) (subjects : List Subject) (frames : List Frame)
    → Fits basis subjects e columns → AreDeciding basis subjects frames deciding
    → (added : List Found) × (after ≡ before ++ added) × AreFound basis subjects is_operand frames e added

-- the predicates that match no test, by the values that are kept
abbrev pub unmatched_by : Tree SourceSpan → Columns → List Unmatched
unmatched_by (Not op e) columns = unmatched_by e (first_of columns)
unmatched_by (Union op l r) columns = unmatched_by l (first_of columns) ++ unmatched_by r (second_of columns)
unmatched_by (Join op l r) columns = unmatched_by l (first_of columns) ++ unmatched_by r (second_of columns)
unmatched_by (Parens e) columns = unmatched_by e columns
unmatched_by (Set leaf) columns = unmatched_in leaf (values_of columns)
