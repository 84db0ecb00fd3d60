-- What is found of a tree from what is found of its operands.
use Rattle.std.proofs.Common.{◌≡◌, Bool, true, false, List, [], ◌∷◌, ◌++◌, refl, sym, ◌∙◌, ap, subst, append_assoc, Option, Some, None}
use Rattle.std.specs.{Prelude.cond, Bool.IsTrue}
use Rattle.std.proofs.lemmas.{Bool.false≢true, List.append-nil}
use Rattle.filterset_faults.specs.declared.span.SourceSpan.{SourceSpan}
use Rattle.filterset_grammar.specs.Tree.{Leaf, Tree, Not, Union, Join, Parens, Set}
use Rattle.filterset_grammar.specs.declared.operators.{AndOperator.AndOperator, DifferenceOperator.DifferenceOperator}
use Rattle.filterset_grammar.specs.declared.operators.Joiner.TheVariants.{Both, Without, ExactlyOne}
use Rattle.filterset_grammar.specs.declared.operators.{NotOperator.NotOperator, OrOperator.OrOperator}
use Rattle.filterset_grammar.specs.declared.operators.SymmetricDifferenceOperator.{SymmetricDifferenceOperator}
use Rattle.filterset_listing.specs.Columns.{values_of, first_of, second_of, Fits}
use Rattle.filterset_listing.specs.Finding.{constant_for, needless_by, may_still, unmatched_by, AreDeciding, FindsFor}
use Rattle.filterset_listing.specs.Needless.{Frame, Negated, UnionLeft, UnionRight, JoinLeft, JoinRight, Enclosed, IsNeedless, Found, IsFound, by_none, by_all, within}
use Rattle.filterset_listing.specs.{SubjectValues.Basis, Unmatched.AreUnmatched}
use Rattle.filterset_listing.specs.declared.{columns.Columns.Columns, subjects.Subject.Subject}
use Rattle.filterset_listing.proofs.ColumnLemmas.{own_column}
use Rattle.filterset_listing.proofs.DecidingLemmas.{beside_decides, Judged, judged}

-- ---- constants

cond_some : {X : Type 0} (b : Bool) (o : Option X) (x : X) → cond b o None ≡ Some x → IsTrue b × (o ≡ Some x)
cond_some true o x e = (refl, e)
cond_some false o x e = absurd (let clash : None ≡ Some x = e in cc)

cond_none : {X : Type 0} (b : Bool) (o : Option X) → cond b o None ≡ None → IsTrue b → o ≡ None
cond_none true o e h = e
cond_none false o e h = absurd (false≢true h)

module _ (basis : Basis) (subjects : List Subject) (frames : List Frame) (e : Tree SourceSpan) (columns : Columns) (deciding : List Bool) (is_operand : Bool)
    (fits : Fits basis subjects e columns) (are : AreDeciding basis subjects frames deciding) where
  one_found : (found : List Found) (is_all : Bool) (Within : Type 0) → IsTrue is_operand → Judged basis subjects frames e (Some is_all) → found ≡ (e, is_all) ∷ []
      → IsFound basis subjects is_operand frames e found Within
  one_found found false Within is_so is same = by_none is_so is same
  one_found found true Within is_so is same = by_all is_so is.0 is.1 same

  found_by : (is_all : Bool) (Within : Type 0) → cond is_operand (needless_by (values_of columns) deciding) None ≡ Some is_all
      → IsFound basis subjects is_operand frames e ((e, is_all) ∷ []) Within
  found_by is_all Within some =
      let parts = cond_some is_operand (needless_by (values_of columns) deciding) is_all some in
      one_found ((e, is_all) ∷ []) is_all Within parts.0
      (subst (Judged basis subjects frames e) parts.1 (judged basis subjects frames e deciding (values_of columns) are (own_column basis subjects e columns fits))) refl

  needed : cond is_operand (needless_by (values_of columns) deciding) None ≡ None
      → IsTrue is_operand → (¬ IsNeedless basis subjects frames e false) × (¬ IsNeedless basis subjects frames e true)
  needed none is_so =
      subst (Judged basis subjects frames e) (cond_none is_operand (needless_by (values_of columns) deciding) none is_so) (judged basis subjects frames e deciding (values_of columns) are (own_column basis subjects e columns fits))

pub finds_one : (e : Tree SourceSpan) (columns : Columns) (deciding : List Bool) (is_operand is_all : Bool) (before after : List Found)
    → constant_for e (values_of columns) deciding is_operand ≡ Some is_all → after ≡ before ++ (e, is_all) ∷ []
    → FindsFor e columns deciding is_operand before after
finds_one (Not op a) columns deciding is_operand is_all before after some same basis subjects frames fits are =
    ((Not op a, is_all) ∷ [], same, found_by basis subjects frames (Not op a) columns deciding is_operand fits are is_all _ some)
finds_one (Union op l r) columns deciding is_operand is_all before after some same basis subjects frames fits are =
    ((Union op l r, is_all) ∷ [], same, found_by basis subjects frames (Union op l r) columns deciding is_operand fits are is_all _ some)
finds_one (Join op l r) columns deciding is_operand is_all before after some same basis subjects frames fits are =
    ((Join op l r, is_all) ∷ [], same, found_by basis subjects frames (Join op l r) columns deciding is_operand fits are is_all _ some)
finds_one (Parens a) columns deciding is_operand is_all before after some same basis subjects frames fits are =
    absurd (let clash : None ≡ Some is_all = some in cc)
finds_one (Set leaf) columns deciding is_operand is_all before after some same basis subjects frames fits are =
    ((Set leaf, is_all) ∷ [], same, found_by basis subjects frames (Set leaf) columns deciding is_operand fits are is_all _ some)

-- ---- operators

pub finds_not : (op : NotOperator) (a : Tree SourceSpan) (columns first : Columns) (deciding : List Bool) (is_operand : Bool) (before after : List Found)
    → constant_for (Not op a) (values_of columns) deciding is_operand ≡ None → first ≡ first_of columns
    → FindsFor a first deciding true before after → FindsFor (Not op a) columns deciding is_operand before after
finds_not op a columns first deciding is_operand before after none at_first finds basis subjects frames fits are =
    let inner = finds basis subjects (Negated op ∷ frames) (subst (Fits basis subjects a) (sym at_first) fits.1) are in
    (inner.0, inner.1, within (needed basis subjects frames (Not op a) columns deciding is_operand fits are none) inner.2)

joined : (before mid after left right : List Found) → mid ≡ before ++ left → after ≡ mid ++ right → after ≡ before ++ (left ++ right)
joined before mid after left right e k = k ∙ ap (λ x. x ++ right) e ∙ append_assoc before left right

-- the operands beside one another, under two frames
module _ (l r : Tree SourceSpan) (columns first second : Columns) (deciding beside_right beside_left : List Bool) (before mid after : List Found)
    (at_first : first ≡ first_of columns) (at_second : second ≡ second_of columns) where
  abbrev FindsBoth : Type 0
  FindsBoth = FindsFor l first beside_right true before mid × FindsFor r second beside_left true mid after

  pub finds_union : (op : OrOperator) (is_operand : Bool) → constant_for (Union op l r) (values_of columns) deciding is_operand ≡ None
      → beside_right ≡ may_still deciding (values_of second) false → beside_left ≡ may_still deciding (values_of first) false
      → FindsFor l first beside_right true before mid → FindsFor r second beside_left true mid after
      → FindsFor (Union op l r) columns deciding is_operand before after
  finds_union op is_operand none right_is left_is one two basis subjects frames fits are =
      let own = subst (Fits basis subjects l) (sym at_first) fits.1 in
      let own' = subst (Fits basis subjects r) (sym at_second) fits.2 in
      let left = one basis subjects (UnionLeft op r ∷ frames) own (subst (AreDeciding basis subjects (UnionLeft op r ∷ frames)) (sym right_is) (beside_decides basis frames r false subjects deciding (values_of second) are (own_column basis subjects r second own'))) in
      let right = two basis subjects (UnionRight op l ∷ frames) own' (subst (AreDeciding basis subjects (UnionRight op l ∷ frames)) (sym left_is) (beside_decides basis frames l false subjects deciding (values_of first) are (own_column basis subjects l first own))) in
      (left.0 ++ right.0, joined before mid after left.0 right.0 left.1 right.1, within (needed basis subjects frames (Union op l r) columns deciding is_operand fits are none) (left.0, right.0, refl, left.2, right.2))

  pub finds_both : (op : AndOperator) (is_operand : Bool) → constant_for (Join (Both op) l r) (values_of columns) deciding is_operand ≡ None
      → beside_right ≡ may_still deciding (values_of second) true → beside_left ≡ may_still deciding (values_of first) true
      → FindsFor l first beside_right true before mid → FindsFor r second beside_left true mid after
      → FindsFor (Join (Both op) l r) columns deciding is_operand before after
  finds_both op is_operand none right_is left_is one two basis subjects frames fits are =
      let own = subst (Fits basis subjects l) (sym at_first) fits.1 in
      let own' = subst (Fits basis subjects r) (sym at_second) fits.2 in
      let left = one basis subjects (JoinLeft (Both op) r ∷ frames) own (subst (AreDeciding basis subjects (JoinLeft (Both op) r ∷ frames)) (sym right_is) (beside_decides basis frames r true subjects deciding (values_of second) are (own_column basis subjects r second own'))) in
      let right = two basis subjects (JoinRight (Both op) l ∷ frames) own' (subst (AreDeciding basis subjects (JoinRight (Both op) l ∷ frames)) (sym left_is) (beside_decides basis frames l true subjects deciding (values_of first) are (own_column basis subjects l first own))) in
      (left.0 ++ right.0, joined before mid after left.0 right.0 left.1 right.1, within (needed basis subjects frames (Join (Both op) l r) columns deciding is_operand fits are none) (left.0, right.0, refl, left.2, right.2))

  pub finds_without : (op : DifferenceOperator) (is_operand : Bool) → constant_for (Join (Without op) l r) (values_of columns) deciding is_operand ≡ None
      → beside_right ≡ may_still deciding (values_of second) false → beside_left ≡ may_still deciding (values_of first) true
      → FindsFor l first beside_right true before mid → FindsFor r second beside_left true mid after
      → FindsFor (Join (Without op) l r) columns deciding is_operand before after
  finds_without op is_operand none right_is left_is one two basis subjects frames fits are =
      let own = subst (Fits basis subjects l) (sym at_first) fits.1 in
      let own' = subst (Fits basis subjects r) (sym at_second) fits.2 in
      let left = one basis subjects (JoinLeft (Without op) r ∷ frames) own (subst (AreDeciding basis subjects (JoinLeft (Without op) r ∷ frames)) (sym right_is) (beside_decides basis frames r false subjects deciding (values_of second) are (own_column basis subjects r second own'))) in
      let right = two basis subjects (JoinRight (Without op) l ∷ frames) own' (subst (AreDeciding basis subjects (JoinRight (Without op) l ∷ frames)) (sym left_is) (beside_decides basis frames l true subjects deciding (values_of first) are (own_column basis subjects l first own))) in
      (left.0 ++ right.0, joined before mid after left.0 right.0 left.1 right.1, within (needed basis subjects frames (Join (Without op) l r) columns deciding is_operand fits are none) (left.0, right.0, refl, left.2, right.2))

  pub finds_exactly_one : (op : SymmetricDifferenceOperator) (is_operand : Bool) → constant_for (Join (ExactlyOne op) l r) (values_of columns) deciding is_operand ≡ None
      → FindsFor l first deciding true before mid → FindsFor r second deciding true mid after
      → FindsFor (Join (ExactlyOne op) l r) columns deciding is_operand before after
  finds_exactly_one op is_operand none one two basis subjects frames fits are =
      let own = subst (Fits basis subjects l) (sym at_first) fits.1 in
      let own' = subst (Fits basis subjects r) (sym at_second) fits.2 in
      let left = one basis subjects (JoinLeft (ExactlyOne op) r ∷ frames) own are in
      let right = two basis subjects (JoinRight (ExactlyOne op) l ∷ frames) own' are in
      (left.0 ++ right.0, joined before mid after left.0 right.0 left.1 right.1, within (needed basis subjects frames (Join (ExactlyOne op) l r) columns deciding is_operand fits are none) (left.0, right.0, refl, left.2, right.2))

pub finds_parens : (a : Tree SourceSpan) (columns : Columns) (deciding : List Bool) (is_operand : Bool) (before after : List Found)
    → FindsFor a columns deciding is_operand before after → FindsFor (Parens a) columns deciding is_operand before after
finds_parens a columns deciding is_operand before after finds basis subjects frames fits are = finds basis subjects (Enclosed ∷ frames) fits are

pub finds_set : (leaf : Leaf SourceSpan) (columns : Columns) (deciding : List Bool) (is_operand : Bool) (before : List Found)
    → constant_for (Set leaf) (values_of columns) deciding is_operand ≡ None → FindsFor (Set leaf) columns deciding is_operand before before
finds_set leaf columns deciding is_operand before none basis subjects frames fits are =
    ([], sym (append-nil before), within (needed basis subjects frames (Set leaf) columns deciding is_operand fits are none) refl)

-- ---- predicates that match nothing

pub unmatched_are : (basis : Basis) (subjects : List Subject) (e : Tree SourceSpan) (columns : Columns) → Fits basis subjects e columns
    → AreUnmatched basis subjects e (unmatched_by e columns)
unmatched_are basis subjects (Not op e) columns fits = unmatched_are basis subjects e (first_of columns) fits.1
unmatched_are basis subjects (Union op l r) columns fits = (
  unmatched_by l (first_of columns),
  unmatched_by r (second_of columns),
  refl,
  unmatched_are basis subjects l (first_of columns) fits.1,
  unmatched_are basis subjects r (second_of columns) fits.2,
)
unmatched_are basis subjects (Join op l r) columns fits = (
  unmatched_by l (first_of columns),
  unmatched_by r (second_of columns),
  refl,
  unmatched_are basis subjects l (first_of columns) fits.1,
  unmatched_are basis subjects r (second_of columns) fits.2,
)
unmatched_are basis subjects (Parens e) columns fits = unmatched_are basis subjects e columns fits
unmatched_are basis subjects (Set leaf) columns fits = (values_of columns, fits.0, refl)
