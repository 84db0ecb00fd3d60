-- The value that a tree has for each subject of a candidate is its value for the candidate.
use Rattle.std.proofs.Common.{arith, ◌≡◌, ◌∙◌, ◌&&◌, ◌⊎◌, ℕ, zero, suc, Bool, true, false, List, [], ◌∷◌, Option, Some, None, cond, refl, sym, subst, inl, inr}
use Rattle.std.specs.Prelude.{◌↔◌, All, Contains, IsTrue, MatchBool, is_none, not}
use Rattle.std.specs.{Borrow.Bor, List.AllZip, List.list_all}
use Rattle.std.proofs.lemmas.Bool.{not-true as not_true, and_parts, false≢true, or_cases}
use Rattle.std.proofs.lemmas.List.Elements.{All-cons, All-head, All-nil, All-tail, Contains-append_right}
use Rattle.filterset_faults.specs.declared.span.SourceSpan.{SourceSpan}
use Rattle.filterset_grammar.specs.Tree.{Tree}
use Rattle.filterset_expression.specs.declared.query.{BinaryQuery.BinaryQuery, TestQuery.TestQuery}
use Rattle.filterset_listing.specs.Asking.{Text, TreePicks}
use Rattle.filterset_listing.specs.Explaining.{ExplainsBy, HasShared, IsExplained, NamesOverride, has_unknown, shared_value}
use Rattle.filterset_listing.specs.{Groups.IsAnswer, Groups.MayBeIn, Groups.known_of, Nodes.tree_nodes}
use Rattle.filterset_listing.specs.SubjectValues.{Basis, HasColumn, may_be}
use Rattle.filterset_listing.specs.Subjects.{AreOfCandidate, AreOfTest, HangsBy}
use Rattle.filterset_listing.specs.Values.{HasValue, HasValueIn}
use Rattle.filterset_listing.specs.declared.explaining.{ExplainedNode.ExplainedNode, candidate.Candidate.Candidate}
use Rattle.filterset_listing.specs.declared.explaining.candidate.Candidate.TheVariants.{Binary, Test}
use Rattle.filterset_listing.specs.declared.groups.{GroupOverride.GroupOverride, TestAnswer.TestAnswer}
use Rattle.filterset_listing.specs.declared.groups.TestAnswer.TheVariants.{Known, Unknown}
use Rattle.filterset_listing.specs.declared.subjects.Subject.{Subject}
use Rattle.filterset_listing.proofs.{NodeLemmas.explained_weaker, SubjectLemmas.groups_of}

not_both : (x y : Bool) → (not x && y) ≡ false → (x ≡ true) ⊎ (y ≡ false)
not_both true y e = inl refl
not_both false y e = inr e

all_at : {X : Type 0} (P : X → Type 0) (xs : List X) (x : X) → All P xs → Contains xs x → P x
all_at P xs x all (k, lt, at) = subst P at (all k x lt)

the_one : (x y : Text) → Contains (x ∷ []) y → y ≡ x
the_one x y (zero, lt, at) = sym at
the_one x y (suc k, lt, at) = absurd (omega arith)

module _ (basis : Basis) (e : Tree SourceSpan) where
  -- a binary's value
  pub in_binary : (query : BinaryQuery) (overrides : List GroupOverride) (s : Subject) (xs : List (Option Bool)) (value : Option Bool) → s.candidate ≡ Binary query → HasColumn basis (s ∷ []) e xs → value ≡ shared_value xs
      → HasValue (Binary query) overrides basis.packages basis.default e value
  in_binary query overrides s [] value is has same = absurd has
  in_binary query overrides s (x ∷ y ∷ ys) value is has same = absurd has.1
  in_binary query overrides s (None ∷ []) value is has same =
      subst (HasValue (Binary query) overrides basis.packages basis.default e) (sym same) (subst (λ c. HasValueIn s.group.now c basis.packages basis.default e None) is has.0)
  in_binary query overrides s (Some true ∷ []) value is has same =
      subst (HasValue (Binary query) overrides basis.packages basis.default e) (sym same) (subst (λ c. HasValueIn s.group.now c basis.packages basis.default e (Some true)) is has.0)
  in_binary query overrides s (Some false ∷ []) value is has same =
      subst (HasValue (Binary query) overrides basis.packages basis.default e) (sym same) (subst (λ c. HasValueIn s.group.now c basis.packages basis.default e (Some false)) is has.0)

  module _ (query : TestQuery) where
    -- the value in one group is known
    known_in : (group : Text) → HasValueIn group (Test query) basis.packages basis.default e None → ⊥
    known_in group has = has

    pub in_one : (s : Subject) (xs : List (Option Bool)) → s.candidate ≡ Test query → HasColumn basis (s ∷ []) e xs → None ≡ shared_value xs → ⊥
    in_one s [] is has same = has
    in_one s (x ∷ y ∷ ys) is has same = has.1
    in_one s (None ∷ []) is has same = known_in s.group.now (subst (λ c. HasValueIn s.group.now c basis.packages basis.default e None) is has.0)
    in_one s (Some true ∷ []) is has same = let clash : None ≡ Some true = same in cc
    in_one s (Some false ∷ []) is has same = let clash : None ≡ Some false = same in cc

    abbrev Is : Text → Type 0
    Is = TreePicks basis.packages basis.default e query

    -- what the value says of the group
    abbrev Says : Bool → Text → Type 0
    Says value group = MatchBool value (Is group) (¬ Is group)

    abbrev IsTest : Subject → Type 0
    IsTest s = s.candidate ≡ Test query

    own : (value : Bool) (group : Text) → (IsTrue value ↔ Is group) → Says value group
    own true group is = is.0 refl
    own false group is = λ holds. false≢true (is.1 holds)

    -- a value that may be this one, and one that is not
    may_in : (group : Text) (x : Option Bool) (value : Bool) → HasValueIn group (Test query) basis.packages basis.default e x → may_be x value ≡ true → Says value group
    may_in group None value has could = absurd has
    may_in group (Some true) true has could = own true group has
    may_in group (Some true) false has could = absurd (false≢true could)
    may_in group (Some false) true has could = absurd (false≢true could)
    may_in group (Some false) false has could = own false group has

    not_in : (group : Text) (x : Option Bool) (value : Bool) → HasValueIn group (Test query) basis.packages basis.default e x → may_be x value ≡ false → Says (not value) group
    not_in group None value has never = absurd has
    not_in group (Some true) true has never = absurd (false≢true (sym never))
    not_in group (Some true) false has never = own true group has
    not_in group (Some false) true has never = own false group has
    not_in group (Some false) false has never = absurd (false≢true (sym never))

    -- no value may be this one
    all_say : (value : Bool) (subjects : List Subject) (xs : List (Option Bool)) → All IsTest subjects → HasColumn basis subjects e xs → list_all (λ v. not (may_be v value)) xs ≡ true → All (Says (not value)) (groups_of subjects)
    all_say value [] [] are has never = All-nil (Says (not value))
    all_say value [] (x ∷ xs) are has never = absurd has
    all_say value (s ∷ subjects) [] are has never = absurd has
    all_say value (s ∷ subjects) (x ∷ xs) are has never =
        let parts = and_parts (not (may_be x value)) _ never in
        All-cons (Says (not value)) s.group.now (groups_of subjects)
        (not_in s.group.now x value (subst (λ c. HasValueIn s.group.now c basis.packages basis.default e x) (All-head IsTest s subjects are) has.0) (not_true (may_be x value) parts.0))
        (all_say value subjects xs (All-tail IsTest s subjects are) has.1 parts.1)

    -- one value may be this one
    one_says : (value : Bool) (subjects : List Subject) (xs : List (Option Bool)) → All IsTest subjects → HasColumn basis subjects e xs → list_all (λ v. not (may_be v value)) xs ≡ false
        → (group : Text) × Contains (groups_of subjects) group × Says value group
    one_says value [] [] are has could = absurd (false≢true (sym could))
    one_says value [] (x ∷ xs) are has could = absurd has
    one_says value (s ∷ subjects) [] are has could = absurd has
    one_says value (s ∷ subjects) (x ∷ xs) are has could = elim (not_both (may_be x value) _ could) [
      | inl here ↦
          (s.group.now, (0, omega arith, refl), may_in s.group.now x value (subst (λ c. HasValueIn s.group.now c basis.packages basis.default e x) (All-head IsTest s subjects are) has.0) here)
      | inr later ↦
          let some = one_says value subjects xs (All-tail IsTest s subjects are) has.1 later in
          (some.0, Contains-append_right (s.group.now ∷ []) (groups_of subjects) some.0 some.1, some.2)
    ]

    module _ (overrides : List GroupOverride) (subjects : List Subject) (are : AreOfTest basis.default overrides query subjects) (xs : List (Option Bool)) (has : HasColumn basis subjects e xs) where
      abbrev Answered : Option Bool → Type 0
      Answered value = (answer : TestAnswer) × (known_of answer ≡ value) × IsAnswer basis.default overrides query Is answer

      unknown : (path : Option (Bor Text)) → HangsBy basis.default overrides query subjects path → (one other : Text) → Contains (groups_of subjects) one → Is one → Contains (groups_of subjects) other → ¬ Is other → Answered None
      unknown (Some path) hangs one other there is there' not_is =
          (Unknown path, refl, (hangs, (one, all_at (MayBeIn basis.default overrides query) (groups_of subjects) one are.1.0 there, is), (other, all_at (MayBeIn basis.default overrides query) (groups_of subjects) other are.1.0 there', not_is)))
      unknown None (s, alone) one other there is there' not_is =
          let only : (group : Text) → Contains (groups_of subjects) group → group ≡ s.group.now = λ group found. the_one s.group.now group (subst (λ l. Contains (groups_of l) group) alone found) in
          absurd (not_is (subst Is (only one there ∙ sym (only other there')) is))

      decide : (path : Option (Bor Text)) → HangsBy basis.default overrides query subjects path → (sure never : Bool) → list_all (λ v. not (may_be v false)) xs ≡ sure → list_all (λ v. not (may_be v true)) xs ≡ never
          → Answered (cond sure (Some true) (cond never (Some false) None))
      decide path hangs true never all_yes all_no =
          (Known true, refl, λ group could. (λ so. all_at (Says true) (groups_of subjects) group (all_say false subjects xs are.0 has all_yes) (are.1.1 group could), λ is. refl))
      decide path hangs false true all_yes all_no =
          (Known false, refl, λ group could. (λ clash. absurd (false≢true clash), λ is. absurd (all_at (Says false) (groups_of subjects) group (all_say true subjects xs are.0 has all_no) (are.1.1 group could) is)))
      decide path hangs false false all_yes all_no =
          let one = one_says true subjects xs are.0 has all_no in
          let other = one_says false subjects xs are.0 has all_yes in
          unknown path hangs one.0 other.0 one.1 one.2 other.1 other.2

-- ---- the explanation

module _ (basis : Basis) (overrides : List GroupOverride) (subjects : List Subject) (path : Option (Bor Text)) where
  shared_has : (candidate : Candidate) → AreOfCandidate basis.default overrides candidate subjects path → (e : Tree SourceSpan) (x : Option Bool) → HasShared basis subjects e x → HasValue candidate overrides basis.packages basis.default e x
  shared_has (Binary query) (none, (s, alone, is)) e x (xs, has, same) =
      in_binary basis e query overrides s xs x is (subst (λ l. HasColumn basis l e xs) alone has) same
  shared_has (Test query) (are, hangs) e x (xs, has, same) =
      let answered = decide basis e query overrides subjects are xs has path hangs _ _ refl refl in
      (answered.0, answered.1 ∙ sym same, answered.2)

  unknown_at : (e : Tree SourceSpan) (x : Option Bool) → HasShared basis subjects e x → is_none x ≡ true → HasShared basis subjects e None
  unknown_at e None value is = value
  unknown_at e (Some x) value is = absurd (false≢true is)

  some_unknown : (tops : List (ℕ × Tree SourceSpan)) (nodes : List ExplainedNode) → AllZip (IsExplained (HasShared basis subjects) basis.packages) tops nodes → has_unknown nodes ≡ true
      → (e : Tree SourceSpan) × HasShared basis subjects e None
  some_unknown [] [] are is = absurd (false≢true is)
  some_unknown [] (node ∷ nodes) are is = absurd are
  some_unknown (top ∷ tops) [] are is = absurd are
  some_unknown (top ∷ tops) (node ∷ nodes) (is_here, are) is = elim (or_cases (is_none node.value) (has_unknown nodes) is) [
    | inl here ↦ (top.1, unknown_at top.1 node.value is_here.2 here)
    | inr later ↦ some_unknown tops nodes are later
  ]

  some_path : (query : TestQuery) (path : Option (Bor Text)) → AreOfTest basis.default overrides query subjects → HangsBy basis.default overrides query subjects path → (e : Tree SourceSpan) → HasShared basis subjects e None
      → NamesOverride (Test query) overrides basis.default true path
  some_path query (Some path) are hangs e has = hangs
  some_path query None are (s, alone) e (xs, has, same) =
      in_one basis e query s xs (All-head (λ (t : Subject). t.candidate ≡ Test query) s [] (subst (All (λ (t : Subject). t.candidate ≡ Test query)) alone are.0)) (subst (λ l. HasColumn basis l e xs) alone has) same

  names_path : (candidate : Candidate) → AreOfCandidate basis.default overrides candidate subjects path → (tops : List (ℕ × Tree SourceSpan)) (nodes : List ExplainedNode)
      → AllZip (IsExplained (HasShared basis subjects) basis.packages) tops nodes → (unknown : Bool) → has_unknown nodes ≡ unknown → NamesOverride candidate overrides basis.default unknown (cond unknown path None)
  names_path (Binary query) are tops nodes these true is = are.0
  names_path (Binary query) are tops nodes these false is = refl
  names_path (Test query) are tops nodes these false is = refl
  names_path (Test query) (are, hangs) tops nodes these true is =
      let some = some_unknown tops nodes these is in
      some_path query path are hangs some.0 some.1

  pub explanation_of : (candidate : Candidate) → AreOfCandidate basis.default overrides candidate subjects path → (e : Tree SourceSpan) (nodes : List ExplainedNode) → ExplainsBy basis subjects 0 e [] nodes
      → (unknown : Bool) → has_unknown nodes ≡ unknown
      → AllZip (IsExplained (HasValue candidate overrides basis.packages basis.default) basis.packages) (tree_nodes 0 e) nodes × NamesOverride candidate overrides basis.default (has_unknown nodes) (cond unknown path None)
  explanation_of candidate are e nodes (added, is, these) unknown same =
      let shared = subst (AllZip (IsExplained (HasShared basis subjects) basis.packages) (tree_nodes 0 e)) (sym is) these in (
        explained_weaker basis.packages (HasShared basis subjects) (HasValue candidate overrides basis.packages basis.default) (shared_has candidate are) (tree_nodes 0 e) nodes shared,
        subst (λ b. NamesOverride candidate overrides basis.default b (cond unknown path None)) (sym same) (names_path candidate are (tree_nodes 0 e) nodes shared unknown same),
      )
