-- Which groups tests may be in, and answers about tests that are alike.
use Rattle.std.proofs.Common.{◌≡◌, ◌∙◌, ℕ, ◌+◌, ◌<◌, length, get_or, take, unwrap_or, Bool, true, false, List, [], ◌∷◌, ◌++◌, Option, Some, None, append_assoc, cond, is_some, refl, sym, ap, subst, inl, inr}
use Rattle.std.specs.Prelude.{◌↔◌, ◌⊎◌, All, MatchOption, codes, map}
use Rattle.std.specs.Borrow.{Bor}
use Rattle.std.proofs.lemmas.{Bool.false≢true, List.append-nil, List.map-append, List.Elements.All-push}
use Rattle.filterset_expression.specs.Expression as compiled
use Rattle.filterset_expression.specs.Connectives.{Decides, kleene, kleene_not}
use Rattle.filterset_expression.specs.Expression.{CompiledLeaf, Holds, HoldsOfBinary, HoldsOfTest, is_group, is_of_test, with_default}
use Rattle.filterset_expression.specs.FlatExpressions.{IsFlat, IsTold, has_step}
use Rattle.filterset_expression.specs.Folds.{Folds, Settles}
use Rattle.filterset_expression.specs.Formula.{Formula, Leaf, Negation, Compound, TrueWhere}
use Rattle.filterset_expression.specs.declared.{expression.CompiledExpr.CompiledExpr, flat.FlatExpr.FlatExpr}
use Rattle.filterset_expression.specs.declared.query.{BinaryQuery.BinaryQuery, TestQuery.TestQuery}
use Rattle.filterset_expression.proofs.{Connectives.connects_alike, FlatSteps.no_group_of_steps}
use Rattle.filterset_expression.proofs.LeafAnswers.{lookups_alike, told_of_test}
use Rattle.filterset_expression.proofs.Meanings.{alike, alike_at}
use Rattle.filterset_matchers.specs.Matcher.{MatchesName}
use Rattle.filterset_listing.specs.Asking.{ExprPicks, Text, in_global, in_group, is_no}
use Rattle.filterset_listing.specs.Groups.{Applies, Covers, HangsOn, IsAnswer, MayBeIn, Says, applies}
use Rattle.filterset_listing.specs.Overrides.{AreFor, IsLaid, IsToldOf, MayApply, NeverApplies, SameGroups, all_tests, filter_of, filter_or_all, given_of}
use Rattle.filterset_listing.specs.declared.groups.{FlatOverride.FlatOverride, GroupOverride.GroupOverride}
use Rattle.filterset_listing.specs.declared.groups.TestAnswer.{TestAnswer, TheVariants.Known, TheVariants.Unknown}
use Rattle.filterset_listing.specs.declared.groups.ToldOverride.{ToldOverride}
use Rattle.filterset_listing.proofs.ListingLemmas.{one_more}

-- what may be so at an override or behind it, where what it rests on is so
may_map : {A A' B B' E M M' : Type 0} → (A → A') → (A' → A) → (B → B') → (M → M') → ((A ⊎ B) × E) ⊎ ((¬ A) × M) → ((A' ⊎ B') × E) ⊎ ((¬ A') × M')
may_map to from other rest may = elim may [
  | inl taken ↦ inl (elim taken.0 [ inl a ↦ inl (to a) | inr b ↦ inr (other b) ], taken.1)
  | inr passed ↦ inr (λ a. passed.0 (from a), rest passed.1)
]

hangs_map : {B B' E M M' : Type 0} → (B → B') → (B' → B) → (M → M') → (B × E) ⊎ ((¬ B) × M) → (B' × E) ⊎ ((¬ B') × M')
hangs_map to from rest hangs = elim hangs [
  | inl taken ↦ inl (to taken.0, taken.1)
  | inr passed ↦ inr (λ b. passed.0 (from b), rest passed.1)
]

-- two tests of one binary that have one name
module _ (one other : TestQuery) (same_binary : one.binary_query ≡ other.binary_query) (same_name : one.test_name.now ≡ other.test_name.now) where
  leaf_alike : (group : Text) (l : CompiledLeaf) → HoldsOfTest one (in_group group) l ↔ HoldsOfTest other (in_group group) l
  leaf_alike group (compiled.Test m s) = alike_at (MatchesName m) _ _ same_name
  leaf_alike group (compiled.Group m s) = alike (MatchesName m group)
  leaf_alike group l = alike_at (λ (binary : BinaryQuery). HoldsOfBinary binary l) _ _ same_binary

  truth_alike : (group : Text) (f : Formula CompiledLeaf) → TrueWhere (HoldsOfTest one (in_group group)) f ↔ TrueWhere (HoldsOfTest other (in_group group)) f
  truth_alike group (Leaf l) = leaf_alike group l
  truth_alike group (Negation f) = let e = truth_alike group f in (λ n q. n (e.1 q), λ n t. n (e.0 t))
  truth_alike group (Compound c f g) = connects_alike c _ _ _ _ (truth_alike group f) (truth_alike group g)

  -- are picked alike in each group
  picks_alike : (default expr : CompiledExpr) (group : Text) → ExprPicks default expr one group ↔ ExprPicks default expr other group
  picks_alike default expr group = truth_alike group (with_default default expr)

  filter_alike : (default : CompiledExpr) (filter : Option (Bor CompiledExpr))
      → MatchOption filter (Unit {0}) (λ f. Holds f.now one default in_global) ↔ MatchOption filter (Unit {0}) (λ f. Holds f.now other default in_global)
  filter_alike default None = alike (Unit {0})
  filter_alike default (Some f) = picks_alike default f.now (codes "@global")

  applies_alike : (default : CompiledExpr) (over : GroupOverride) (value : Option Bool) → Applies default one over value ↔ Applies default other over value
  applies_alike default over value =
      let covers = filter_alike default over.filter in
      let platform = alike_at (λ (binary : BinaryQuery). applies over binary.platform ≡ value) _ _ same_binary in
      (λ a. (covers.0 a.0, platform.0 a.1), λ a. (covers.1 a.0, platform.1 a.1))

  -- may be in the same groups
  may_alike : (default : CompiledExpr) (overrides : List GroupOverride) (group : Text) → MayBeIn default overrides one group ↔ MayBeIn default overrides other group
  may_alike default [] group = alike (group ≡ codes "@global")
  may_alike default (over ∷ overrides) group =
      let sure = applies_alike default over (Some true) in
      let unknown = applies_alike default over None in
      let rest = may_alike default overrides group in
      (may_map sure.0 sure.1 unknown.0 rest.0, may_map sure.1 sure.0 unknown.1 rest.1)

  hangs_alike : (default : CompiledExpr) (overrides : List GroupOverride) (path : Text) → HangsOn default overrides one path ↔ HangsOn default overrides other path
  hangs_alike default [] path = alike ⊥
  hangs_alike default (over ∷ overrides) path =
      let unknown = applies_alike default over None in
      let rest = hangs_alike default overrides path in
      (hangs_map unknown.0 unknown.1 rest.0, hangs_map unknown.1 unknown.0 rest.1)

  -- and have the same answer
  pub answer_alike : (default expr : CompiledExpr) (overrides : List GroupOverride) (answer : TestAnswer) → IsAnswer default overrides one (ExprPicks default expr one) answer → IsAnswer default overrides other (ExprPicks default expr other) answer
  answer_alike default expr overrides (Known answer) is = λ group may.
      let picks = picks_alike default expr group in
      let says = is group ((may_alike default overrides group).1 may) in
      (λ yes. picks.0 (says.0 yes), λ p. says.1 (picks.1 p))
  answer_alike default expr overrides (Unknown path) (hangs, picked, missed) = (
    (hangs_alike default overrides path.now).0 hangs,
    (picked.0, (may_alike default overrides picked.0).0 picked.1, (picks_alike default expr picked.0).0 picked.2),
    (missed.0, (may_alike default overrides missed.0).0 missed.1, λ p. missed.2 ((picks_alike default expr missed.0).1 p)),
  )

-- the answer about a test is that about each query of its binary and its name
pub says_of : (default expr : CompiledExpr) (overrides : List GroupOverride) (test : TestQuery) (binary : BinaryQuery) (name : Text) (answer : TestAnswer) → test.binary_query ≡ binary → test.test_name.now ≡ name
    → IsAnswer default overrides test (ExprPicks default expr test) answer → Says default overrides (ExprPicks default expr) binary name answer
says_of default expr overrides test binary name answer of_binary of_name is = λ other same_binary same_name.
    answer_alike test other (of_binary ∙ sym same_binary) (of_name ∙ sym same_name) default expr overrides answer is

-- ---- other overrides

-- overrides that put a test in the same groups give the same answer
pub answer_same : (default : CompiledExpr) (binary : BinaryQuery) (overrides others : List GroupOverride) (test : TestQuery) (Is : Text → Type 0) (answer : TestAnswer) → SameGroups default binary overrides others → test.binary_query ≡ binary
    → IsAnswer default others test Is answer → IsAnswer default overrides test Is answer
answer_same default binary overrides others test Is (Known answer) same of_binary is = λ group may. is group ((same test of_binary group).0.1 may)
answer_same default binary overrides others test Is (Unknown path) same of_binary (hangs, picked, missed) = (
  (same test of_binary path.now).1.0 hangs,
  (picked.0, (same test of_binary picked.0).0.0 picked.1, picked.2),
  (missed.0, (same test of_binary missed.0).0.0 missed.1, missed.2),
)

-- where the group does not matter, no override does
pub answer_without : (default : CompiledExpr) (overrides : List GroupOverride) (test : TestQuery) (Is : Text → Type 0) (answer : TestAnswer) → ((group other : Text) → Is group → Is other)
    → IsAnswer default [] test Is answer → IsAnswer default overrides test Is answer
answer_without default overrides test Is (Known answer) same is = λ group may.
    let says = is (codes "@global") refl in
    (λ yes. same (codes "@global") group (says.0 yes), λ it. says.1 (same group (codes "@global") it))
answer_without default overrides test Is (Unknown path) same (hangs, picked, missed) = absurd (missed.2 (same picked.0 missed.0 picked.2))

-- a filterset without a `group` leaf picks a test in each group or in none
pub group_alike : (flat : FlatExpr) (expr default : CompiledExpr) (test : TestQuery) → IsFlat flat expr default → has_step is_group flat ≡ false → (group other : Text) → ExprPicks default expr test group → ExprPicks default expr test other
group_alike flat expr default test is none group other picks =
    (lookups_alike (with_default default expr) test (in_group group) (in_group other) (no_group_of_steps flat.steps.items expr default is none)).0 picks

-- the answers by the overrides that a filterset needs are those by all overrides
pub says_for : (flat : FlatExpr) (expr default : CompiledExpr) (overrides used : List GroupOverride) → IsFlat flat expr default → AreFor flat overrides used
    → (binary : BinaryQuery) (name : Text) (answer : TestAnswer) → Says default used (ExprPicks default expr) binary name answer → Says default overrides (ExprPicks default expr) binary name answer
says_for flat expr default overrides used is for binary name answer says = elim for [
  | inl all ↦ subst (λ os. Says default os (ExprPicks default expr) binary name answer) all says
  | inr none ↦ λ test of_binary of_name.
      answer_without default overrides test (ExprPicks default expr test) answer (group_alike flat expr default test is none.1)
      (subst (λ os. IsAnswer default os test (ExprPicks default expr test) answer) none.0 (says test of_binary of_name))
]

-- ---- overrides that are left out

module _ (default : CompiledExpr) (binary : BinaryQuery) where
  same_under : (front overrides others : List GroupOverride) → SameGroups default binary overrides others → SameGroups default binary (front ++ overrides) (front ++ others)
  same_under [] overrides others same = same
  same_under (over ∷ front) overrides others same = λ test of_binary text.
      let rest = same_under front overrides others same test of_binary text in
      ((may_map (λ a. a) (λ a. a) (λ a. a) rest.0.0, may_map (λ a. a) (λ a. a) (λ a. a) rest.0.1), (hangs_map (λ a. a) (λ a. a) rest.1.0, hangs_map (λ a. a) (λ a. a) rest.1.1))

  same_without : (over : GroupOverride) (rest : List GroupOverride) → NeverApplies default over binary → SameGroups default binary (over ∷ rest) rest
  same_without over rest never = λ test of_binary text.
      let nowhere = never test of_binary in (
        (
          λ may. inr (nowhere.0, may),
          λ may. elim may [ inl taken ↦ absurd (elim taken.0 [ inl sure ↦ nowhere.0 sure | inr unknown ↦ nowhere.1 unknown ]) | inr passed ↦ passed.1 ],
        ),
        (λ hangs. inr (nowhere.1, hangs), λ hangs. elim hangs [ inl taken ↦ absurd (nowhere.1 taken.0) | inr passed ↦ passed.1 ]),
      )

  -- the one overrides stand for the others, whatever comes behind
  abbrev pub StandFor : List GroupOverride → List GroupOverride → Type 0
  StandFor overrides others = (rest : List GroupOverride) → SameGroups default binary (overrides ++ rest) (others ++ rest)

  pub none_stand : StandFor [] []
  none_stand rest = λ test of_binary text. (alike (MayBeIn default rest test text), alike (HangsOn default rest test text))

  pub one_stands : (overrides others : List GroupOverride) (over : GroupOverride) → StandFor overrides others → StandFor (overrides ++ over ∷ []) (others ++ over ∷ [])
  one_stands overrides others over stand = λ rest.
      rw (append_assoc overrides (over ∷ []) rest, append_assoc others (over ∷ []) rest) (stand (over ∷ rest))

  pub one_left_out : (overrides others : List GroupOverride) (over : GroupOverride) → NeverApplies default over binary → StandFor overrides others → StandFor (overrides ++ over ∷ []) others
  one_left_out overrides others over never stand = λ rest.
      rw (append_assoc overrides (over ∷ []) rest) (λ test of_binary text.
      let first = stand (over ∷ rest) test of_binary text in
      let then = same_under others (over ∷ rest) rest (same_without over rest never) test of_binary text in
      ((λ may. first.0.0 (then.0.0 may), λ may. then.0.1 (first.0.1 may)), (λ hangs. first.1.0 (then.1.0 hangs), λ hangs. then.1.1 (first.1.1 hangs))))

  pub all_stand : (overrides others : List GroupOverride) → StandFor overrides others → SameGroups default binary overrides others
  all_stand overrides others stand = rw (append-nil overrides, append-nil others) at (stand [])

-- ---- what filters pick

covers_by : (default : CompiledExpr) (test : TestQuery) (filter : Option (Bor CompiledExpr))
    → MatchOption filter (Unit {0}) (λ f. Holds f.now test default in_global) ↔ Holds (filter_or_all filter) test default in_global
covers_by default test None = alike (Unit {0})
covers_by default test (Some f) = alike (Holds f.now test default in_global)

-- an override picks what its filter picks, or all tests
pub covers_alone : (default : CompiledExpr) (test : TestQuery) (over : GroupOverride) → Covers default over test ↔ ExprPicks default (filter_of over) test (codes "@global")
covers_alone default test over = covers_by default test over.filter

-- what the steps of its filter tell of a binary
pub told_of : (default : CompiledExpr) (laid : FlatOverride) (binary : BinaryQuery) (told : Option Bool) → IsLaid default laid → IsTold laid.filter binary told → IsToldOf default laid.given binary told
told_of default laid binary told is says = λ value known test of_binary.
    let f = with_default default (filter_of laid.given) in
    let folds : Folds kleene_not kleene (Decides (Some true) (Some false)) (Settles is_of_test (HoldsOfBinary test.binary_query)) f (Some value) =
    subst (λ (b : BinaryQuery). Folds kleene_not kleene (Decides (Some true) (Some false)) (Settles is_of_test (HoldsOfBinary b)) f (Some value)) (sym of_binary)
    (subst (λ x. Folds kleene_not kleene (Decides (Some true) (Some false)) (Settles is_of_test (HoldsOfBinary binary)) f x) known (says (filter_of laid.given) default is)) in
    let holds = told_of_test f test in_global value folds in
    let covers = covers_alone default test laid.given in
    (λ picks. covers.1 (holds.0 picks), λ c. holds.1 (covers.0 c))

-- if they tell that it picks no test, it applies to none
pub never_told : (default : CompiledExpr) (over : GroupOverride) (binary : BinaryQuery) (told : Option Bool) → IsToldOf default over binary told → told ≡ Some false → NeverApplies default over binary
never_told default over binary told is none = λ test of_binary.
    let says = is false none test of_binary in (λ sure. false≢true (says.1 sure.0), λ unknown. false≢true (says.1 unknown.0))

-- nor does it if its platforms do not apply
pub never_applied : (default : CompiledExpr) (over : GroupOverride) (binary : BinaryQuery) → applies over binary.platform ≡ Some false → NeverApplies default over binary
never_applied default over binary none = λ test of_binary.
    let same : applies over test.binary_query.platform ≡ Some false = ap (λ (b : BinaryQuery). applies over b.platform) of_binary ∙ none in (
      λ sure. let clash : Some true ≡ Some false = sym sure.1 ∙ same in cc,
      λ unknown. let clash : None ≡ Some false = sym unknown.1 ∙ same in cc,
    )

-- what is not no, is yes or unknown
pub sure_of : (answer : Option Bool) → is_no answer ≡ false → answer ≡ cond (is_some answer) (Some true) None
sure_of None is = refl
sure_of (Some true) is = refl
sure_of (Some false) is = absurd (false≢true (sym is))

-- a known answer about a binary is that about each test of it, in each group
pub answer_told : (flat : FlatExpr) (expr default : CompiledExpr) (overrides : List GroupOverride) (test : TestQuery) (value : Bool) → IsFlat flat expr default → IsTold flat test.binary_query (Some value)
    → IsAnswer default overrides test (ExprPicks default expr test) (Known value)
answer_told flat expr default overrides test value is says = λ group may.
    told_of_test (with_default default expr) test (in_group group) value (says expr default is)

-- ---- laying out

-- a filter, or all tests
pub or_all : (filter : Option (Bor CompiledExpr)) (all : Bor CompiledExpr) → all.now ≡ all_tests → (unwrap_or filter all).now ≡ filter_or_all filter
or_all None all is = is
or_all (Some filter) all is = refl

-- one more override is laid out
pub one_laid : (default : CompiledExpr) (overrides : List GroupOverride) (i : ℕ) (given : GroupOverride) (laids new : List FlatOverride) (laid : FlatOverride) → i < length overrides → get_or overrides i given ≡ given
    → new ≡ laids ++ laid ∷ [] → laid.given ≡ given → IsLaid default laid → (map (λ (f : FlatOverride). f.given) laids ≡ take i overrides) × All (IsLaid default) laids
    → (map (λ (f : FlatOverride). f.given) new ≡ take (i + 1) overrides) × All (IsLaid default) new
one_laid default overrides i given laids new laid lt at is same own kept = (
  rw (is, one_more overrides i given lt at, map-append (λ (f : FlatOverride). f.given) laids (laid ∷ []), kept.0, same) refl,
  rw is (All-push (IsLaid default) laids laid kept.1 own),
)

-- one more override is told
pub one_told : (default : CompiledExpr) (binary : BinaryQuery) (all : List FlatOverride) (i : ℕ) (laid : FlatOverride) (rows new : List ToldOverride) (row : ToldOverride) → i < length all → get_or all i laid ≡ laid
    → new ≡ rows ++ row ∷ [] → given_of row ≡ laid.given → MayApply default binary row
    → All (MayApply default binary) rows × StandFor default binary (map (λ (f : FlatOverride). f.given) (take i all)) (map given_of rows)
    → All (MayApply default binary) new × StandFor default binary (map (λ (f : FlatOverride). f.given) (take (i + 1) all)) (map given_of new)
one_told default binary all i laid rows new row lt at is same may kept = (
  rw is (All-push (MayApply default binary) rows row kept.0 may),
  rw (is, one_more all i laid lt at, map-append (λ (f : FlatOverride). f.given) (take i all) (laid ∷ []), map-append given_of rows (row ∷ []), same)
      (one_stands default binary (map (λ (f : FlatOverride). f.given) (take i all)) (map given_of rows) laid.given kept.1),
)

-- one more override, which never applies
pub one_left : (default : CompiledExpr) (binary : BinaryQuery) (all : List FlatOverride) (i : ℕ) (laid : FlatOverride) (rows : List ToldOverride) → i < length all → get_or all i laid ≡ laid
    → NeverApplies default laid.given binary
    → All (MayApply default binary) rows × StandFor default binary (map (λ (f : FlatOverride). f.given) (take i all)) (map given_of rows)
    → All (MayApply default binary) rows × StandFor default binary (map (λ (f : FlatOverride). f.given) (take (i + 1) all)) (map given_of rows)
one_left default binary all i laid rows lt at never kept = (
  kept.0,
  rw (one_more all i laid lt at, map-append (λ (f : FlatOverride). f.given) (take i all) (laid ∷ []))
      (one_left_out default binary (map (λ (f : FlatOverride). f.given) (take i all)) (map given_of rows) laid.given never kept.1),
)
