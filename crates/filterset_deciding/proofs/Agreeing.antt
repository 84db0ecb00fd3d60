-- A branch agrees with a test if it does on each aspect.
use Rattle.std.proofs.Common.{◌≡◌, ◌↔◌, ◌∙◌, ◌<◌, ◌≤◌, ◌+◌, ℕ, Bool, true, false, Option, Some, None, refl, sym, ap, subst, List, [], ◌∷◌, ◌++◌, take, length, get_or, arith, IsTrue}
use Rattle.std.proofs.lemmas.{Bool.false≢true, List.take_more}
use Rattle.std.proofs.lemmas.List.Elements.{All-from_recursion, All-get_or}
use Rattle.std.proofs.lemmas.Option.{none-some as none_some, same_Some as some_same}
use Rattle.std.specs.{Bool.beq, List.AllByRecursion, Prelude.Contains, Prelude.IsUtf8}
use Rattle.filterset_expression.specs.Expression as leaf
use Rattle.filterset_expression.specs.Expression.{CompiledLeaf, leaf_matcher}
use Rattle.filterset_expression.specs.FlatSteps.{Step, Push, Negate, Combine, step_of}
use Rattle.filterset_matchers.specs.Matcher.{Matcher, MatchesName}
use Rattle.filterset_deciding.specs.AnyTest.{AnyTest, Says}
use Rattle.filterset_deciding.specs.Aspects.{AgreesOn, IsKnownOn, IsOfField, is_constant, is_of_package, is_of_platform, text_of}
use Rattle.filterset_deciding.specs.PackageSets.{IsInNone, IsOfNoPackage, IsWithin}
use Rattle.filterset_deciding.specs.{Demands.IsDemandedBy, Texts.IsMetBy, Texts.matcher_in}
use Rattle.filterset_deciding.specs.{declared.demand.Demand.Demand, Known.Agrees, Known.IsKnown, Known.IsKnownStep}
use Rattle.filterset_deciding.specs.declared.{demand.TestField.TestField, running.ValuedStep.ValuedStep}
use Rattle.filterset_deciding.proofs.Branches.{each_before, each_pushed}
use Rattle.filterset_deciding.specs.declared.demand.TestField.TheVariants as fields

known_on : (On : CompiledLeaf → Type 0) (test : AnyTest) (s : Step CompiledLeaf) (v : Option Bool) → IsKnownStep test s v → IsKnownOn On test s v
known_on On test (Push l) v known = λ on. known
known_on On test Negate v known = tt
known_on On test (Combine c) v known = tt

-- what agrees does so on each aspect
pub agrees_on : (On : CompiledLeaf → Type 0) (test : AnyTest) (branch : List ValuedStep) → Agrees test branch → AgreesOn On test branch
agrees_on On test [] agrees = tt
agrees_on On test (p ∷ branch) agrees = (known_on On test (step_of p.step) p.value agrees.0, agrees_on On test branch agrees.1)

-- on all aspects
pub record AgreesOnAll (test : AnyTest) (branch : List ValuedStep) : Type 0 where
  pub kind : AgreesOn (IsOfField fields.Kind) test branch
  pub binary_name : AgreesOn (IsOfField fields.BinaryName) test branch
  pub binary_id : AgreesOn (IsOfField fields.BinaryId) test branch
  pub test_name : AgreesOn (IsOfField fields.TestName) test branch
  pub group : AgreesOn (IsOfField fields.Group) test branch
  pub packages : AgreesOn (λ l. is_of_package l ≡ true) test branch
  pub platform : AgreesOn (λ l. is_of_platform l ≡ true) test branch
  pub constants : AgreesOn (λ l. is_constant l ≡ true) test branch

leaf_known : (test : AnyTest) (l : CompiledLeaf) (v : Option Bool)
    → IsKnownOn (IsOfField fields.Kind) test (Push l) v → IsKnownOn (IsOfField fields.BinaryName) test (Push l) v → IsKnownOn (IsOfField fields.BinaryId) test (Push l) v
    → IsKnownOn (IsOfField fields.TestName) test (Push l) v → IsKnownOn (IsOfField fields.Group) test (Push l) v → IsKnownOn (λ l. is_of_package l ≡ true) test (Push l) v
    → IsKnownOn (λ l. is_of_platform l ≡ true) test (Push l) v → IsKnownOn (λ l. is_constant l ≡ true) test (Push l) v → IsKnown v (Says test l)
leaf_known test (leaf.Packages ids) v k b i t g p f c = p refl
leaf_known test (leaf.Kind m s) v k b i t g p f c = k refl
leaf_known test (leaf.Platform q s) v k b i t g p f c = f refl
leaf_known test (leaf.Binary m s) v k b i t g p f c = b refl
leaf_known test (leaf.BinaryId m s) v k b i t g p f c = i refl
leaf_known test (leaf.Test m s) v k b i t g p f c = t refl
leaf_known test (leaf.Group m s) v k b i t g p f c = g refl
leaf_known test leaf.Default v k b i t g p f c = c refl
leaf_known test leaf.All v k b i t g p f c = c refl
leaf_known test leaf.None v k b i t g p f c = c refl

step_known : (test : AnyTest) (s : Step CompiledLeaf) (v : Option Bool)
    → IsKnownOn (IsOfField fields.Kind) test s v → IsKnownOn (IsOfField fields.BinaryName) test s v → IsKnownOn (IsOfField fields.BinaryId) test s v
    → IsKnownOn (IsOfField fields.TestName) test s v → IsKnownOn (IsOfField fields.Group) test s v → IsKnownOn (λ l. is_of_package l ≡ true) test s v
    → IsKnownOn (λ l. is_of_platform l ≡ true) test s v → IsKnownOn (λ l. is_constant l ≡ true) test s v → IsKnownStep test s v
step_known test (Push l) v k b i t g p f c = leaf_known test l v k b i t g p f c
step_known test Negate v k b i t g p f c = tt
step_known test (Combine connective) v k b i t g p f c = tt

pub agrees_of_all : (test : AnyTest) (branch : List ValuedStep) → AgreesOnAll test branch → Agrees test branch
agrees_of_all test [] on = tt
agrees_of_all test (q ∷ branch) on = (
  step_known test (step_of q.step) q.value on.kind.0 on.binary_name.0 on.binary_id.0 on.test_name.0 on.group.0 on.packages.0 on.platform.0 on.constants.0,
  agrees_of_all test branch (record {
    kind = on.kind.1;
    binary_name = on.binary_name.1;
    binary_id = on.binary_id.1;
    test_name = on.test_name.1;
    group = on.group.1;
    packages = on.packages.1;
    platform = on.platform.1;
    constants = on.constants.1;
  }),
)

-- a leaf of a text says of a test that its matcher matches the text
pub says_matches : (test : AnyTest) (field : TestField) (l : CompiledLeaf) (m : Matcher) → IsOfField field l → leaf_matcher l ≡ Some m
    → Says test l ≡ MatchesName m (text_of field test)
says_matches test field (leaf.Packages ids) m on e = absurd (none_some field on)
says_matches test field (leaf.Kind n s) m on e = ap (λ f. MatchesName n (text_of f test)) (some_same fields.Kind field on) ∙ ap (λ x. MatchesName x (text_of field test)) (some_same n m e)
says_matches test field (leaf.Platform q s) m on e = absurd (none_some field on)
says_matches test field (leaf.Binary n s) m on e = ap (λ f. MatchesName n (text_of f test)) (some_same fields.BinaryName field on) ∙ ap (λ x. MatchesName x (text_of field test)) (some_same n m e)
says_matches test field (leaf.BinaryId n s) m on e = ap (λ f. MatchesName n (text_of f test)) (some_same fields.BinaryId field on) ∙ ap (λ x. MatchesName x (text_of field test)) (some_same n m e)
says_matches test field (leaf.Test n s) m on e = ap (λ f. MatchesName n (text_of f test)) (some_same fields.TestName field on) ∙ ap (λ x. MatchesName x (text_of field test)) (some_same n m e)
says_matches test field (leaf.Group n s) m on e = ap (λ f. MatchesName n (text_of f test)) (some_same fields.Group field on) ∙ ap (λ x. MatchesName x (text_of field test)) (some_same n m e)
says_matches test field leaf.Default m on e = absurd (none_some field on)
says_matches test field leaf.All m on e = absurd (none_some field on)
says_matches test field leaf.None m on e = absurd (none_some field on)

-- ---- loops over a branch

pub each_pushed_iff : {A B : Type 0} (P : A → Type 0) (Q : B → Type 0) (xs : List A) (x : A) (ys : List B) (y : B)
    → (AllByRecursion P xs ↔ AllByRecursion Q ys) → (P x ↔ Q y) → AllByRecursion P (xs ++ x ∷ []) ↔ AllByRecursion Q (ys ++ y ∷ [])
each_pushed_iff P Q xs x ys y all one = (
  λ h. let before = each_before P xs x h in each_pushed Q ys y (all.0 before.0) (one.0 before.1),
  λ h. let before = each_before Q ys y h in each_pushed P xs x (all.1 before.0) (one.1 before.1),
)

pub each_passed_iff : {A B : Type 0} (P : A → Type 0) (Q : B → Type 0) (xs : List A) (ys : List B) (y : B)
    → (AllByRecursion P xs ↔ AllByRecursion Q ys) → Q y → AllByRecursion P xs ↔ AllByRecursion Q (ys ++ y ∷ [])
each_passed_iff P Q xs ys y all one = (λ h. each_pushed Q ys y (all.0 h) one, λ h. all.1 (each_before Q ys y h).0)

pub take_one : {A : Type 0} (xs : List A) (i : ℕ) (x : A) → i < length xs → get_or xs i x ≡ x → take (i + 1) xs ≡ take i xs ++ x ∷ []
take_one xs i x lt at = take_more xs i x lt ∙ ap (λ z. take i xs ++ z ∷ []) at

-- one more that is so
pub each_taken : {A : Type 0} (P : A → Type 0) (xs : List A) (i : ℕ) (x : A) → i < length xs → get_or xs i x ≡ x
    → AllByRecursion P (take i xs) → P x → AllByRecursion P (take (i + 1) xs)
each_taken P xs i x lt at all one = subst (AllByRecursion P) (sym (take_one xs i x lt at)) (each_pushed P (take i xs) x all one)

pub each_at : {A : Type 0} (P : A → Type 0) (xs : List A) (i : ℕ) (x : A) → i < length xs → get_or xs i x ≡ x → AllByRecursion P xs → P x
each_at P xs i x lt at all = subst P at (All-get_or P xs i x lt (All-from_recursion P xs all))

-- where one is not so, not all are
pub not_each : {A : Type 0} (P : A → Type 0) (xs : List A) (i : ℕ) (x : A) → i < length xs → get_or xs i x ≡ x → ¬ P x → ¬ AllByRecursion P xs
not_each P xs i x lt at never all = never (subst P at (All-get_or P xs i x lt (All-from_recursion P xs all)))

-- what a leaf demands of a text is what its value says
pub demand_known : (test : AnyTest) (field : TestField) (p : ValuedStep) (d : Demand) → IsDemandedBy field p d
    → IsMetBy (text_of field test) d ↔ IsKnownOn (IsOfField field) test (step_of p.step) p.value
demand_known test field p d by =
    let own : Says test by.leaf ≡ MatchesName (matcher_in d) (text_of field test) = says_matches test field by.leaf (matcher_in d) by.of_leaf.field by.of_leaf.matcher in
    let On : Step CompiledLeaf → Option Bool → Type 0 = λ s v. IsMetBy (text_of field test) d ↔ IsKnownOn (IsOfField field) test s v in
    let Value : Type 0 → Type 0 = λ Q. IsTrue d.is_matched ↔ Q in
    let plain : On (Push by.leaf) (Some d.is_matched) = (λ met on. subst Value (sym own) met, λ known. subst Value own (known by.of_leaf.field)) in
    subst (λ s. On s p.value) (sym by.step) (subst (λ v. On (Push by.leaf) v) (sym by.value) plain)

pub text_is_utf8 : (field : TestField) (test : AnyTest) → IsUtf8 (text_of field test)
text_is_utf8 fields.Kind test = test.kind_is_text
text_is_utf8 fields.BinaryName test = test.binary_name_is_text
text_is_utf8 fields.BinaryId test = test.binary_id_is_text
text_is_utf8 fields.TestName test = test.test_name_is_text
text_is_utf8 fields.Group test = test.group_is_text

-- ---- packages

no_package : (test : AnyTest) (s : Step CompiledLeaf) (v : Option Bool) → ((ids : List (List ℕ)) → s ≡ Push (leaf.Packages ids) → v ≡ None)
    → IsKnownOn (λ l. is_of_package l ≡ true) test s v
no_package test (Push (leaf.Packages ids)) v none = λ on. subst (λ o. IsKnown o (Says test (leaf.Packages ids))) (sym (none ids refl)) tt
no_package test (Push (leaf.Kind m s)) v none = λ on. absurd (false≢true on)
no_package test (Push (leaf.Platform q s)) v none = λ on. absurd (false≢true on)
no_package test (Push (leaf.Binary m s)) v none = λ on. absurd (false≢true on)
no_package test (Push (leaf.BinaryId m s)) v none = λ on. absurd (false≢true on)
no_package test (Push (leaf.Test m s)) v none = λ on. absurd (false≢true on)
no_package test (Push (leaf.Group m s)) v none = λ on. absurd (false≢true on)
no_package test (Push leaf.Default) v none = λ on. absurd (false≢true on)
no_package test (Push leaf.All) v none = λ on. absurd (false≢true on)
no_package test (Push leaf.None) v none = λ on. absurd (false≢true on)
no_package test Negate v none = tt
no_package test (Combine connective) v none = tt

-- a step without a known set of packages
pub no_package_known : (test : AnyTest) (p : ValuedStep) → IsOfNoPackage p → IsKnownOn (λ l. is_of_package l ≡ true) test (step_of p.step) p.value
no_package_known test p none = no_package test (step_of p.step) p.value none

-- a test, and whether it is as known
pub alike_on : (hit value : Bool) (P : Type 0) → (IsTrue hit ↔ P) → IsTrue (beq hit value) ↔ (true ≡ true → (IsTrue value ↔ P))
alike_on true true P h = (λ e on. h, λ f. refl)
alike_on true false P h = (λ e on. absurd (false≢true e), λ f. absurd (false≢true ((f refl).1 (h.0 refl))))
alike_on false true P h = (λ e on. absurd (false≢true e), λ f. absurd (false≢true (h.1 ((f refl).0 refl))))
alike_on false false P h = (λ e on. h, λ f. refl)

-- an id that is longer than all in sets, which are known not to contain the package
longer_known : (test : AnyTest) (limit : ℕ) (s : Step CompiledLeaf) (v : Option Bool) → limit < length test.query.binary_query.package_id.now
    → ((ids : List (List ℕ)) → s ≡ Push (leaf.Packages ids) → ¬ (v ≡ Some true))
    → ((ids : List (List ℕ)) → s ≡ Push (leaf.Packages ids) → (id : List ℕ) → Contains ids id → length id ≤ limit)
    → IsKnownOn (λ l. is_of_package l ≡ true) test s v
longer_known test limit (Push (leaf.Packages ids)) None longer none within = λ on. tt
longer_known test limit (Push (leaf.Packages ids)) (Some true) longer none within = absurd (none ids refl refl)
longer_known test limit (Push (leaf.Packages ids)) (Some false) longer none within =
    λ on. (λ e. absurd (false≢true e), λ has. let le = within ids refl test.query.binary_query.package_id.now has in absurd (omega (arith, le, longer)))
longer_known test limit (Push (leaf.Kind m s)) v longer none within = λ on. absurd (false≢true on)
longer_known test limit (Push (leaf.Platform q s)) v longer none within = λ on. absurd (false≢true on)
longer_known test limit (Push (leaf.Binary m s)) v longer none within = λ on. absurd (false≢true on)
longer_known test limit (Push (leaf.BinaryId m s)) v longer none within = λ on. absurd (false≢true on)
longer_known test limit (Push (leaf.Test m s)) v longer none within = λ on. absurd (false≢true on)
longer_known test limit (Push (leaf.Group m s)) v longer none within = λ on. absurd (false≢true on)
longer_known test limit (Push leaf.Default) v longer none within = λ on. absurd (false≢true on)
longer_known test limit (Push leaf.All) v longer none within = λ on. absurd (false≢true on)
longer_known test limit (Push leaf.None) v longer none within = λ on. absurd (false≢true on)
longer_known test limit Negate v longer none within = tt
longer_known test limit (Combine connective) v longer none within = tt

pub longer_agrees : (test : AnyTest) (limit : ℕ) (branch : List ValuedStep) → limit < length test.query.binary_query.package_id.now
    → AllByRecursion IsInNone branch → AllByRecursion (IsWithin limit) branch → AgreesOn (λ l. is_of_package l ≡ true) test branch
longer_agrees test limit [] longer none within = tt
longer_agrees test limit (p ∷ branch) longer none within =
    (longer_known test limit (step_of p.step) p.value longer none.0 within.0, longer_agrees test limit branch longer none.1 within.1)

pub within_more : (limit more : ℕ) (p : ValuedStep) → limit ≤ more → IsWithin limit p → IsWithin more p
within_more limit more p le within ids e id has = let own = within ids e id has in omega (arith, own, le)
