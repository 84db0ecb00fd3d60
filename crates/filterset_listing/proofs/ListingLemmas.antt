-- Tests that are picked one after the other.
use Rattle.std.proofs.Common.{◌≡◌, ℕ, ◌+◌, ◌<◌, Bool, true, false, List, [], ◌∷◌, ◌++◌, length, take, get_or, ◌∙◌, sym, ap, refl, subst}
use Rattle.std.specs.{Prelude.◌↔◌, Prelude.Option, Prelude.Some, Prelude.None, List.AllZip}
use Rattle.std.proofs.lemmas.{Bool.false≢true, List.take_more}
pub use Rattle.std.proofs.lemmas.Slice.Zip.{all_zipped_more as AllZip-push}
use Rattle.filterset_expression.specs.Expression.{IsDefinite, IsUndecided}
use Rattle.filterset_expression.specs.declared.{expression.CompiledExpr.CompiledExpr, query.BinaryQuery.BinaryQuery}
use Rattle.filterset_expression.proofs.LeafAnswers.{definite_of_test}
use Rattle.filterset_listing.specs.Asking.{ExprCanPick, ExprPicks, Text, in_group, is_no}
use Rattle.filterset_listing.specs.Groups.{Says}
use Rattle.filterset_listing.specs.Listing.{Picked, no_tests, one_passed, one_picked, one_unknown, picked_by, unknown_by}
use Rattle.filterset_listing.specs.declared.groups.{GroupOverride.GroupOverride, TestAnswer.TestAnswer}
use Rattle.filterset_listing.specs.declared.groups.TestAnswer.TheVariants.{Known, Unknown}

-- where the binary tells that a filterset does not hold, it picks no test of it, whatever group the test is in
pub none_picked : (expr default : CompiledExpr) (overrides : List GroupOverride) (binary : BinaryQuery) → IsDefinite expr binary default false → (name : Text) → Says default overrides (ExprPicks default expr) binary name (Known false)
none_picked expr default overrides binary definite name = λ test of_binary of_name group may. (
  λ yes. absurd (false≢true yes),
  λ picks.
      sym (definite_of_test expr default test (in_group group) true false (λ _. picks, λ _. refl) (subst (λ (b : BinaryQuery). IsDefinite expr b default false) (sym of_binary) definite)),
)

-- what is definitely false of a binary can pick no test of it
pub cannot_pick : (expr default : CompiledExpr) (binary : BinaryQuery) → IsDefinite expr binary default false → ¬ ExprCanPick default expr binary
cannot_pick expr default binary definite can = false≢true (sym ((definite true).0 can))

-- what is true of a binary, or unknown, can pick a test of it
pub can_pick : (expr default : CompiledExpr) (binary : BinaryQuery) (answer : Option Bool) → ((b : Bool) → (answer ≡ Some b) ↔ IsDefinite expr binary default b)
    → ((answer ≡ None) ↔ IsUndecided expr binary default) → is_no answer ≡ false → ExprCanPick default expr binary
can_pick expr default binary None definite undecided is = (undecided.0 refl).0
can_pick expr default binary (Some true) definite undecided is = ((definite true).0 refl true).1 refl
can_pick expr default binary (Some false) definite undecided is = absurd (false≢true (sym is))

-- an answer is no where it is no
pub is_no_alone : (answer : Option Bool) → (is_no answer ≡ true) ↔ (answer ≡ Some false)
is_no_alone None = (λ e. absurd (false≢true e), λ e. cc)
is_no_alone (Some true) = (λ e. absurd (false≢true e), λ e. cc)
is_no_alone (Some false) = (λ e. refl, λ e. refl)

-- one more element of a list
pub one_more : {A : Type 0} (xs : List A) (i : ℕ) (x : A) → i < length xs → get_or xs i x ≡ x → take (i + 1) xs ≡ take i xs ++ x ∷ []
one_more xs i x lt at = take_more xs i x lt ∙ ap (λ y. take i xs ++ y ∷ []) at

-- one more test
pub Picked-push : (Says : Text → TestAnswer → Type 0) (tests : List Text) (test : Text) (picked : List Text) (unknown : List (Text × Text)) (answer : TestAnswer)
    → Picked Says tests picked unknown → Says test answer → Picked Says (tests ++ test ∷ []) (picked ++ picked_by answer test) (unknown ++ unknown_by answer test)
Picked-push Says _ test _ _ (Known true) no_tests says = one_picked says no_tests
Picked-push Says _ test _ _ (Known false) no_tests says = one_passed says no_tests
Picked-push Says _ test _ _ (Unknown path) no_tests says = one_unknown says no_tests
Picked-push Says _ test _ _ answer (one_picked {test = u} {tests} {picked} {unknown} first are) says = one_picked first (Picked-push Says tests test picked unknown answer are says)
Picked-push Says _ test _ _ answer (one_passed {test = u} {tests} {picked} {unknown} first are) says = one_passed first (Picked-push Says tests test picked unknown answer are says)
Picked-push Says _ test _ _ answer (one_unknown {test = u} {path} {tests} {picked} {unknown} first are) says = one_unknown first (Picked-push Says tests test picked unknown answer are says)
