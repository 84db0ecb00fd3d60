-- The numbers of the answers for all tests of a binary.
use Rattle.std.proofs.Common.{ℕ, List, [], ◌∷◌, ◌++◌, lit<, subst, sym}
use Rattle.std.specs.{Prelude.Option, Prelude.None, Prelude.Some, Prelude.slice_index_or, List.All, List.AllZip}
use Rattle.std.proofs.lemmas.List.Elements.{All-from_recursion}
use Rattle.filterset_expression.specs.FlatExpressions.{IsFlat}
use Rattle.filterset_expression.specs.declared.{flat.FlatExpr.FlatExpr, query.BinaryQuery.BinaryQuery}
use Rattle.filterset_language.specs.Views.{tree_of}
use Rattle.filterset_c.specs.Answers.{HoldsFilterset, IsFlatNumber, IsTestNumber}
use Rattle.filterset_c.specs.Queries.{AreAllTexts, AreTexts, IsAbout, IsWellTest}
use Rattle.filterset_c.specs.declared.object.{BoundFilterset.BoundFilterset, Object.Object}
use Rattle.filterset_c.specs.declared.queries.{Binary.Binary, Test.Test}
use Rattle.filterset_c.specs.declared.object.Object.TheVariants as held

-- one more test, with its number
pub AllZip-more : {A B : Type 0} (R : A → B → Type 0) (xs : List A) (ys : List B) (x : A) (y : B)
    → AllZip R xs ys → R x y → AllZip R (xs ++ x ∷ []) (ys ++ y ∷ [])
AllZip-more R [] [] x y all one = (one, tt)
AllZip-more R [] (b ∷ ys) x y all one = absurd all
AllZip-more R (a ∷ xs) [] x y all one = absurd all
AllZip-more R (a ∷ xs) (b ∷ ys) x y all one = (all.0, AllZip-more R xs ys x y all.1 one)

-- the number that the filterset's steps give is its number
pub number_of_steps : (bound : BoundFilterset) (flat : FlatExpr) (binary : Binary) (query : BinaryQuery) (test : Test) (number : ℕ)
    → IsFlat flat bound.filterset.compiled bound.default_filter → IsAbout binary query → IsFlatNumber flat query test number → IsTestNumber bound binary test number
number_of_steps bound flat binary query test number is_flat about given = (
  given.0,
  given.1,
  λ packages compiled.
      let of_test = given.2 packages (tree_of bound.filterset.parsed) bound.default_filter (bound.filterset.compiled, compiled, is_flat) in
      (of_test.0, record { of_binary = subst (IsAbout binary) (sym of_test.1) about; name = of_test.2 }, of_test.3),
)

-- ---- of a list of one test

pub only_answer : (source : Option Object) (binary : Binary) (test : Test) (answers : List ℕ) (old : ℕ)
    → HoldsFilterset (λ bound. AllZip (IsTestNumber bound binary) (test ∷ []) answers) source
    → HoldsFilterset (λ bound. IsTestNumber bound binary test (slice_index_or answers 0 old)) source
only_answer None binary test answers old all = absurd all
only_answer (Some (held.Workspace workspace)) binary test answers old all = absurd all
only_answer (Some (held.Refused refusal)) binary test answers old all = absurd all
only_answer (Some (held.Filterset bound)) binary test [] old all = absurd all
only_answer (Some (held.Filterset bound)) binary test (number ∷ numbers) old all = all.0

pub only_well : (test : Test) → IsWellTest test → All IsWellTest (test ∷ [])
only_well test well = All-from_recursion IsWellTest (test ∷ []) (well, tt)

pub only_texts : (binary : Binary) (test : Test) → AreAllTexts binary (test ∷ []) → AreTexts binary test
only_texts binary test all = (all.0, all.1 0 test (lit< tt))
