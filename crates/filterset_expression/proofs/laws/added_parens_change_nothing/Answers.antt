use Rattle.std.proofs.Common.{IsTrue}
use Rattle.filterset_expression.specs.BinaryMeaning.{is_either_of_test, EitherOfBinary, tree_leaf_with_default}
use Rattle.filterset_expression.specs.Formula.{replaced, TrueWhere}
use Rattle.filterset_expression.specs.{Meaning.MeansOfTest, Meaning.tree_formula, Values.TrueUnder, Values.CanBe}
use Rattle.filterset_expression.proofs.{AddedParens.same_formula, Meanings.alike_at}
use Rattle.filterset_expression.proofs.laws.added_parens_change_nothing.Goals as goal

pub returns : goal.returns
returns c = record {
  formula = λ e d added. same_formula added;
  tests = λ packages test default lookup e d added.
      alike_at (λ f. TrueWhere (MeansOfTest packages test default (λ t m. IsTrue (lookup t m))) f) (tree_formula d) (tree_formula e) (same_formula added);
  answers = λ packages binary default answers e d added.
      alike_at (λ f. TrueUnder is_either_of_test (EitherOfBinary packages binary) (replaced (tree_leaf_with_default default) f) answers) (tree_formula d) (tree_formula e) (same_formula added);
  binaries = λ packages binary default value e d added.
      alike_at (λ f. CanBe is_either_of_test (EitherOfBinary packages binary) (replaced (tree_leaf_with_default default) f) value) (tree_formula d) (tree_formula e) (same_formula added);
}
