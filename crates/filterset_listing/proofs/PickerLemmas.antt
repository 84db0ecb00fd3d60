-- What compiled expressions and trees answer about binaries, and how they differ.
use Rattle.std.proofs.Common.{◌≡◌, ◌↔◌, Bool, List, Option, Some, None, ap, refl, sym, true, false, ◌∙◌}
use Rattle.std.specs.List.{AllZip}
use Rattle.std.proofs.lemmas.Bool.{false≢true}
use Rattle.filterset_faults.specs.declared.span.SourceSpan.{SourceSpan}
use Rattle.filterset_graph.specs.declared.package.PackageMetadata.{PackageMetadata}
use Rattle.filterset_grammar.specs.Tree.{Tree}
use Rattle.filterset_expression.proofs.Meanings.{compiled_means}
use Rattle.filterset_expression.specs.{Expression.IsDefinite, Expression.IsUndecided, FlatExpressions.IsFlat}
use Rattle.filterset_expression.specs.{Meaning.IsCompiled, declared.expression.CompiledExpr.CompiledExpr}
use Rattle.filterset_expression.specs.declared.{flat.FlatExpr.FlatExpr, query.BinaryQuery.BinaryQuery}
use Rattle.filterset_listing.specs.Asking.{ExprPicks, Text, TreePicks, in_group}
use Rattle.filterset_listing.specs.{Comparing.IsBinaryDifference, Overrides.AreFor}
use Rattle.filterset_listing.specs.Pickers.{Answers, Picker, expr_picker, tree_picker}
use Rattle.filterset_listing.specs.declared.binary.AskedBinary.{AskedBinary}
use Rattle.filterset_listing.specs.declared.comparing.BinaryDifference.{BinaryDifference}
use Rattle.filterset_listing.specs.declared.groups.{GroupOverride.GroupOverride, TestAnswer.TestAnswer}
use Rattle.filterset_listing.proofs.{DividesLemmas.divides_alike, GroupLemmas.says_for, MeaningLemmas.compiled_can_be}
use Rattle.filterset_listing.proofs.PicksLemmas.{AllZip-weaker, says_alike}

-- what `matches_binary` returns is the answer of the compiled expression
pub expr_answers : (default : CompiledExpr) (overrides : List GroupOverride) (expr : CompiledExpr) (binary : BinaryQuery) (answer : Option Bool) → ((b : Bool) → (answer ≡ Some b) ↔ IsDefinite expr binary default b)
    → ((answer ≡ None) ↔ IsUndecided expr binary default) → Answers (expr_picker default overrides expr) binary answer
expr_answers default overrides expr binary (Some b) definite undecided = (definite b).0 refl
expr_answers default overrides expr binary None definite undecided = undecided.0 refl

-- if a filterset decides a binary, its answer is that value
pub answers_alone : (picker : Picker) (binary : BinaryQuery) (answer : Option Bool) (value : Bool) → Answers picker binary answer → Answers picker binary (Some value) → answer ≡ Some value
answers_alone picker binary (Some b) value is decided = ap Some (sym ((is value).0 ((decided value).1 refl)))
answers_alone picker binary None value can decided = absurd (false≢true ((decided false).0 can.1 ∙ sym ((decided true).0 can.0)))

-- the answers of the one are those of the other, and the two can be the same of each binary
abbrev pub AreAlike : Picker → Picker → Type 0
AreAlike one other =
    ((binary : BinaryQuery) (name : Text) (answer : TestAnswer) → one.Says binary name answer → other.Says binary name answer)
    × ((binary : BinaryQuery) (value : Bool) → one.CanBe binary value ↔ other.CanBe binary value)

answers_alike : (one other : Picker) → AreAlike one other → (binary : BinaryQuery) (answer : Option Bool) → Answers one binary answer → Answers other binary answer
answers_alike one other alike binary (Some value) is =
    λ b. (λ can. (is b).0 ((alike.1 binary b).1 can), λ e. (alike.1 binary b).0 ((is b).1 e))
answers_alike one other alike binary None can = ((alike.1 binary true).0 can.0, (alike.1 binary false).0 can.1)

module _ (one one' other other' : Picker) (first : AreAlike one one') (second : AreAlike other other') where
  difference_alike : (binary : AskedBinary) (difference : BinaryDifference) → IsBinaryDifference one other binary difference → IsBinaryDifference one' other' binary difference
  difference_alike binary difference (is, answer, answer', divides) = (
    is,
    answers_alike one one' first binary.query difference.first_answer answer,
    answers_alike other other' second binary.query difference.second_answer answer',
    divides_alike (one.Says binary.query) (one'.Says binary.query) (other.Says binary.query) (other'.Says binary.query) (first.0 binary.query) (second.0 binary.query) binary.tests.now _ divides,
  )

  -- filtersets that are alike differ alike
  pub all_differences_alike : (binaries : List AskedBinary) (all : List BinaryDifference) → AllZip (IsBinaryDifference one other) binaries all → AllZip (IsBinaryDifference one' other') binaries all
  all_differences_alike = AllZip-weaker (IsBinaryDifference one other) (IsBinaryDifference one' other') difference_alike

-- a tree and what it is compiled to are alike
pub compiled_alike : (packages : List PackageMetadata) (default : CompiledExpr) (overrides : List GroupOverride) (tree : Tree SourceSpan) (expr : CompiledExpr) → IsCompiled packages tree expr
    → AreAlike (expr_picker default overrides expr) (tree_picker packages default overrides tree)
compiled_alike packages default overrides tree expr is = (
  says_alike default overrides (ExprPicks default expr) (TreePicks packages default tree) (λ test group. compiled_means packages test default (in_group group) tree expr is),
  λ binary value. compiled_can_be packages binary default tree expr is value,
)

-- an expression by the overrides that it needs, and by all, is alike
pub used_alike : (flat : FlatExpr) (default : CompiledExpr) (overrides used : List GroupOverride) (expr : CompiledExpr) → IsFlat flat expr default → AreFor flat overrides used
    → AreAlike (expr_picker default used expr) (expr_picker default overrides expr)
used_alike flat default overrides used expr is for = (
  says_for flat expr default overrides used is for,
  λ binary value. (λ can. can, λ can. can),
)
