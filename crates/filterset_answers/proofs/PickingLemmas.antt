-- What the texts of a question are as filtersets.
use Rattle.std.proofs.Common.{◌≡◌, List, [], ◌∷◌, arith, filter, get_or, length, map, subst, sym}
use Rattle.std.specs.List.{AllZip}
use Rattle.filterset_expression.specs.{Expression.formula, Formula.SameShape}
use Rattle.filterset_expression.specs.Meaning.{IsCompiled, IsCompiledLeaf, tree_formula}
use Rattle.filterset_expression.specs.declared.expression.CompiledExpr.{CompiledExpr}
use Rattle.filterset_faults.specs.declared.span.SourceSpan.{SourceSpan}
use Rattle.filterset_grammar.specs.Tree.{Tree}
use Rattle.filterset_graph.specs.declared.package.PackageMetadata.{PackageMetadata}
use Rattle.filterset_language.specs.Views.{tree_of}
use Rattle.filterset_listing.specs.declared.groups.GroupOverride.{GroupOverride}
use Rattle.nextest_filtering.specs.declared.{compile.context.KnownGroups.KnownGroups, filterset.Filterset.Filterset}
use Rattle.filterset_entries.specs.{Checked.IsFiltersetFor, Checked.TextRow, declared.setting.Setting.Setting}
use Rattle.filterset_answers.specs.Compiled.{AreFiltersets, Basis, IsOverrideFor, IsTreeOf, sets_group}
use Rattle.filterset_answers.specs.Picking.{compiled_of, parsed_of}
use Rattle.filterset_answers.specs.declared.compiling.QuestionFiltersets.{QuestionFiltersets}

-- the setting, as it was compiled
abbrev pub basis_of : (setting : Setting) (rows : List TextRow) (made : QuestionFiltersets) (overrides : List GroupOverride)
    → AreFiltersets setting.graph.now setting.groups.now setting rows made → AllZip (IsOverrideFor setting) (filter sets_group setting.overrides.now) overrides → Basis setting
basis_of setting rows made overrides are grouped = record {
  default_tree = tree_of made.setting.default.parsed;
  default = made.setting.default.compiled;
  overrides = overrides;
  spelled = are.default.accepted;
  compiled = are.default.compiled;
  grouped = grouped;
}

-- the trees of filtersets are those of their texts
pub trees_of : (setting : Setting) (rows : List TextRow) (filters : List Filterset) → AllZip (IsFiltersetFor setting.graph.now setting.groups.now) rows filters
    → AllZip (IsTreeOf setting) rows (map parsed_of filters)
trees_of setting [] [] are = tt
trees_of setting [] (f ∷ filters) are = absurd are
trees_of setting (row ∷ rows) [] are = absurd are
trees_of setting (row ∷ rows) (f ∷ filters) (is, are) = (is.accepted, trees_of setting rows filters are)

-- the expressions of filtersets are their compiled trees
pub compiled_trees : (packages : List PackageMetadata) (groups : KnownGroups) (rows : List TextRow) (filters : List Filterset) → AllZip (IsFiltersetFor packages groups) rows filters
    → AllZip (IsCompiled packages) (map parsed_of filters) (map compiled_of filters)
compiled_trees packages groups [] [] are = tt
compiled_trees packages groups [] (f ∷ filters) are = absurd are
compiled_trees packages groups (row ∷ rows) [] are = absurd are
compiled_trees packages groups (row ∷ rows) (f ∷ filters) (is, are) =
    (is.compiled, compiled_trees packages groups rows filters are)

-- expressions with the same formulas are compiled from the same trees
pub compiled_alike : (packages : List PackageMetadata) (trees : List (Tree SourceSpan)) (xs ys : List CompiledExpr) → map formula ys ≡ map formula xs
    → AllZip (IsCompiled packages) trees xs → AllZip (IsCompiled packages) trees ys
compiled_alike packages [] [] [] same are = tt
compiled_alike packages [] [] (y ∷ ys) same are = absurd (let e : formula y ∷ map formula ys ≡ [] = same in cc)
compiled_alike packages [] (x ∷ xs) ys same are = absurd are
compiled_alike packages (e ∷ trees) [] ys same are = absurd are
compiled_alike packages (e ∷ trees) (x ∷ xs) [] same are = absurd (let bad : [] ≡ formula x ∷ map formula xs = same in cc)
compiled_alike packages (e ∷ trees) (x ∷ xs) (y ∷ ys) same (is, are) =
    let all : formula y ∷ map formula ys ≡ formula x ∷ map formula xs = same in
    let one : formula x ≡ formula y = cc in
    let others : map formula ys ≡ map formula xs = cc in
    (subst (SameShape (IsCompiledLeaf packages) (tree_formula e)) one is, compiled_alike packages trees xs ys others are)

-- the filterset of one text
pub one_of : (packages : List PackageMetadata) (groups : KnownGroups) (row : TextRow) (filters : List Filterset) (f : Filterset)
    → AllZip (IsFiltersetFor packages groups) (row ∷ []) filters → get_or filters 0 f ≡ f → IsFiltersetFor packages groups row f
one_of packages groups row [] f are at = absurd are
one_of packages groups row (g ∷ filters) f are at = subst (IsFiltersetFor packages groups row) at are.0

-- a list of two elements
pub two_of : {A : Type 0} (xs : List A) (x y : A) → length xs ≡ 2 → get_or xs 0 x ≡ x → get_or xs 1 y ≡ y → xs ≡ x ∷ y ∷ []
two_of [] x y long first second = absurd (omega (arith, long))
two_of (a ∷ []) x y long first second = absurd (omega (arith, long))
two_of (a ∷ b ∷ []) x y long first second = let left : a ≡ x = first in let right : b ≡ y = second in cc
two_of (a ∷ b ∷ c ∷ xs) x y long first second = absurd (omega (arith, long))
