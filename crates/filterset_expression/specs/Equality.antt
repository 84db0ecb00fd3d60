-- When compiled expressions are equal: in all that they hold, their spans too. Matchers are equal as `same_compared`
-- says, and so of globs the tokens alone are compared.
use Rattle.std.specs.Prelude.{◌&&◌, Bool, true, false}
use Rattle.std.specs.{Cmp.Lexicographic.pointwise, Str.bytes_eq}
use Rattle.filterset_grammar.specs.Equality.{compared_matcher, same_platform, same_span}
use Rattle.filterset_matchers.specs.Equality.{compared, same_compared}
use Rattle.filterset_expression.specs.Connectives.{same_connective}
use Rattle.filterset_expression.specs.Expression.{CompiledLeaf, Packages, Kind, Platform, Binary, BinaryId, Test, Group, Default, All, None}
use Rattle.filterset_expression.specs.Formula.{Formula, Leaf, Negation, Compound}
use Rattle.filterset_expression.specs.declared.query.{BinaryQuery.BinaryQuery, TestQuery.TestQuery}

-- whether leaves are equal; of packages the same ids are in both
abbrev pub same_compiled_leaf : CompiledLeaf → CompiledLeaf → Bool
same_compiled_leaf (Packages ids) (Packages others) = pointwise bytes_eq ids others
same_compiled_leaf (Kind m s) (Kind n t) = same_compared (compared m) (compared n) && same_span s t
same_compiled_leaf (Platform p s) (Platform q t) = same_platform p q && same_span s t
same_compiled_leaf (Binary m s) (Binary n t) = same_compared (compared m) (compared n) && same_span s t
same_compiled_leaf (BinaryId m s) (BinaryId n t) = same_compared (compared m) (compared n) && same_span s t
same_compiled_leaf (Test m s) (Test n t) = same_compared (compared m) (compared n) && same_span s t
same_compiled_leaf (Group m s) (Group n t) = same_compared (compared m) (compared n) && same_span s t
same_compiled_leaf Default Default = true
same_compiled_leaf All All = true
same_compiled_leaf None None = true
same_compiled_leaf _ _ = false

-- whether formulas are equal, by this test of their leaves
abbrev pub same_formula : {A : Type 0} → (A → A → Bool) → Formula A → Formula A → Bool
same_formula same (Leaf a) (Leaf b) = same a b
same_formula same (Negation f) (Negation g) = same_formula same f g
same_formula same (Compound connective f f') (Compound other g g') =
    same_connective connective other && same_formula same f g && same_formula same f' g'
same_formula same _ _ = false

-- what is compared of a leaf: every glob gets the same text and sign, and so its tokens alone tell it from others
abbrev pub compared_compiled : CompiledLeaf → CompiledLeaf
compared_compiled (Kind m s) = Kind (compared_matcher m) s
compared_compiled (Binary m s) = Binary (compared_matcher m) s
compared_compiled (BinaryId m s) = BinaryId (compared_matcher m) s
compared_compiled (Test m s) = Test (compared_matcher m) s
compared_compiled (Group m s) = Group (compared_matcher m) s
compared_compiled leaf = leaf

-- what is compared of a formula
abbrev pub compared_formula : Formula CompiledLeaf → Formula CompiledLeaf
compared_formula (Leaf leaf) = Leaf (compared_compiled leaf)
compared_formula (Negation f) = Negation (compared_formula f)
compared_formula (Compound connective f g) = Compound connective (compared_formula f) (compared_formula g)

-- whether questions about binaries are equal
abbrev pub same_binary_query : BinaryQuery → BinaryQuery → Bool
same_binary_query a b =
    bytes_eq a.package_id.now b.package_id.now
    && bytes_eq a.binary_id.now b.binary_id.now
    && bytes_eq a.binary_name.now b.binary_name.now
    && bytes_eq a.kind.now b.kind.now
    && same_platform a.platform b.platform

-- whether questions about tests are equal
abbrev pub same_test_query : TestQuery → TestQuery → Bool
same_test_query a b = same_binary_query a.binary_query b.binary_query && bytes_eq a.test_name.now b.test_name.now
