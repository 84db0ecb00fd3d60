-- Equality of filtersets: of all fields, spans included.
use Rattle.std.specs.{Prelude.◌&&◌, Prelude.Bool, Prelude.string_bytes, Str.bytes_eq}
use Rattle.filterset_expression.specs.{Equality.same_compiled_leaf, Equality.same_formula, Expression.formula}
use Rattle.filterset_grammar.specs.Equality.{same_span, same_tree}
use Rattle.filterset_language.specs.Views.{tree_of}
use Rattle.nextest_filtering.specs.declared.filterset.Filterset.{Filterset}

-- whether filtersets are equal: their inputs, their trees with the spans, and the compiled trees
abbrev pub same_filterset : Filterset → Filterset → Bool
same_filterset a b =
    bytes_eq (string_bytes a.input) (string_bytes b.input)
    && same_tree same_span (tree_of a.parsed) (tree_of b.parsed)
    && same_formula same_compiled_leaf (formula a.compiled) (formula b.compiled)
