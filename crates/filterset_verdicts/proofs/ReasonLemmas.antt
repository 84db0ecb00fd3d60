-- The reasons of filtersets are those of their trees.
use Rattle.std.proofs.Common.{Global, List, String, [], ◌∷◌, map, string_bytes}
use Rattle.std.specs.List.{AllZip}
use Rattle.filterset_answers.specs.Picking.{compiled_of, parsed_of}
use Rattle.filterset_display.specs.Columns.{Text}
use Rattle.filterset_expression.specs.Meaning.{IsCompiled}
use Rattle.filterset_expression.specs.declared.{expression.CompiledExpr.CompiledExpr, query.TestQuery.TestQuery}
use Rattle.filterset_graph.specs.declared.package.PackageMetadata.{PackageMetadata}
use Rattle.nextest_filtering.specs.declared.filterset.Filterset.{Filterset}
use Rattle.filterset_verdicts.specs.Reasons.{IsReason, IsReasonOf}

module _ (packages : List PackageMetadata) (default : CompiledExpr) (query : TestQuery) (group : Text) where
  pub reasons_of_trees : (filters : List Filterset) (texts : List (String Global))
      → AllZip (λ (f : Filterset) (text : String Global). IsReasonOf packages default query group f (string_bytes text)) filters texts
      → AllZip (IsCompiled packages) (map parsed_of filters) (map compiled_of filters)
      → AllZip (IsReason packages default query group) (map parsed_of filters) (map (λ (s : String Global). string_bytes s) texts)
  reasons_of_trees [] [] are compiled = tt
  reasons_of_trees [] (text ∷ texts) are compiled = absurd are
  reasons_of_trees (f ∷ filters) [] are compiled = absurd are
  reasons_of_trees (f ∷ filters) (text ∷ texts) are compiled = (are.0 compiled.0, reasons_of_trees filters texts are.1 compiled.1)
