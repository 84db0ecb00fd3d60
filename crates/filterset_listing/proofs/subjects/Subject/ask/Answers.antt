use Rattle.std.proofs.Common.{◌↔◌, ◌≡◌, Bool, List, Option, Some, None, refl, subst, sym}
use Rattle.filterset_faults.specs.declared.span.SourceSpan.{SourceSpan}
use Rattle.filterset_graph.specs.declared.package.PackageMetadata.{PackageMetadata}
use Rattle.filterset_grammar.specs.Tree.{Tree}
use Rattle.filterset_expression.specs.BinaryMeaning.{IsDefiniteTree, IsUndecidedTree}
use Rattle.filterset_expression.specs.{FlatExpressions.IsFlatOfTree, declared.expression.CompiledExpr.CompiledExpr}
use Rattle.filterset_expression.specs.declared.{flat.FlatExpr.FlatExpr, query.BinaryQuery.BinaryQuery}
use Rattle.filterset_expression.proofs.Meanings.{compiled_means}
use Rattle.filterset_listing.specs.Asking.{Text, in_group}
use Rattle.filterset_listing.specs.{Values.HasValueIn, declared.explaining.candidate.Candidate.TheVariants.Binary}
use Rattle.filterset_listing.proofs.subjects.Subject.ask.Goals as goal

-- what both clauses say of an answer
value_of : (group : Text) (query : BinaryQuery) (flat : FlatExpr) (answer : Option Bool)
    → ((packages : List PackageMetadata) (e : Tree SourceSpan) (default : CompiledExpr) → IsFlatOfTree flat packages e default → (b : Bool) → (answer ≡ Some b) ↔ IsDefiniteTree e packages query default b)
    → ((packages : List PackageMetadata) (e : Tree SourceSpan) (default : CompiledExpr) → IsFlatOfTree flat packages e default → (answer ≡ None) ↔ IsUndecidedTree e packages query default)
    → (packages : List PackageMetadata) (e : Tree SourceSpan) (default : CompiledExpr) → IsFlatOfTree flat packages e default → HasValueIn group (Binary query) packages default e answer
value_of group query flat (Some b) definite both packages e default of_tree = (definite packages e default of_tree b).0 refl
value_of group query flat None definite both packages e default of_tree = (both packages e default of_tree).0 refl

pub returns-in_ok-answer-in-Binary : goal.returns-in_ok-answer-in-Binary
returns-in_ok-answer-in-Binary c packages e default of_tree =
    subst (λ s. HasValueIn c.args.self.now.group.now s packages default e c.in_ok-answer-in-Binary.answer) (sym c.in-Binary.is)
    (value_of c.args.self.now.group.now c.in-Binary.query c.args.flat.now c.in_ok-answer-in-Binary.answer c.in_ok-answer-in-Binary.ensures.meaning c.in_ok-answer-in-Binary.ensures.unknown packages e default of_tree)

pub returns-in_ok-holds-in-Test : goal.returns-in_ok-holds-in-Test
returns-in_ok-holds-in-Test c packages e default (compiled, is, flat) =
    let group = c.args.self.now.group.now in
    let says = c.in_ok-holds-in-Test.ensures compiled default flat in
    let means = compiled_means packages c.in-Test.query default (in_group group) e compiled is in
    subst (λ s. HasValueIn group s packages default e (Some c.in_ok-holds-in-Test.holds)) (sym c.in-Test.is)
    (λ yes. means.0 (says.0 yes), λ it. says.1 (means.1 it))
