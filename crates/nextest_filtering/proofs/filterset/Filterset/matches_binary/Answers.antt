use Rattle.std.proofs.Common.{◌≡◌, ◌↔◌, Bool, List, Some, None}
use Rattle.std.proofs.lemmas.Result.{IfOk-weaker}
use Rattle.filterset_graph.specs.declared.package.PackageMetadata.{PackageMetadata}
use Rattle.filterset_language.specs.Views.{tree_of}
use Rattle.filterset_expression.specs.BinaryMeaning.{IsDefiniteTree, IsUndecidedTree}
use Rattle.filterset_expression.specs.{Contexts.default_of, Meaning.IsCompiled}
use Rattle.filterset_expression.proofs.BinaryMeanings.{compiled_definite, compiled_undecided}
use Rattle.nextest_filtering.proofs.filterset.Filterset.matches_binary.Goals as goal

pub returns-clause-meaning : goal.returns-clause-meaning
returns-clause-meaning c =
    let tree = tree_of c.args.self.now.parsed in
    let compiled = c.args.self.now.compiled in
    let binary = c.args.query.now in
    let default = default_of c.args.cx.now in
    IfOk-weaker c.matches_binary.result _
    (λ answer. (packages : List PackageMetadata) → IsCompiled packages tree compiled → (b : Bool) → (answer ≡ Some b) ↔ IsDefiniteTree tree packages binary default b)
    (λ answer h packages is b. let e = compiled_definite packages binary default tree compiled is b in (λ same. e.0 ((h b).0 same), λ definite. (h b).1 (e.1 definite))) c.matches_binary.ensures.definite

pub returns-clause-unknown : goal.returns-clause-unknown
returns-clause-unknown c =
    let tree = tree_of c.args.self.now.parsed in
    let compiled = c.args.self.now.compiled in
    let binary = c.args.query.now in
    let default = default_of c.args.cx.now in
    IfOk-weaker c.matches_binary.result _
    (λ answer. (packages : List PackageMetadata) → IsCompiled packages tree compiled → (answer ≡ None) ↔ IsUndecidedTree tree packages binary default)
    (λ answer h packages is. let e = compiled_undecided packages binary default tree compiled is in (λ same. e.0 (h.0 same), λ undecided. h.1 (e.1 undecided))) c.matches_binary.ensures.undecided
