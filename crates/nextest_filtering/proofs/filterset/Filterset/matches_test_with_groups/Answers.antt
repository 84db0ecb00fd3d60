use Rattle.std.proofs.{Common.◌↔◌, Common.List, Common.IsTrue, lemmas.Result.IfOk-weaker}
use Rattle.filterset_graph.specs.declared.package.PackageMetadata.{PackageMetadata}
use Rattle.filterset_expression.specs.{Contexts.default_of, Meaning.IsCompiled, Meaning.Meaning}
use Rattle.filterset_expression.proofs.Meanings.{compiled_means}
use Rattle.filterset_language.specs.Views.{tree_of}
use Rattle.nextest_filtering.proofs.filterset.Filterset.matches_test_with_groups.Goals as goal

pub returns-clause-meaning : goal.returns-clause-meaning
returns-clause-meaning g c =
    let lookup = (goal.GroupLookup-dyn g c.args.groups.now).GroupLookup.matches_group c.args.groups.now.1 in
    let tree = tree_of c.args.self.now.parsed in
    let compiled = c.args.self.now.compiled in
    let default = default_of c.args.cx.now in
    IfOk-weaker c.matches_test_with_groups.result _
    (λ answer. (packages : List PackageMetadata) → IsCompiled packages tree compiled → IsTrue answer ↔ Meaning tree packages c.args.query.now default lookup)
    (λ answer h packages is. let e = compiled_means packages c.args.query.now default lookup tree compiled is in (λ yes. e.0 (h.0 yes), λ means. h.1 (e.1 means))) c.matches_test_with_groups.ensures.holds
