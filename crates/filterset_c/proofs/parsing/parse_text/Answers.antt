use Rattle.std.proofs.Common.{◌∙◌, ℕ, List, ap, subst}
use Rattle.std.specs.{Prelude.String, Prelude.string_bytes, declared.alloc.Global.Global}
use Rattle.filterset_expression.specs.Meaning.{IsCompiled}
use Rattle.filterset_graph.specs.declared.package.PackageMetadata.{PackageMetadata}
use Rattle.filterset_language.specs.Views.{tree_of}
use Rattle.nextest_filtering.specs.Compiling.{packages_of, IsFiltersetOf}
use Rattle.filterset_c.proofs.parsing.parse_text.Goals as goal

pub returns-in-Ok-clause-accepted : goal.returns-in-Ok-clause-accepted
returns-in-Ok-clause-accepted c =
    let groups = c.args.workspace.now.known_groups in
    let made = c.in-Ok.filterset in
    let e = tree_of made.parsed in
    let accepted = subst (λ (text : List ℕ). IsFiltersetOf text c.args.kind (packages_of c.in_ok-context.context) groups e)
    c.in_ok-input.ensures.ok c.in-Ok.ensures.accepted in
    record {
      input = ap (λ (input : String Global). string_bytes input) c.in-Ok.ensures.input ∙ c.in_ok-input.ensures.ok;
      accepted = subst (λ (packages : List PackageMetadata). IsFiltersetOf c.args.text.now c.args.kind packages groups e) c.in_ok-context.ensures accepted;
      compiled = subst (λ (packages : List PackageMetadata). IsCompiled packages e made.compiled) c.in_ok-context.ensures c.in-Ok.ensures.compiled;
    }
