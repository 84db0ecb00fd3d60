use Rattle.std.proofs.Common.{◌≡◌, ◌<◌, arith, get_or, length, rules, sym, ◌∙◌, ap, List, ℕ, ◌++◌}
use Rattle.filterset_graph.specs.declared.package.PackageMetadata.{PackageMetadata}
use Rattle.filterset_offers.specs.{Matched.package_name, Sieves.taken_if}
use Rattle.filterset_offers.proofs.SieveLemmas.{called_more}
use Rattle.filterset_offers.proofs.named.package_names.Goals as goal

pub loop-package-preserved : goal.loop-package-preserved
loop-package-preserved c =
    let packages = c.args.packages.now in
    let i = c.loop-package.package-index in
    let p = c.package-item.result in
    let lt : i < length packages = omega (arith, c.loop-package-test.true) in
    let at : get_or packages i p ≡ p = search (rules, c.package-item.is) in
    let more = called_more package_name (λ (q : PackageMetadata). q.in_workspace) packages i p lt in
    c.in_ok-push_member.ensures ∙ ap (λ (t : List (List ℕ)). t ++ taken_if p.in_workspace (package_name p)) c.loop-package.invariant ∙ sym (rw at at more)
