use Rattle.std.proofs.Common.{◌≡◌, ◌↔◌, ℕ, Bool, Contains, List, ◌∙◌, subst}
use Rattle.std.proofs.lemmas.Result.{IfOk-weaker}
use Rattle.filterset_graph.specs.{Marked.MarksReaching, Packages.AllDiffer, Packages.ids}
use Rattle.filterset_graph.specs.declared.package.PackageMetadata.{PackageMetadata}
use Rattle.filterset_matchers.specs.Matchers.{matcher_of}
use Rattle.nextest_filtering.specs.{Compiling.packages_of, PackageMarks.IsMarkedMember}
use Rattle.filterset_expression.specs.Meaning.{IsDependent}
use Rattle.nextest_filtering.proofs.PackageSets as sets
use Rattle.nextest_filtering.proofs.compile.packages.select_dependents.Goals as goal

pub returns : goal.returns
returns c =
    let packages = packages_of c.args.cx.now in
    let matcher = matcher_of c.args.matcher.now in
    let starts = c.in_ok-ends.ends.items in
    let marks = c.in_ok-marks.marks in
    let list : c.packages-packages.result.now ≡ packages = c.packages-packages.ensures.list ∙ c.graph.ensures in
    let marked = c.in_ok-ends.ensures.marks in
    let differ = subst (λ (ps : List PackageMetadata). AllDiffer (ids ps)) c.graph.ensures c.packages-packages.ensures.distinct in
    let reached = subst (λ (ps : List PackageMetadata). MarksReaching ps starts marks) c.graph-2.ensures (subst (λ (ms : List Bool). MarksReaching c.graph-2.result.now ms marks) c.deref.ensures.value c.in_ok-marks.ensures.exact) in
    IfOk-weaker c.collect_marked.result _ (λ found. (id : List ℕ) → Contains found.keys id ↔ IsDependent packages matcher id)
    (λ found are id.
    let is = sets.dependents packages matcher starts marked differ marks reached id in
    let here = subst (λ (ps : List PackageMetadata). Contains found.keys id ↔ IsMarkedMember ps marks.items id) list (subst (λ (ms : List Bool). Contains found.keys id ↔ IsMarkedMember c.packages-packages.result.now ms id) c.deref-2.ensures.value (are id)) in
    ((λ has. is.0 (here.0 has)), (λ so. here.1 (is.1 so)))) c.collect_marked.ensures
