use Rattle.std.proofs.{Common.◌↔◌, Common.Bool, Common.List, Common.subst, Common.sym, lemmas.Result.IfOk-weaker}
use Rattle.std.specs.Prelude.{IfOk}
use Rattle.filterset_graph.specs.Marked.{MarksReached, MarksReaching}
use Rattle.filterset_graph.specs.{Packages.Text, declared.package.PackageMetadata.PackageMetadata}
use Rattle.filterset_matchers.specs.Matchers.{matcher_of}
use Rattle.filterset_expression.specs.Meaning.{IsDependency, IsDependent}
use Rattle.nextest_filtering.specs.PackageMarks.{IsMarkedMember, MarksNamed}
use Rattle.nextest_filtering.proofs.PackageSets as sets
use Rattle.filterset_offers.specs.{Matched.PicksId, declared.packages.Reach.Reach}
use Rattle.filterset_offers.proofs.MarkLemmas.{named_members}
use Rattle.filterset_offers.proofs.packages.mark_picked.Goals as goal

pub returns-in-Alone-clause-picked : goal.returns-in-Alone-clause-picked
returns-in-Alone-clause-picked c =
    let packages = c.args.graph.now in
    let matcher = matcher_of c.args.matcher.now in
    let marks = c.in_ok-named.named.items in
    let marked = subst (λ (ps : List PackageMetadata). MarksNamed ps matcher marks) c.packages.ensures.list c.in_ok-named.ensures.marks in
    let Picked : Reach → Type 0 = λ reach. (id : Text) → IsMarkedMember packages marks id ↔ PicksId packages reach matcher id in
    subst Picked (sym c.in-Alone.is) (named_members packages matcher marks marked)

pub returns-in-Dependencies-clause-picked : goal.returns-in-Dependencies-clause-picked
returns-in-Dependencies-clause-picked c =
    let packages = c.args.graph.now in
    let matcher = matcher_of c.args.matcher.now in
    let starts = c.in_ok-named.named.items in
    let marked = subst (λ (ps : List PackageMetadata). MarksNamed ps matcher starts) c.packages.ensures.list c.in_ok-named.ensures.marks in
    let Picked : Reach → Type 0 = λ reach. IfOk c.mark_reached.result (λ marks. (id : Text) → IsMarkedMember packages marks.items id ↔ PicksId packages reach matcher id) in
    subst Picked (sym c.in-Dependencies.is)
    (IfOk-weaker c.mark_reached.result _ (λ marks. (id : Text) → IsMarkedMember packages marks.items id ↔ IsDependency packages matcher id)
    (λ marks exact.
    let reached = subst (λ (ms : List Bool). MarksReached packages ms marks) c.as_slice.ensures.value exact in
    sets.dependencies packages matcher starts marked c.packages.ensures.distinct marks reached) c.mark_reached.ensures.exact)

pub returns-in-Dependents-clause-picked : goal.returns-in-Dependents-clause-picked
returns-in-Dependents-clause-picked c =
    let packages = c.args.graph.now in
    let matcher = matcher_of c.args.matcher.now in
    let ends = c.in_ok-named.named.items in
    let marked = subst (λ (ps : List PackageMetadata). MarksNamed ps matcher ends) c.packages.ensures.list c.in_ok-named.ensures.marks in
    let Picked : Reach → Type 0 = λ reach. IfOk c.mark_reaching.result (λ marks. (id : Text) → IsMarkedMember packages marks.items id ↔ PicksId packages reach matcher id) in
    subst Picked (sym c.in-Dependents.is)
    (IfOk-weaker c.mark_reaching.result _ (λ marks. (id : Text) → IsMarkedMember packages marks.items id ↔ IsDependent packages matcher id)
    (λ marks exact.
    let reaching = subst (λ (ms : List Bool). MarksReaching packages ms marks) c.as_slice-in-Dependents.ensures.value exact in
    sets.dependents packages matcher ends marked c.packages.ensures.distinct marks reaching) c.mark_reaching.ensures.exact)
