use Rattle.std.proofs.Common.{◌≡◌, ◌<◌, ◌++◌, ◌&&◌, [], ◌∷◌, false, Bor, arith, ap, get_or, length, map, refl, subst, sym, take, ◌∙◌}
use Rattle.std.specs.Prelude.{Some, slice_get}
use Rattle.std.proofs.lemmas.{List.take_all, List.take_more, Option.slice_get-get_or}
use Rattle.filterset_graph.specs.{Packages.Text, declared.package.PackageMetadata.PackageMetadata}
use Rattle.nextest_filtering.specs.PackageMarks.{IsMarkedMember}
use Rattle.filterset_offers.specs.{Matched.package_name, Sieves.SelectsAs, Sieves.Sieves.no_more}
use Rattle.filterset_offers.proofs.{MarkLemmas.member_here, SieveLemmas.as-next}
use Rattle.filterset_offers.proofs.packages.marked_members.Goals as goal

abbrev text : Bor Text → Text
text n = n.now

pub loop-index-init : goal.loop-index-init
loop-index-init c = ([], no_more, rw c.new-found.ensures.items refl)

pub loop-index-preserved : goal.loop-index-preserved
loop-index-preserved c =
    let packages = c.args.packages.now in
    let marks = c.args.marks.now in
    let i = c.loop-index.index in
    let p = c.index-packages-index.result in
    let mark = get_or marks i false in
    let within : i < length marks = omega (arith, c.loop-index-test.true, c.requires.marked) in
    let at : slice_get packages i ≡ Some p = slice_get-get_or packages i p c.loop-index-test.true ∙ ap (λ (q : PackageMetadata). Some q) (sym c.index-packages-index.is) in
    let here = member_here packages marks c.requires.distinct i p mark at (slice_get-get_or marks i false within) in
    let member : PackageMetadata → Type 0 = λ q. IsMarkedMember packages marks q.id in
    let names = map text c.loop-index.found.items in
    let next = as-next member package_name (take i packages) p names (mark && p.in_workspace) here.0 here.1 c.loop-index.invariant in
    let seen = subst (SelectsAs member package_name (take i packages ++ p ∷ [])) (sym c.in_ok-push_member.ensures) next in
    let same : get_or packages i p ≡ p = sym c.index-packages-index.is in
    rw (take_more packages i p c.loop-index-test.true, same) seen

pub returns : goal.returns
returns c =
    let are = c.loop-index.invariant in
    rw (take_all c.loop-index.index c.args.packages.now c.loop-index-test.false) at are
