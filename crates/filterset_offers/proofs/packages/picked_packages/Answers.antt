use Rattle.std.proofs.Common.{ℕ, Bool, Bor, List, map, subst, sym}
use Rattle.std.proofs.lemmas.Result.{IfOk-weaker}
use Rattle.filterset_graph.specs.{Packages.AllDiffer, Packages.ids, declared.package.PackageMetadata.PackageMetadata}
use Rattle.filterset_matchers.specs.Matchers.{matcher_of}
use Rattle.nextest_filtering.specs.PackageMarks.{IsMarkedMember}
use Rattle.filterset_offers.specs.{Matched.PicksPackage, Matched.package_name, Sieves.SelectsAs}
use Rattle.filterset_offers.proofs.SieveLemmas.{as-same}
use Rattle.filterset_offers.proofs.packages.picked_packages.Goals as goal

pub marked_members-requires-clause-distinct : goal.marked_members-requires-clause-distinct
marked_members-requires-clause-distinct c =
    subst (λ (ps : List PackageMetadata). AllDiffer (ids ps)) (sym c.packages.ensures.list) c.packages.ensures.distinct

pub returns : goal.returns
returns c =
    let packages = c.args.graph.now in
    let marks = c.in_ok-marks.marks.items in
    let picks = PicksPackage packages c.args.reach (matcher_of c.args.matcher.now) in
    let member : PackageMetadata → Type 0 = λ p. IsMarkedMember packages marks p.id in
    IfOk-weaker c.marked_members.result _ (λ found. SelectsAs picks package_name packages (map (λ (n : Bor (List ℕ)). n.now) found.items))
    (λ found are.
    let listed = subst (λ (ps : List PackageMetadata). SelectsAs (λ p. IsMarkedMember ps c.as_slice.result.now p.id) package_name ps (map (λ (n : Bor (List ℕ)). n.now) found.items)) c.packages.ensures.list are in
    let marked = subst (λ (ms : List Bool). SelectsAs (λ p. IsMarkedMember packages ms p.id) package_name packages (map (λ (n : Bor (List ℕ)). n.now) found.items)) c.as_slice.ensures.value listed in
    as-same member picks package_name (λ p. c.in_ok-marks.ensures.picked p.id) packages (map (λ (n : Bor (List ℕ)). n.now) found.items) marked)
    c.marked_members.ensures
