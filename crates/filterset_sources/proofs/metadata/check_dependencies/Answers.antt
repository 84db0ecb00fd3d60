use Rattle.std.proofs.{Common.◌≡◌, Common.arith, Common.map, Common.sym, Common.◌∙◌, lemmas.List.Elements.All-map}
use Rattle.std.specs.Prelude.{codes}
use Rattle.filterset_json.specs.Places.{Place}
use Rattle.filterset_sources.specs.Metadata.{IsKnown, Unknown, link_path}
use Rattle.filterset_sources.specs.declared.metadata.parts.Dependency.{Dependency}
use Rattle.filterset_sources.proofs.GraphLemmas.{All-done, All-next, first_not, first_not-mapped, not_known}
use Rattle.filterset_sources.proofs.ShapeLemmas.{Refuses-if}
use Rattle.filterset_sources.proofs.metadata.check_dependencies.Goals as goal

pub returns-then-not-is_known-clause-refused : goal.returns-then-not-is_known-clause-refused
returns-then-not-is_known-clause-refused c =
    let known = IsKnown c.args.known.now in
    let deps = c.args.dependencies.now in
    let link = c.loop-link.link in
    let dependency = c.index-dependencies-link.result in
    let first = first_not (λ (d : Dependency). known d.package) deps link dependency c.loop-link-test.true c.index-dependencies-link.is c.loop-link.invariant (not_known _ _ c.is_known.ensures c.if-not-is_known.true) in
    Refuses-if (λ (place : Place). place ≡ (link_path c.args.at link, codes "the id of one of the packages")) (Unknown known (link_path c.args.at) (map (λ (d : Dependency). d.package) deps))
    c.unknown_link.result (λ place is. (link, dependency.package, first_not-mapped known (λ (d : Dependency). d.package) deps link dependency first, is)) c.unknown_link.ensures

pub loop-link-preserved : goal.loop-link-preserved
loop-link-preserved c = All-next (λ (d : Dependency). IsKnown c.args.known.now d.package) c.args.dependencies.now c.loop-link.link c.index-dependencies-link.result c.loop-link-test.true c.index-dependencies-link.is c.loop-link.invariant (sym c.is_known.ensures ∙ c.if-not-is_known.false)

pub returns-clause-ok : goal.returns-clause-ok
returns-clause-ok c =
    All-map (IsKnown c.args.known.now) (λ (d : Dependency). d.package) c.args.dependencies.now
    (All-done (λ (d : Dependency). IsKnown c.args.known.now d.package) c.args.dependencies.now c.loop-link.link (omega (arith, c.loop-link-test.false)) c.loop-link.invariant)
