use Rattle.std.proofs.Common.{◌≡◌, ◌<◌, ◌+◌, ◌++◌, ◌∷◌, [], List, None, Some, ap, arith, cond, get_or, length, map, subst, sym, take, ◌∙◌}
use Rattle.std.specs.Prelude.{bytes_eq}
use Rattle.std.proofs.lemmas.List.{length-map, length-take-le, map-append, take_more}
use Rattle.std.proofs.lemmas.Map.Text.{btree_map_updates_str}
use Rattle.filterset_json.specs.Shape.{Text}
use Rattle.filterset_configuration.specs.{Circles.IsIndex, Circles.position_of, declared.circles.Link.Link}
use Rattle.filterset_configuration.proofs.EndLemmas.{index_more}
use Rattle.filterset_configuration.proofs.circles.positions_of.Goals as goal

pub loop-at-preserved : goal.loop-at-preserved
loop-at-preserved c =
    let links = c.args.links.now in
    let i = c.loop-at.at in
    let name_of = λ (l : Link). l.name.now in
    let none : Link = record { name = record { ref_ptr = (0, 0); now = [] }; fallback = None } in
    let link = get_or links i none in
    let lt : i < length links = omega (arith, c.loop-at-test.true) in
    let names = map name_of (take i links) in
    let long : length names ≡ i = omega (arith, length-map (take i links) name_of, length-take-le i links (omega arith)) in
    let updates = btree_map_updates_str (name_of link) c.loop-at.positions c.insert.new.self _ c.in_ok-insert.ensures.updates in
    let there : (q : Text) → position_of c.insert.new.self q ≡ cond (bytes_eq (name_of link) q) (Some (length names)) (position_of c.loop-at.positions q) =
    λ q. updates q ∙ ap (λ n. cond (bytes_eq (name_of link) q) (Some n) (position_of c.loop-at.positions q)) (sym long) in
    subst (λ (ns : List Text). IsIndex ns c.insert.new.self) (sym (ap (map name_of) (take_more links i none lt) ∙ map-append name_of (take i links) (link ∷ [])))
    (index_more names (name_of link) c.loop-at.positions c.insert.new.self there c.loop-at.invariant)
