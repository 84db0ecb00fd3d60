use Rattle.std.proofs.Common.{rules, ◌≡◌, Err, List, Ok, Option, Result, Some, ℕ, ap, map, subst, true, ◌∙◌}
use Rattle.std.specs.Prelude.{◌↔◌, IfOk, codes, option_and_then, option_copied, slice_get}
use Rattle.toml.specs.{Data.Members, View.table_view, View.view}
use Rattle.filterset_json.specs.Shape.{Text}
use Rattle.filterset_configuration.specs.Circles.{IsIndex, IsProfileInCircle, links_of, position_of}
use Rattle.filterset_configuration.specs.{Leads.AreFar, Leads.MarksEnds, declared.circles.Link.Link}
use Rattle.filterset_configuration.proofs.CircleLemmas.{ends_are_circles, names_from_links, parents_from_links}
use Rattle.filterset_sources.specs.{Configurations.keys_of, Sections.members_under}
use Rattle.filterset_configuration.proofs.circles.mark_circles.Goals as goal

if_ok : {T E : Type 0} (r : Result T E) (P Q : T → Type 0) → ((x : T) → P x → Q x) → IfOk r P → IfOk r Q
if_ok (Err e) P Q f h = tt
if_ok (Ok x) P Q f h = f x h

pub returns : goal.returns
returns c =
    let ms = table_view c.in-Some.profiles.now in
    let links = c.in_ok-links.links.items in
    let positions = c.in_ok-positions.positions in
    let parents = c.in_ok-parents.parents.items in
    let leads = c.in_ok-leads.leads.items in
    let rows = c.in_ok-links.ensures.links in
    let place = option_and_then (position_of positions) in
    let names = λ (ls : List Link). map (λ l. l.name.now) ls in
    let index : IsIndex (keys_of ms) positions =
    subst (λ (ns : List Text). IsIndex ns positions) (ap names c.as_slice.ensures.value ∙ names_from_links links ms rows) c.in_ok-positions.ensures in
    let are : parents ≡ map (λ (l : Text × Option Text). place l.1) (links_of ms) =
    c.in_ok-parents.ensures ∙ ap (map (λ (l : Link). place (option_copied l.fallback))) c.as_slice-2.ensures.value
    ∙ parents_from_links links ms place rows in
    let far : AreFar parents leads = subst (λ (ps : List (Option ℕ)). AreFar ps leads) c.as_slice-3.ensures.value c.in_ok-leads.ensures in
    let under : ms ≡ members_under (codes "profile") (view c.args.file.now) = search (rules, c.in-Some.ensures) in
    if_ok c.mark_ends.result _ _
    (λ marks ends.
    subst (λ (rows : Members). (at : ℕ) → (slice_get marks.items at ≡ Some true) ↔ IsProfileInCircle rows at) under
    (ends_are_circles ms c.in_ok-links.ensures.distinct positions index parents are leads marks.items far
    (subst (λ (ls : List (Option ℕ)). MarksEnds ls marks.items) c.as_slice-4.ensures.value ends)))
    c.mark_ends.ensures
