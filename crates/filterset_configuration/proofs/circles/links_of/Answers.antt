use Rattle.std.proofs.Common.{rules, ◌≡◌, ◌++◌, ◌∷◌, [], append_assoc, append-nil, ap, map, string_bytes, sym, ◌∙◌}
use Rattle.std.proofs.lemmas.List.{map-append}
use Rattle.toml.specs.View.{members_view, view}
use Rattle.toml.proofs.Views.{Entry}
use Rattle.filterset_configuration.specs.Circles.{fallback_of, link_row, links_of}
use Rattle.filterset_configuration.specs.declared.circles.Link.{Link}
use Rattle.filterset_configuration.proofs.CircleLemmas.{distinct_names}
use Rattle.filterset_configuration.proofs.circles.links_of.Goals as goal

pub loop-name-init : goal.loop-name-init
loop-name-init c =
    let first : c.args.profiles.now.entries ≡ c.into_iter-name-iterator.result = search (rules, c.iter-name-items.ensures.rest, c.into_iter-name-iterator.ensures.into_iter_gives) in
    ap (λ ls. map link_row ls ++ links_of (members_view c.into_iter-name-iterator.result)) c.in_ok-links.ensures.items
    ∙ ap (λ es. links_of (members_view es)) (sym first)

pub loop-name-preserved : goal.loop-name-preserved
loop-name-preserved c =
    let e : Entry = (c.in-Some.name.now, c.in-Some.value.now) in
    let step : c.loop-name.name-iterator ≡ e ∷ c.next.new.self = search (rules, c.in-Some.ensures.steps) in
    let links = c.loop-name.links.items in
    let link : Link = record { name = c.as_str-name.result; fallback = c.fallback_of-fallback.result } in
    let old = map link_row links in
    let more = links_of (members_view c.next.new.self) in
    let row : link_row link ≡ (string_bytes e.0, fallback_of (string_bytes e.0) (view e.1)) =
    ap (λ t. (c.as_str-name.result.now, t)) c.fallback_of-fallback.ensures ∙ ap (λ n. (n, fallback_of n (view e.1))) c.as_str-name.ensures.value in
    ap (λ ls. map link_row ls ++ more) c.in_ok-push.ensures.items
    ∙ ap (λ rs. rs ++ more) (map-append link_row links (link ∷ []))
    ∙ append_assoc old (link_row link ∷ []) more
    ∙ ap (λ r. old ++ r ∷ more) row
    ∙ ap (λ es. old ++ links_of (members_view es)) (sym step)
    ∙ c.loop-name.invariant

pub returns-clause-links : goal.returns-clause-links
returns-clause-links c =
    let rows = map link_row c.loop-name.links.items in
    sym (append-nil rows)
    ∙ ap (λ es. rows ++ links_of (members_view es)) (sym c.in-None.ensures.steps.0)
    ∙ c.loop-name.invariant

pub returns-clause-distinct : goal.returns-clause-distinct
returns-clause-distinct c = distinct_names c.args.profiles.now.entries c.iter-name-items.ensures.ordered
