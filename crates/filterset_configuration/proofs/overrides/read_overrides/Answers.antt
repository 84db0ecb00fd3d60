use Rattle.std.proofs.Common.{rules, ◌≡◌, ◌<◌, ◌+◌, List, Some, [], ◌∷◌, ◌++◌, length, get_or, map, take, ap, subst, sym, ◌∙◌, arith}
use Rattle.std.specs.{Prelude.codes, Prelude.unwrap_or, List.AllZip}
use Rattle.std.proofs.lemmas.List.{get_or-map, length-map, map-append, take_all, take_more}
use Rattle.toml.specs.{Data.Data, Data.array, Data.get, Data.no_items, View.items_of, View.view}
use Rattle.filterset_configuration.specs.Profiles.{IsOverride}
use Rattle.filterset_configuration.proofs.Reading.{as_array-Some, handed_on}
use Rattle.filterset_configuration.proofs.Zips.{array_same, items_same, zip_at, zip_push}
use Rattle.filterset_configuration.proofs.overrides.read_overrides.Goals as goal

-- what is under the key is a list of these values
listed : (g : List Data) (d e : Data) (found : List Data) → get (codes "overrides") d ≡ Some e → e ≡ array (items_of g) → g ≡ found
    → unwrap_or (get (codes "overrides") d) (array no_items) ≡ array (items_of found)
listed g d e found under is same = ap (λ o. unwrap_or o (array no_items)) under ∙ is ∙ ap (λ ds. array (items_of ds)) same

pub returns-in_err-read_override-clause-refused : goal.returns-in_err-read_override-clause-refused
returns-in_err-read_override-clause-refused c =
    let d = view c.args.value.now in
    let e = view c.in-Some.found.now in
    let items = c.as_slice-items.result.now in
    let i = c.loop-at.at in
    let item = c.index-items-at.result in
    let under : get (codes "overrides") d ≡ Some e = search (rules, c.in-Some.ensures) in
    let here = listed _ d e (map view items) under (as_array-Some e _ c.in-Some-as_array.ensures) (ap (map view) (sym c.as_slice-items.ensures.value)) in
    let is : get_or (map view items) i (view item) ≡ view item = get_or-map view items i item (view item) c.loop-at-test.true ∙ ap view (sym c.index-items-at.is) in
    handed_on c.from_residual-in_err-read_override.result c.in_err-read_override.field-0.0 c.from_residual-in_err-read_override.ensures.1
    (λ fact.
    let zip = subst (λ (ds : List Data). AllZip (IsOverride (view c.args.file.now)) ds fact.0) (items_same fact.1.0 (map view items) (array_same _ _ (sym fact.1.1 ∙ here))) fact.1.2 in
    let found = zip_at (IsOverride (view c.args.file.now)) (map view items) fact.0 i (view item) (omega (arith, length-map items view)) zip in
    (found.0, subst (λ (d : Data). IsOverride (view c.args.file.now) d found.0) is found.1))
    c.in_err-read_override.ensures.refused

pub loop-at-preserved : goal.loop-at-preserved
loop-at-preserved c =
    let items = c.as_slice-items.result.now in
    let i = c.loop-at.at in
    let item = c.index-items-at.result in
    let more : take (i + 1) items ≡ take i items ++ item ∷ [] = take_more items i item c.loop-at-test.true ∙ ap (λ x. take i items ++ x ∷ []) (sym c.index-items-at.is) in
    rw (c.in_ok-push.ensures.items, more, map-append view (take i items) (item ∷ []))
    (zip_push (IsOverride (view c.args.file.now)) (map view (take i items)) c.loop-at.overrides.items (view item) c.in_ok-read_override.field-0
    c.loop-at.invariant c.in_ok-read_override.ensures.read)

pub returns-clause-read : goal.returns-clause-read
returns-clause-read c =
    let d = view c.args.value.now in
    let e = view c.in-Some.found.now in
    let items = c.as_slice-items.result.now in
    let under : get (codes "overrides") d ≡ Some e = search (rules, c.in-Some.ensures) in
    let here = listed _ d e (map view items) under (as_array-Some e _ c.in-Some-as_array.ensures) (ap (map view) (sym c.as_slice-items.ensures.value)) in
    (map view items, here, rw (take_all c.loop-at.at items c.loop-at-test.false) at c.loop-at.invariant)
