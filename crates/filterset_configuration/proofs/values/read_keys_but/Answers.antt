use Rattle.std.proofs.Common.{rules, ◌≡◌, [], ◌∷◌, ◌++◌, Some, true, false, ap, map, string_bytes, sym, ◌∙◌}
use Rattle.std.specs.{List.list_any, Option.option_map_or, Str.bytes_eq}
use Rattle.toml.specs.{Data.as_table, View.members_view, View.view}
use Rattle.filterset_sources.specs.Configurations.{keys_of}
use Rattle.filterset_sources.proofs.ConfigurationLemmas.{keys-entries}
use Rattle.filterset_configuration.proofs.OtherKeys.{kept_push, key_passed, keys_but}
use Rattle.filterset_configuration.proofs.values.read_keys_but.Goals as goal

pub loop-key-init : goal.loop-key-init
loop-key-init c =
    let entries = c.in-Some.members.now.entries in
    let known : Some (members_view entries) ≡ as_table (view c.args.value.now) = search (rules, c.in-Some.ensures) in
    rw (c.new-keys.ensures.items, c.into_iter-key-iterator.ensures.into_iter_gives, c.keys-key-items.ensures.rest)
    (ap (keys_but (map (λ o. o.now) c.args.others.now)) (keys-entries entries ∙ ap (λ o. option_map_or keys_of o []) known))

pub loop-key-preserved-then-contains : goal.loop-key-preserved-then-contains
loop-key-preserved-then-contains c =
    let others = c.args.others.now in
    let key = c.in-Some-key.key.now in
    let step : c.loop-key.key-iterator ≡ key ∷ c.next.new.self = search (rules, c.in-Some-key.ensures.steps) in
    let among : list_any (λ o. bytes_eq o.now (string_bytes key)) others ≡ true =
    rw (sym c.as_str.ensures.value) (sym c.contains.ensures.value ∙ c.if-contains.true) in
    let known = rw step at c.loop-key.invariant in
    ap (λ ks. map string_bytes c.loop-key.keys.items ++ ks) (sym (key_passed others (string_bytes key) (map string_bytes c.next.new.self) among)) ∙ known

pub loop-key-preserved : goal.loop-key-preserved
loop-key-preserved c =
    let others = c.args.others.now in
    let key = c.in-Some-key.key.now in
    let copy = c.in_ok-from_str.field-0 in
    let copied : string_bytes copy ≡ string_bytes key = search (rules, c.in_ok-from_str.ensures.ok, c.as_str-in-loop-key.ensures.value) in
    let step : c.loop-key.key-iterator ≡ key ∷ c.next.new.self = search (rules, c.in-Some-key.ensures.steps) in
    let among : list_any (λ o. bytes_eq o.now (string_bytes key)) others ≡ false =
    rw (sym c.as_str.ensures.value) (sym c.contains.ensures.value ∙ c.if-contains.false) in
    let known = rw step at c.loop-key.invariant in
    rw c.in_ok-push.ensures.items (kept_push others c.loop-key.keys.items copy (string_bytes key) (map string_bytes c.next.new.self) _ copied among known)
