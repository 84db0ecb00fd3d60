use Rattle.std.proofs.Common.{rules, ◌≡◌, ◌++◌, ◌∷◌, [], Option, Some, append-nil, append_assoc, ap, false, if◌then◌else◌, string_bytes, sym, true, ◌∙◌}
use Rattle.std.specs.Prelude.{option_and_then, unwrap_or}
use Rattle.toml.specs.{Data.Members, Data.as_table, Data.get, Data.no_members, View.members_view, View.view}
use Rattle.toml.proofs.Views.{Entry}
use Rattle.filterset_json.specs.Paths.{key_text}
use Rattle.filterset_configuration.specs.{Names.is_reserved, Wrong.name_values, Wrong.row, Wrong.value_rows}
use Rattle.filterset_sources.specs.Sections.{below}
use Rattle.filterset_configuration.proofs.walking.Walk.push_reserved.Goals as goal

pub loop-name-preserved-then-not-is_reserved : goal.loop-name-preserved-then-not-is_reserved
loop-name-preserved-then-not-is_reserved c =
    let key = c.args.key.now in
    let role = c.args.role in
    let e : Entry = (c.in-Some-2.name.now, c.in-Some-2._value.now) in
    let step : c.loop-name.name-iterator ≡ e ∷ c.next.new.self = search (rules, c.in-Some-2.ensures.steps) in
    let more = name_values key role (members_view c.next.new.self) in
    let free : is_reserved role (string_bytes e.0) ≡ false =
    ap (is_reserved role) (sym c.as_str.ensures.value) ∙ sym c.is_reserved.ensures ∙ c.if-not-is_reserved.true in
    ap (λ b. value_rows c.loop-name.self.values.items ++ ((if b then row (below key (key_text (string_bytes e.0))) role [] ∷ [] else []) ++ more)) (sym free)
    ∙ ap (λ es. value_rows c.loop-name.self.values.items ++ name_values key role (members_view es)) (sym step)
    ∙ c.loop-name.invariant

pub loop-name-preserved : goal.loop-name-preserved
loop-name-preserved c =
    let key = c.args.key.now in
    let role = c.args.role in
    let e : Entry = (c.in-Some-2.name.now, c.in-Some-2._value.now) in
    let step : c.loop-name.name-iterator ≡ e ∷ c.next.new.self = search (rules, c.in-Some-2.ensures.steps) in
    let old = value_rows c.loop-name.self.values.items in
    let more = name_values key role (members_view c.next.new.self) in
    let kept : is_reserved role (string_bytes e.0) ≡ true =
    ap (is_reserved role) (sym c.as_str.ensures.value) ∙ sym c.is_reserved.ensures ∙ c.if-not-is_reserved.false in
    let path : string_bytes c.in_ok-format.field-0 ≡ below key (key_text (string_bytes e.0)) =
    search (rules, c.in_ok-format.ensures.ok, c.in_ok-name.ensures, c.as_str-in-loop-name.ensures.value) in
    ap (λ r. r ++ more) (c.in_ok-push.ensures ∙ ap (λ p. old ++ row p role [] ∷ []) path)
    ∙ append_assoc old (row (below key (key_text (string_bytes e.0))) role [] ∷ []) more
    ∙ ap (λ b. old ++ ((if b then row (below key (key_text (string_bytes e.0))) role [] ∷ [] else []) ++ more)) (sym kept)
    ∙ ap (λ es. old ++ name_values key role (members_view es)) (sym step)
    ∙ c.loop-name.invariant

pub returns : goal.returns
returns c =
    let rows = value_rows c.loop-name.self.values.items in
    let into : c.into_iter-name-iterator.result ≡ c.iter-name-items.result = search (rules, c.into_iter-name-iterator.ensures.into_iter_gives) in
    let known : Some (members_view c.in-Some.members.now.entries) ≡ option_and_then as_table (get c.args.key.now (view c.args.file.now)) =
    search (rules, c.in-Some.ensures) in
    sym (append-nil rows)
    ∙ ap (λ es. rows ++ name_values c.args.key.now c.args.role (members_view es)) (sym c.in-None.ensures.steps.0)
    ∙ c.loop-name.invariant
    ∙ ap (λ es. value_rows c.args.self.now.values.items ++ name_values c.args.key.now c.args.role (members_view es)) (into ∙ sym (search (rules, c.iter-name-items.ensures.rest)))
    ∙ ap (λ (o : Option Members). value_rows c.args.self.now.values.items ++ name_values c.args.key.now c.args.role (unwrap_or o no_members)) known
