use Rattle.std.proofs.Common.{rules, arith, ◌≡◌, Option, Some, ◌+◌, ◌++◌, ◌∷◌, append-nil, append_assoc, List, ap, length, string_bytes, sym, ◌∙◌}
use Rattle.std.specs.Prelude.{codes, option_and_then, unwrap_or}
use Rattle.toml.specs.{Data.Members, Data.as_table, Data.get, Data.no_members, View.members_view, View.view}
use Rattle.toml.proofs.Views.{Entry}
use Rattle.filterset_json.specs.{Paths.key_text, Shape.Text}
use Rattle.filterset_sources.specs.Sections.{SectionRow, below, member_sections, profile_sections, section_rows}
use Rattle.filterset_sources.proofs.sections.push_profiles.Goals as goal

pub overflow_step-at : goal.overflow_step-at
overflow_step-at c =
    let e : Entry = (c.in-Some-2.name.now, c.in-Some-2.value.now) in
    let step : c.loop-at.name-iterator ≡ e ∷ c.next.new.self = search (rules, c.in-Some-2.ensures.steps) in
    let first : c.in-Some.members.now.entries ≡ c.iter-name-items.result = search (rules, c.iter-name-items.ensures.rest) in
    omega (arith, c.iter-name-items.ensures.fits, c.loop-at.invariant.count, ap length step, ap length first)

pub loop-at-preserved : goal.loop-at-preserved
loop-at-preserved c =
    let e : Entry = (c.in-Some-2.name.now, c.in-Some-2.value.now) in
    let at = c.loop-at.at in
    let step : c.loop-at.name-iterator ≡ e ∷ c.next.new.self = search (rules, c.in-Some-2.ensures.steps) in
    let old = section_rows c.loop-at.output.items in
    let sections : Text → List SectionRow = λ name. profile_sections (below (codes "profile") (key_text name)) at (view e.1) in
    let more = member_sections (at + 1) (members_view c.next.new.self) in
    let name : c.as_str.result.now ≡ string_bytes e.0 = search (rules, c.as_str.ensures) in
    record {
      count = omega (arith, c.loop-at.invariant.count, ap length step);
      rows = ap (λ r. r ++ more) (c.in_ok-push_profile.ensures ∙ ap (λ n. old ++ sections n) name)
          ∙ append_assoc old (sections (string_bytes e.0)) more
          ∙ ap (λ es. old ++ member_sections at (members_view es)) (sym step)
          ∙ c.loop-at.invariant.rows;
    }

pub returns : goal.returns
returns c =
    let rows = section_rows c.loop-at.output.items in
    let first : c.in-Some.members.now.entries ≡ c.iter-name-items.result = search (rules, c.iter-name-items.ensures.rest) in
    let known : Some (members_view c.in-Some.members.now.entries) ≡ option_and_then as_table (get (codes "profile") (view c.args.file.now)) =
    search (rules, c.in-Some.ensures) in
    sym (append-nil rows)
    ∙ ap (λ es. rows ++ member_sections c.loop-at.at (members_view es)) (sym c.in-None.ensures.steps.0)
    ∙ c.loop-at.invariant.rows
    ∙ ap (λ es. section_rows c.args.output.now.items ++ member_sections 0 (members_view es)) (sym first)
    ∙ ap (λ (o : Option Members). section_rows c.args.output.now.items ++ member_sections 0 (unwrap_or o no_members)) known
