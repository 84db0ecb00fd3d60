use Rattle.std.proofs.Common.{rules, ◌≡◌, ◌∙◌, None, ap, sym}
use Rattle.std.specs.Prelude.{codes, unwrap_or}
use Rattle.std.proofs.lemmas.Result.{IfErr-weaker}
use Rattle.toml.specs.{Data.as_table, Data.get, Data.no_members, Data.table, View.table_view, View.view}
use Rattle.filterset_configuration.proofs.Reading.{of_text, refused_wrong}
use Rattle.filterset_configuration.proofs.profiles.read_profiles.Goals as goal

pub returns-in-Some-as_table-clause-refused : goal.returns-in-Some-as_table-clause-refused
returns-in-Some-as_table-clause-refused c =
    let parsed = c.args.parsed in
    let file = view parsed.file.now in
    let same : unwrap_or (get (codes "profile") file) (table no_members) ≡ table (table_view c.in-Some-as_table.members.now) =
    search (rules, c.in-Some.ensures, c.in-Some-as_table.ensures) in
    IfErr-weaker c.read_members.result _ _ (λ e refuses. of_text parsed.text.now file e parsed.is_file (rw same refuses)) c.read_members.ensures.refused

pub returns-in_ok-wrong_at-in-None-clause-refused : goal.returns-in_ok-wrong_at-in-None-clause-refused
returns-in_ok-wrong_at-in-None-clause-refused c =
    let parsed = c.args.parsed in
    let file = view parsed.file.now in
    let found = view c.in-Some.found.now in
    let at : found ≡ unwrap_or (get (codes "profile") file) (table no_members) = search (rules, c.in-Some.ensures) in
    let none : as_table found ≡ None = search (rules, c.in-None.ensures) in
    of_text parsed.text.now file _ parsed.is_file
    (refused_wrong _ c.in_ok-wrong_at-in-None.ensures (λ are. let some = ap as_table (at ∙ are.1.1) in cc))
