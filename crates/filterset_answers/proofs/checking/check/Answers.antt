use Rattle.std.proofs.Common.{rules, ◌≡◌, ◌++◌, length, string_bytes}
use Rattle.std.proofs.lemmas.List.{length-map}
use Rattle.filterset_entries.specs.Checked.{text_row}
use Rattle.filterset_answers.specs.Answers.{summary}
use Rattle.filterset_answers.proofs.checking.check.Goals as goal

pub returns : goal.returns
returns c =
    let faulty = c.in_ok-faulty.faulty in
    let wrote = c.in_ok-faulty.ensures in
    let text : string_bytes c.push_summary.new.output ≡ wrote.0 ++ summary c.args.form c.args.names.now (length c.args.texts.now) faulty = search rules in
    (faulty, (wrote.0, wrote.2, rw (length-map c.args.texts.now text_row) text), c.ending_of.ensures)
