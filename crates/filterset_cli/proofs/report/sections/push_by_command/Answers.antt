use Rattle.std.proofs.Common.{rules, ◌≡◌, ◌++◌, codes, refl, subst}
use Rattle.std.proofs.lemmas.Result.{on_ok_weaker}
use Rattle.filterset_language.specs.Views.{tree_of}
use Rattle.filterset_json.proofs.PieceLemmas.{added_twice}
use Rattle.filterset_cli.specs.{Library.background_of, Report.Accepted, Report.printed_line}
use Rattle.filterset_record.specs.declared.record.commands.Command.{Command}
use Rattle.filterset_record.specs.declared.record.commands.Command.TheVariants as commands
use Rattle.filterset_cli.proofs.report.sections.push_by_command.Goals as goal

pub returns-in_ok-push_printed-in-Report : goal.returns-in_ok-push_printed-in-Report
returns-in_ok-push_printed-in-Report c =
    let tree = tree_of c.args.filterset.now.parsed in
    let background = background_of c.args.setting.now in
    let is : commands.Report ≡ c.args.setting.now.command = search rules in
    let line = printed_line (codes "accepted") c.args.index tree in
    on_ok_weaker c.push_asked.result (λ (text, answers, more). (
      line ++ text,
      added_twice _ _ _ _ text c.in_ok-push_printed-in-Report.ensures more,
      λ row _. subst (λ (command : Command). Accepted command background c.args.index row tree (line ++ text)) is (text, refl, answers),
    )) c.push_asked.ensures

pub returns-in-Format : goal.returns-in-Format
returns-in-Format c =
    let tree = tree_of c.args.filterset.now.parsed in
    let background = background_of c.args.setting.now in
    let is : commands.Format ≡ c.args.setting.now.command = search rules in
    let line = printed_line (codes "formatted") c.args.index tree in
    on_ok_weaker c.push_printed-in-Format.result (λ added. (
      line,
      added,
      λ row accepted. subst (λ (command : Command). Accepted command background c.args.index row tree line) is
          (refl, c.printed_is_a_filterset.ensures row.text row.kind background.packages background.groups accepted),
    )) c.push_printed-in-Format.ensures
