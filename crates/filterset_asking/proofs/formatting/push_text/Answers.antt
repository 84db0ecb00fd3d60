use Rattle.std.proofs.Common.{rules, ◌≡◌, ◌++◌, [], codes, inl, inr, map, refl, sym, string_bytes, subst}
use Rattle.std.proofs.lemmas.List.{append-nil}
use Rattle.filterset_display.specs.Remarks.{remark_row}
use Rattle.filterset_json.specs.Pieces.{no_pieces}
use Rattle.filterset_grammar.specs.Printing.{printed}
use Rattle.filterset_language.specs.Views.{tree_of}
use Rattle.filterset_rewriting.specs.Reading.{IsRead, IsUnreadFor}
use Rattle.filterset_asking.specs.Formatted.{IsRewritten}
use Rattle.filterset_asking.proofs.FormattingLemmas.{unread_some}
use Rattle.filterset_entries.specs.{Checked.all_remarks, Checked.text_row, Forms.FaultPieces}
use Rattle.filterset_asking.proofs.formatting.push_text.Goals as goal

pub returns-in_ok-writeln-in-Ok : goal.returns-in_ok-writeln-in-Ok
returns-in_ok-writeln-in-Ok c =
    let e = tree_of c.in-Ok.tree in
    let d = tree_of c.in_ok-rewritten-in-Ok.rewritten in
    let line = printed d ++ codes "\n" in
    let reads : IsRead c.args.entry.now.text.now e = search rules in
    let written : string_bytes c.writeln.new.self ≡ string_bytes c.args.written.now.lines ++ line = search rules in
    let is : IsRewritten c.args.rewriting e d = c.in_ok-rewritten-in-Ok.ensures in
    (line, [], written, sym (append-nil _), (e, d, reads, is, refl), ([], inl (e, reads, refl), refl, no_pieces))

pub returns-in_ok-push_faults-in-Err : goal.returns-in_ok-push_faults-in-Err
returns-in_ok-push_faults-in-Err c =
    let text = c.args.entry.now.text.now in
    let faults = c.in-Err.refusal in
    let wrote = c.in_ok-push_faults-in-Err.ensures in
    let unread : IsUnreadFor text faults = search rules in
    let is : map remark_row c.as_slice-remarks.result.now ≡ all_remarks faults = search rules in
    let pieces = subst (λ remarks. FaultPieces c.args.form (text_row c.args.entry.now) c.args.number remarks wrote.0) is wrote.2 in
    ([], wrote.0, sym (append-nil _), wrote.1, refl, (all_remarks faults, inr (faults, unread, refl), unread_some text faults unread, pieces))
