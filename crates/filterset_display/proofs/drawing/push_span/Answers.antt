use Rattle.std.proofs.Common.{◌≡◌, ◌++◌, OnOk, Option, map, string_bytes, subst, sym}
use Rattle.std.proofs.lemmas.Result.{on_ok_weaker}
use Rattle.filterset_faults.specs.declared.span.SourceSpan.{SourceSpan}
use Rattle.filterset_display.specs.{Columns.Text, Cutting.line_row, Drawings.DrawnSpan}
use Rattle.filterset_display.proofs.MetLemmas.{span-drawn}
use Rattle.filterset_display.proofs.drawing.push_span.Goals as goal

pub returns : goal.returns
returns c =
    let source = c.args.source.now in
    let text = source.text.now in
    let old = string_bytes c.args.drawing.now in
    let new = string_bytes c.push_lines.new.drawing in
    subst (λ (span : Option SourceSpan). OnOk c.push_lines.result ((part : Text) × (new ≡ old ++ part) × DrawnSpan c.args.margin source.origin.now text span part)) (sym c.in-Some.is)
    (on_ok_weaker c.push_lines.result
    (span-drawn c.args.margin source.origin.now text c.in-Some.span c.location.result (map line_row c.met_lines.result.now)
    c.stretch-stretch.result.from c.stretch-stretch.result.to
    old (string_bytes c.push_location.new.drawing) (string_bytes c.push_bar.new.drawing) new
    c.location.ensures c.met_lines.ensures c.stretch-stretch.ensures.from c.stretch-stretch.ensures.to c.in_ok-push_location.ensures c.in_ok-push_bar.ensures)
    c.push_lines.ensures)
