use Rattle.std.proofs.Common.{◌∙◌, ◌++◌, ◌∷◌, [], ap, map, string_bytes}
use Rattle.std.proofs.lemmas.Iterator.{Consumers.YieldsList-end, Splits.YieldsList-from_lines}
use Rattle.std.proofs.lemmas.List.{flat_map_more, map-append}
use Rattle.filterset_overrides.specs.ExplainedText.{indented_line}
use Rattle.filterset_overrides.proofs.explaining.text.push_indented.Goals as goal

pub loop-line-preserved : goal.loop-line-preserved
loop-line-preserved c =
    let so_far = map (λ s. s.now) c.loop-line.yielded in
    rw (map-append (λ s. s.now) c.loop-line.yielded (c.in-Some.line ∷ []))
    (c.in_ok-writeln.ensures.bytes ∙ (ap (λ t. t ++ indented_line c.in-Some.line.now) c.loop-line.invariant
    ∙ flat_map_more indented_line (string_bytes c.args.output.now) so_far c.in-Some.line.now))

pub returns : goal.returns
returns c =
    let lines_left = YieldsList-from_lines {s = c.into_iter-line-iterator.result} c.args.text.now (cc) in
    let whole = YieldsList-end lines_left c.loop-line.yielded _ c.loop-line.yielded_by _ _ c.in-None.is c.next.ensures.steps in
    rw whole.0 at c.loop-line.invariant
