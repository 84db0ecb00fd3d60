use Rattle.std.proofs.Common.{rules, arith, ◌≡◌, ◌<◌, ◌∙◌, ◌++◌, ap, append_assoc, get_or, length, string_bytes, sym, take}
use Rattle.std.specs.List.{flat_map}
use Rattle.std.proofs.lemmas.List.{take_all}
use Rattle.filterset_display.specs.Columns.{Text}
use Rattle.filterset_verdicts.specs.VerdictText.{demand_line}
use Rattle.filterset_deciding.proofs.Parts.{flat_map_more}
use Rattle.filterset_verdicts.proofs.text.doubt_text.Goals as goal

pub loop-demand-preserved : goal.loop-demand-preserved
loop-demand-preserved c =
    let doubt = c.args.doubt.now in
    let demands = doubt.demands.items in
    let i = c.loop-demand.demand-index in
    let d = c.demand-item.result in
    let start = string_bytes c.push_str.new.self in
    let line = demand_line doubt.field in
    let lt : i < length demands = omega (arith, c.loop-demand-test.true) in
    let at : get_or demands i d ≡ d = search (rules, c.demand-item.is) in
    let wrote : string_bytes c.writeln.new.self ≡ string_bytes c.loop-demand.text ++ line d = search rules in
    wrote ∙ ap (λ (z : Text). z ++ line d) c.loop-demand.invariant ∙ append_assoc start (flat_map line (take i demands)) (line d)
    ∙ ap (λ (z : Text). start ++ z) (sym (flat_map_more line demands i d lt at))
