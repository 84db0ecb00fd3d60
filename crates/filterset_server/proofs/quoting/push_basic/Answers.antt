use Rattle.std.proofs.Common.{ap, sym, ◌++◌, ◌∙◌, string_bytes}
use Rattle.std.specs.List.{flat_map}
use Rattle.std.proofs.lemmas.{Iterator.YieldsList-from_chars, Iterator.Consumers.YieldsList-end, List.map-id}
use Rattle.filterset_server.specs.Edits.{basic_char}
use Rattle.filterset_server.proofs.quoting.push_basic.Goals as goal

pub returns : goal.returns
returns c =
    let t = YieldsList-end (YieldsList-from_chars c.args.text.now c.utf8.text cc) c.loop-c.yielded _ c.loop-c.yielded_by _ _ c.in-None.is c.next.ensures.steps in
    c.loop-c.invariant ∙ ap (λ cs. string_bytes c.args.output.now ++ flat_map basic_char cs) (sym (map-id c.loop-c.yielded) ∙ t.0)
