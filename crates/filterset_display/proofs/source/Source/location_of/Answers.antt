use Rattle.std.proofs.Common.{◌+◌, [], refl, ap}
use Rattle.filterset_display.specs.declared.line.Line.{Line}
use Rattle.filterset_display.proofs.MetLemmas.{met-some, stands}
use Rattle.filterset_display.proofs.source.Source.location_of.Goals as goal

-- what an index past the end reads
no_line : Line
no_line = record { number = 0; start = 0; text = record { ref_ptr = (0, 0); now = [] } }

pub bounds-met_lines-0 : goal.bounds-met_lines-0
bounds-met_lines-0 c = met-some c.args.self.now.text.now c.met_lines.result.now c.args.at c.met_lines.ensures c.requires

pub returns : goal.returns
unfolding no_line
returns c =
    stands c.args.self.now.text.now c.met_lines.result.now c.args.at c.args.offset no_line _ c.met_lines.ensures c.requires refl (ap (λ n. n + 1) c.column.ensures.value)
