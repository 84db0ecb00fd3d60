use Rattle.std.proofs.Common.{◌<◌, length, arith}
use Rattle.filterset_graph.proofs.Paths.{one_position, one_position_within, reached_from_one}
use Rattle.filterset_graph.proofs.Refused.{memory_apart}
use Rattle.filterset_graph.proofs.graph.PackageGraph.depends_on.Goals as goal

pub mark_alone-requires : goal.mark_alone-requires
mark_alone-requires c =
    let within : c.in-Some-Some.from < length c.args.self.now = one_position_within c.args.self.now c.args.a.now c.in-Some-Some.from c.in-Some-Some.ensures in
    let inside : c.in-Some-Some.from < length c.self.inside.packages.items = rw c.self.view_is within in
    omega (arith, inside, c.self.inside.packages.ok.0, c.len.ensures)

pub index-requires : goal.index-requires
index-requires c = omega (arith, one_position_within c.args.self.now c.args.b.now c.in-Some-Some.to c.in-Some-Some.ensures', c.in_ok-marks.ensures.len)

pub returns-in_err-starts-clause-unknown : goal.returns-in_err-starts-clause-unknown
returns-in_err-starts-clause-unknown c = grind (arith, memory_apart, one_position)

pub returns-in_err-marks-clause-unknown : goal.returns-in_err-marks-clause-unknown
returns-in_err-marks-clause-unknown c = grind (arith, memory_apart, one_position)

pub returns-clause-unknown : goal.returns-clause-unknown
returns-clause-unknown c =
    ((λ e known. cc), (λ no. absurd (no (one_position c.args.self.now c.args.a.now c.in-Some-Some.from c.in-Some-Some.ensures, one_position c.args.self.now c.args.b.now c.in-Some-Some.to c.in-Some-Some.ensures'))))

pub returns-clause-answer : goal.returns-clause-answer
returns-clause-answer c =
    let within : c.in-Some-Some.to < length c.args.self.now = one_position_within c.args.self.now c.args.b.now c.in-Some-Some.to c.in-Some-Some.ensures' in
    reached_from_one c.args.self.now c.args.a.now c.args.b.now c.in-Some-Some.from c.in-Some-Some.to c.in_ok-starts.starts.items c.in_ok-marks.marks c.index.result.now c.in-Some-Some.ensures c.in-Some-Some.ensures' c.in_ok-starts.ensures.alone (rw c.as_slice.ensures.value at c.in_ok-marks.ensures.exact) (omega (arith, within, c.in_ok-marks.ensures.len, c.in_ok-marks.marks.ok.0)) c.index.ensures

pub returns-clause-known : goal.returns-clause-known
returns-clause-known c = (one_position c.args.self.now c.args.a.now c.in-Some-Some.from c.in-Some-Some.ensures, one_position c.args.self.now c.args.b.now c.in-Some-Some.to c.in-Some-Some.ensures')
