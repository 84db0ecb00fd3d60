use Rattle.std.proofs.Common.{arith, ◌≡◌, ◌≤◌, ◌∙◌, ℕ, get_or, length, take}
use Rattle.std.proofs.lemmas.List.{get_or_read}
use Rattle.filterset_cli.specs.{Lines.lines_of, declared.listed.TestLines.TestLines}
use Rattle.filterset_cli.proofs.ListedLemmas.{lines_between, lines_cut, lines_rise}
use Rattle.filterset_cli.proofs.listed.TestLines.between.Goals as goal

-- what is read of where lines begin
start_at : (lines : TestLines) (k x : ℕ) → k ≤ length lines.binary.now.tests.items → x ≡ get_or lines.starts.items k x
    → x ≡ length (lines_of lines.binary.now.id lines.answer (take k lines.binary.now.tests.items))
start_at lines k x within read = get_or_read lines.starts.items k x (omega (arith, lines.counted, within)) read 0 ∙ lines.placed k within

pub range-requires-clause-start_le_end : goal.range-requires-clause-start_le_end
range-requires-clause-start_le_end c =
    let own = c.args.self.now in
    let start = start_at own c.args.from c.index.result.now (omega (arith, c.requires.ordered, c.requires.within)) c.index.ensures in
    let end = start_at own c.args.to c.index-2.result.now c.requires.within c.index-2.ensures in
    omega (arith, start, end, lines_rise own.binary.now.id own.answer own.binary.now.tests.items c.args.from c.args.to c.requires.ordered)

pub range-requires-clause-start_boundary : goal.range-requires-clause-start_boundary
range-requires-clause-start_boundary c = λ some.
    let own = c.args.self.now in
    let within : c.args.from ≤ length own.binary.now.tests.items = omega (arith, c.requires.ordered, c.requires.within) in
    lines_cut own.binary.now.id own.answer own.binary.now.tests.items c.deref.result.now c.args.from c.index.result.now c.deref.utf8 within (c.deref.ensures ∙ own.written) (start_at own c.args.from c.index.result.now within c.index.ensures)

pub range-requires-clause-end_boundary : goal.range-requires-clause-end_boundary
range-requires-clause-end_boundary c =
    let own = c.args.self.now in
    lines_cut own.binary.now.id own.answer own.binary.now.tests.items c.deref.result.now c.args.to c.index-2.result.now c.deref.utf8 c.requires.within (c.deref.ensures ∙ own.written) (start_at own c.args.to c.index-2.result.now c.requires.within c.index-2.ensures)

pub returns : goal.returns
returns c =
    let own = c.args.self.now in
    let within : c.args.from ≤ length own.binary.now.tests.items = omega (arith, c.requires.ordered, c.requires.within) in
    c.range.ensures.value
    ∙ lines_between own.binary.now.id own.answer own.binary.now.tests.items c.deref.result.now c.args.from c.args.to c.index.result.now c.index-2.result.now c.requires.ordered (c.deref.ensures ∙ own.written)
    (start_at own c.args.from c.index.result.now within c.index.ensures) (start_at own c.args.to c.index-2.result.now c.requires.within c.index-2.ensures)
