use Rattle.std.proofs.Common.{◌≡◌, ◌<◌, ℕ, length, slice_index, string_bytes, take}
use Rattle.filterset_cli.specs.Lines.{lines_of}
use Rattle.filterset_cli.proofs.listed.TestLines.new.Given as goal

-- the lines of the tests so far are written, and it is kept where each begins
abbrev pub invariant-loop-test : goal.invariant-loop-test
invariant-loop-test l = record {
  written : string_bytes l.text ≡ lines_of l.binary.id l.answer (take l.test-index l.binary.tests.items);
  counted : length l.starts.items ≡ l.test-index;
  placed : (k : ℕ) → k < l.test-index → slice_index l.starts.items k ≡ length (lines_of l.binary.id l.answer (take k l.binary.tests.items));
}
