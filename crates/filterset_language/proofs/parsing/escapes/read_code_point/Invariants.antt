use Rattle.std.proofs.Common.{◌≡◌, ◌≤◌, ◌<◌, ◌^◌, drop}
use Rattle.filterset_language.specs.Parsing.Escapes.{code_from}
use Rattle.filterset_language.proofs.parsing.escapes.read_code_point.Given as goal

abbrev pub invariant-loop-seen : goal.invariant-loop-seen
invariant-loop-seen l = record {
  same : code_from l.seen l.code (drop l.seen l.text) ≡ code_from 0 0 l.text;
  few : l.seen ≤ 6;
  small : l.code < 16 ^ l.seen;
}
