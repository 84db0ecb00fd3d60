use Rattle.std.proofs.Common.{◌≡◌, ◌++◌, drop, string_bytes}
use denote.Text.{Utf8}
use denote.Shadow.{shadow}
use Rattle.filterset_configuration.specs.Numbers.{AreApart, numbered, numbered_from}
use Rattle.filterset_configuration.proofs.numbering.numbered.Given as goal

-- what was written, and what is still to be written, make the file with numbers
abbrev pub invariant-loop-number : goal.invariant-loop-number
invariant-loop-number l = record {
  utf8 : shadow (Utf8 l.rest);
  made : string_bytes l.output ++ numbered_from l.at l.number-counter l.rest (drop l.number-counter l.stretches) ≡ numbered l.fn.file l.stretches;
  apart : AreApart l.at (drop l.number-counter l.stretches) → AreApart 0 l.stretches;
}
