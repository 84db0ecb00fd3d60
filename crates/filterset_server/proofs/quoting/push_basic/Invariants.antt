use Rattle.std.proofs.Common.{◌≡◌, ◌++◌, string_bytes}
use Rattle.std.specs.List.{flat_map}
use Rattle.filterset_server.specs.Edits.{basic_char}
use Rattle.filterset_server.proofs.quoting.push_basic.Given as goal

-- the characters so far were written
abbrev pub invariant-loop-c : goal.invariant-loop-c
invariant-loop-c l = string_bytes l.output ≡ string_bytes l.initial.output ++ flat_map basic_char l.yielded
