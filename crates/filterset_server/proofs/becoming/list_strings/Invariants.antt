use Rattle.std.proofs.Common.{◌≡◌, map, take, string_bytes}
use Rattle.filterset_server.proofs.BecomingLemmas.{now_of}
use Rattle.filterset_server.proofs.becoming.list_strings.Given as goal

abbrev pub invariant-loop-string : goal.invariant-loop-string
invariant-loop-string l = map now_of l.texts.items ≡ map (λ s. string_bytes s) (take l.string-index l.strings)
