use Rattle.std.proofs.Common.{◌≡◌, map, string_bytes, take}
use Rattle.filterset_c.proofs.workspaces.names_of.Given as goal

-- the texts so far are copied
abbrev pub invariant-loop-text : goal.invariant-loop-text
invariant-loop-text l = map (λ s. string_bytes s) l.names.items ≡ map (λ t. t.bytes.now) (take l.text-index l.texts)
