use Rattle.std.proofs.Common.{◌≡◌, map, take}
use Rattle.std.specs.List.{filter}
use Rattle.filterset_rewriting.specs.Tokens.{is_caret}
use Rattle.filterset_rewriting.proofs.tokens.carets.carets_of.Given as goal

-- the spans so far are those of the tokens so far that are operators `^`
abbrev pub invariant-loop-token : goal.invariant-loop-token
invariant-loop-token l = l.spans.items ≡ map (λ t. t.span) (filter (is_caret l.bytes) (take l.token-index l.token-items))
