use Rattle.std.proofs.Common.{ap, ◌∙◌}
use Rattle.filterset_language.specs.Parsing.Front.{close_len}
use Rattle.filterset_language.proofs.ClosingParenthesis.{close_boundary}
use Rattle.filterset_language.proofs.parsing.input.Input.advance_to_close.Goals as goal

pub advance-requires-clause-boundary : goal.advance-requires-clause-boundary
advance-requires-clause-boundary c = close_boundary _ _ (c.close_len.ensures.value ∙ ap close_len c.as_bytes.ensures.value)
