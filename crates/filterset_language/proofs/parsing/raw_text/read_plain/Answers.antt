use Rattle.std.proofs.Common.{ap, ◌∙◌}
use Rattle.filterset_language.specs.Parsing.RawTexts.{plain_len}
use Rattle.filterset_language.proofs.RawTexts.{plain_boundary}
use Rattle.filterset_language.proofs.parsing.raw_text.read_plain.Goals as goal

pub range-requires-clause-end_boundary : goal.range-requires-clause-end_boundary
range-requires-clause-end_boundary c = plain_boundary _ _ (c.plain_len-count.ensures.value ∙ ap plain_len c.as_bytes.ensures.value)

pub advance-requires-clause-boundary : goal.advance-requires-clause-boundary
advance-requires-clause-boundary c = plain_boundary _ _ (c.plain_len-count.ensures.value ∙ ap plain_len c.as_bytes.ensures.value)
