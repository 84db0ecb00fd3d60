use Rattle.filterset_texts.proofs.TokenTexts.{literal_fits}
use Rattle.filterset_texts.proofs.tokens.make_literal.Goals as goal

pub returns : goal.returns
returns c = literal_fits c.in_ok-vec.field-0 c.args.c c.in_ok-vec.ensures.items
