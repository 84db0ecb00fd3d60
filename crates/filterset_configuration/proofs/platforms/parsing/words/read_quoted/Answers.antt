use Rattle.std.proofs.{lemmas.Str.Pattern.split_parts, Common.lit<}
use Rattle.filterset_configuration.proofs.PlatformWords.{quoted_found, quoted_rest}
use Rattle.filterset_configuration.proofs.platforms.parsing.words.read_quoted.Goals as goal

pub returns-clause-found : goal.returns-clause-found
returns-clause-found c =
    quoted_found c.args.text.now c.in_ok-after.field-0.now _ c.in_ok-after.ensures.found
    (split_parts 34 _ _ c.split_once.ensures.cases (lit< tt))

pub returns-clause-place : goal.returns-clause-place
returns-clause-place c =
    quoted_rest c.args.text.now c.in_ok-after.field-0.now _ c.in_ok-after.ensures.place
    (split_parts 34 _ _ c.split_once.ensures.cases (lit< tt))
