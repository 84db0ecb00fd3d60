use Rattle.std.proofs.lemmas.Str.Pattern.{strip_prefix_char}
use Rattle.filterset_configuration.proofs.PlatformWords.{after_sign, sign_rest, trim_rest}
use Rattle.filterset_configuration.proofs.platforms.parsing.words.after.Goals as goal

pub returns-clause-found : goal.returns-clause-found
returns-clause-found c =
    after_sign c.args.sign c.args.text.now c.trim_start.result.now _ c.trim_start.ensures.trim
    (strip_prefix_char c.args.sign _ _ c.strip_prefix.ensures.cases c.requires)

pub returns-clause-place : goal.returns-clause-place
returns-clause-place c =
    sign_rest c.args.sign c.args.text.now c.trim_start.result.now _ (trim_rest c.args.text.now c.trim_start.result.now c.trim_start.ensures.value)
    (strip_prefix_char c.args.sign _ _ c.strip_prefix.ensures.cases c.requires)
