use Rattle.filterset_configuration.proofs.PlatformWords.{trim_rest, words_rest}
use Rattle.filterset_configuration.proofs.platforms.parsing.words.read_word.Goals as goal

pub returns-clause-place : goal.returns-clause-place
returns-clause-place c =
    words_rest c.args.text.now c.trim_start.result.now _ (trim_rest c.args.text.now c.trim_start.result.now c.trim_start.ensures.value) c.split_word.ensures.place
