use Rattle.std.proofs.Common.{◌≡◌, true, arith, ap, sym, ◌∙◌}
use Rattle.filterset_configuration.specs.PlatformGrammar.{word_len}
use Rattle.filterset_configuration.proofs.PlatformWords.{begins_word, boundary_at, rest_of_drop, word_len-some}
use Rattle.filterset_configuration.proofs.platforms.parsing.words.split_word.Goals as goal

pub range-requires-clause-end_boundary : goal.range-requires-clause-end_boundary
range-requires-clause-end_boundary c =
    boundary_at c.args.text.now _ c.utf8.text (c.word_len-count.ensures.value ∙ ap word_len c.as_bytes-2.ensures.value)

pub range_from-requires : goal.range_from-requires
range_from-requires c = λ some.
    boundary_at c.args.text.now _ c.utf8.text (c.word_len-count.ensures.value ∙ ap word_len c.as_bytes-2.ensures.value)

pub returns-clause-place : goal.returns-clause-place
returns-clause-place c = rw c.range_from.ensures.value (rest_of_drop c.word_len-count.result c.args.text.now)

pub returns-clause-shorter : goal.returns-clause-shorter
returns-clause-shorter c =
    let some = word_len-some c.args.text.now (rw c.as_bytes.ensures.value at (sym c.begins_word.ensures ∙ c.if-not-begins_word.false)) in
    let count : c.word_len-count.result ≡ word_len c.args.text.now = c.word_len-count.ensures.value ∙ ap word_len c.as_bytes-2.ensures.value in
    omega (arith, c.range_from.ensures.len)
