use Rattle.std.proofs.{Common.string_bytes, lemmas.Str.IsUtf8-string_bytes}
use Rattle.filterset_texts.proofs.Expansions.{contains_made, equal_made, glob_made}
use Rattle.filterset_texts.proofs.expanding.sequences_of.Goals.{in-Equal+in_ok-sequences-in-Equal, in-Contains+in_ok-sequences-in-Contains, in-Glob+in_ok-sequences-in-Glob}
use Rattle.filterset_texts.proofs.expanding.sequences_of.Goals as goal

pub returns : goal.returns
returns c =
    let limit = c.args.limit in
    let few = rw c.count_matcher_sequences.ensures at c.if-count_matcher_sequences-limit.false in
    elim c.match-matcher.branch [
      | in-Equal+in_ok-sequences-in-Equal w ↦
          let value = w.in-Equal.value in
          let made = rw w.as_str.ensures.value at w.in_ok-sequences-in-Equal.ensures in
          rw (w.sequences-is, w.in-Equal.is)
          (equal_made w.in_ok-sequences-in-Equal.sequences.items (string_bytes value) w.in-Equal.implicit limit (IsUtf8-string_bytes value) made.matched made.count (rw w.in-Equal.is at few))
      | in-Contains+in_ok-sequences-in-Contains w ↦
          let value = w.in-Contains.value in
          let made = rw w.as_str-in-Contains.ensures.value at w.in_ok-sequences-in-Contains.ensures in
          rw (w.sequences-is, w.in-Contains.is)
          (contains_made w.in_ok-sequences-in-Contains.sequences.items (string_bytes value) w.in-Contains.implicit limit (IsUtf8-string_bytes value) made.matched made.count (rw w.in-Contains.is at few))
      | in-Glob+in_ok-sequences-in-Glob w ↦
          let own = w.in-Glob.glob in
          let made = rw w.tokens.ensures.tokens at w.in_ok-sequences-in-Glob.ensures in
          rw (w.sequences-is, w.in-Glob.is)
          (glob_made w.in_ok-sequences-in-Glob.sequences own.text own.tokens w.in-Glob.implicit limit made.matched made.count (rw w.in-Glob.is at few))
    ]
