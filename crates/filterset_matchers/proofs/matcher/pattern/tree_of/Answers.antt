use Rattle.std.specs.Str.{chars}
use Rattle.regex_syntax.specs.Grammar.{read}
use Rattle.regex.specs.Patterns.{Reads, default_config}
use Rattle.filterset_matchers.proofs.PatternLemmas.{IsErrorFor-of_groups, IsErrorFor-of_parser, IsPattern-of_reads, IsSomeAnd-map}
use Rattle.filterset_matchers.proofs.TextParts.{HasTextParts-of_tree}
use Rattle.filterset_matchers.proofs.matcher.pattern.tree_of.Goals as goal

pub returns-in-Ok-try_from : goal.returns-in-Ok-try_from
unfolding Reads
returns-in-Ok-try_from c = record {
  read = record {
    same = IsSomeAnd-map (read default_config (chars c.args.text.now)) (rw c.default.ensures at c.in-Ok.ensures.ok) (λ x h. (h.0, h.1));
    text = HasTextParts-of_tree _ (rw c.default.ensures at c.in-Ok.ensures.formed);
  };
  pattern = IsPattern-of_reads c.args.text.now _ _ (rw c.default.ensures at c.in-Ok.ensures.ok);
  refused = tt;
}

pub refusal_of-requires : goal.refusal_of-requires
refusal_of-requires c = IsErrorFor-of_groups c.args.text.now (IsPattern-of_reads c.args.text.now _ _ (rw c.default.ensures at c.in-Ok.ensures.ok))

pub refusal_of-requires-in-Err : goal.refusal_of-requires-in-Err
refusal_of-requires-in-Err c =
    IsErrorFor-of_parser c.args.text.now c.in-Err.error c.into.result (rw c.default.ensures at c.in-Err.ensures.err) c.into.ensures
