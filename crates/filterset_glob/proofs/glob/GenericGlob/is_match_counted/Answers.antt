use Rattle.std.proofs.Common.{Bool, false, length, ap, ◌∙◌, arith}
use Rattle.std.proofs.lemmas.{Bool.false≢true, List.length-replicate, Str.chars-IsAscii}
use Rattle.filterset_glob.proofs.Passing.{answers}
use Rattle.filterset_glob.proofs.glob.GenericGlob.is_match_counted.Goals as goal

pub returns-then-rejects_end-clause-answer : goal.returns-then-rejects_end-clause-answer
returns-then-rejects_end-clause-answer c = (
  λ t. absurd (false≢true t),
  λ m. absurd (c.rejects_end.ensures c.if-rejects_end.true (rw c.tokens-tokens.ensures.tokens m)),
)

pub holds-requires : goal.holds-requires
holds-requires c = omega (arith, c.in_ok-pass_tokens.ensures.length, ap length c.in_ok-positions.ensures.start, length-replicate {A = Bool} c.len-last.result false)

pub returns-clause-answer : goal.returns-clause-answer
returns-clause-answer c =
    rw (c.in_ok-text.ensures.characters, c.tokens-tokens.ensures.tokens) at (answers c.in_ok-text.text c.in_ok-positions.positions c.pass_tokens.new.positions c.holds.result (rw c.len-last.ensures.length at c.in_ok-positions.ensures.start) (rw c.len-last.ensures.length at c.holds.ensures) c.in_ok-pass_tokens.ensures.moved)

pub returns-clause-steps : goal.returns-clause-steps
returns-clause-steps c = rw (c.in_ok-text.ensures.characters, c.tokens-tokens.ensures.tokens) at c.pass_tokens.ensures.steps

pub returns-in_err-pass_tokens-clause-steps : goal.returns-in_err-pass_tokens-clause-steps
returns-in_err-pass_tokens-clause-steps c = rw (c.in_ok-text.ensures.characters, c.tokens-tokens.ensures.tokens) at c.pass_tokens.ensures.steps

pub returns-in_err-positions-clause-no_memory : goal.returns-in_err-positions-clause-no_memory
returns-in_err-positions-clause-no_memory c ascii short =
    let no = c.in_err-positions.ensures.no_memory (omega (arith, c.len-last.ensures.length, ap length (c.in_ok-text.ensures.characters ∙ chars-IsAscii c.args.s.now ascii), short)) in absurd cc

pub returns-in_err-pass_tokens-clause-no_memory : goal.returns-in_err-pass_tokens-clause-no_memory
returns-in_err-pass_tokens-clause-no_memory c ascii short =
    let no = c.in_err-pass_tokens.ensures.no_memory (omega (arith, ap length (c.in_ok-text.ensures.characters ∙ chars-IsAscii c.args.s.now ascii), short)) in absurd cc
