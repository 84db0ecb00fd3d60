use Rattle.std.proofs.Common.{◌∷◌, ◌++◌, [], take, ap, arith, subst, string_bytes}
use Rattle.std.proofs.lemmas.List.{take_all}
use Rattle.filterset_glob.specs.Tokens.{tokens_of, token_of}
use Rattle.filterset_glob.proofs.Items.{take_item}
use Rattle.filterset_matchers.specs.Literals.{StandsInEach}
use Rattle.filterset_matchers.proofs.Literals.{run_grows, still_stands, none_ends, longer_stands}
use Rattle.filterset_matchers.proofs.matcher.glob.find_longest_literal.Goals as goal
use Rattle.filterset_matchers.proofs.matcher.glob.find_longest_literal.Goals.{in-Literal+in_ok-push-in-Literal, in_default}

pub loop-token-preserved : goal.loop-token-preserved
loop-token-preserved c =
    let before = c.loop-token.invariant in
    let first = take c.loop-token.token-index c.args.tokens.now in
    let token = c.token-item.result in
    rw (take_item c.args.tokens.now c.loop-token.token-index token c.loop-token-test.true c.token-item.is)
    (elim c.match-token.branch [
      | in-Literal+in_ok-push-in-Literal w ↦ record {
        ends = rw (w.run-is, w.in_ok-push-in-Literal.ensures.bytes) (run_grows first token w.in-Literal.own (string_bytes c.loop-token.run) (ap token_of w.in-Literal.is) before.ends);
        stands = rw w.longest-is (still_stands first token (string_bytes c.loop-token.longest) before.stands);
      }
      | in_default w ↦ record {
        ends = rw (w.run-is, w.end_run.ensures.begun) (none_ends (tokens_of (first ++ token ∷ [])));
        stands = rw w.longest-is (still_stands first token (string_bytes w.end_run.new.longest) (longer_stands (tokens_of first) (string_bytes c.loop-token.run) (string_bytes c.loop-token.longest) (string_bytes w.end_run.new.longest) before.ends before.stands w.end_run.ensures.kept));
      }
    ])

pub returns : goal.returns
returns c =
    let l = c.loop-token.invariant in
    let whole = take_all c.loop-token.token-index c.args.tokens.now (omega (arith, c.loop-token-test.false)) in
    let kept = longer_stands (tokens_of (take c.loop-token.token-index c.args.tokens.now)) (string_bytes c.loop-token.run) (string_bytes c.loop-token.longest) (string_bytes c.end_run-2.new.longest) l.ends l.stands c.end_run-2.ensures.kept in
    subst (λ ts. StandsInEach (tokens_of ts) (string_bytes c.end_run-2.new.longest)) whole kept
