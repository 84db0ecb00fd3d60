use Rattle.std.proofs.Common.{◌≡◌, ℕ, ◌+◌, true, List, [], ◌∷◌, ◌++◌, get_or, take, drop, sym, ap, subst, ◌∙◌, arith, length-drop, rules}
use Rattle.std.proofs.lemmas.List.{take_more, get_or-drop}
use Rattle.filterset_glob.specs.{Matching.Admits, Matching.Matches, Tokens.token_of, Tokens.tokens_of}
use Rattle.filterset_glob.proofs.Runs.{run_more, run_each}
use Rattle.filterset_glob.proofs.text.Text.count_admitted.Goals as goal

pub loop-at-preserved : goal.loop-at-preserved
loop-at-preserved c =
    let i = c.loop-at.invariant in
    let at = c.loop-at.at in
    let x = c.index-tokens-at.result in
    let tokens = c.args.tokens.now in
    let rest : List ℕ = drop c.args.position c.args.self.now in
    let char : ℕ = get_or c.args.self.now (c.args.position + at) 0 in
    let taken : c.is_admitted.result ≡ true = search rules in
    let admits : Admits (token_of x) char = c.is_admitted.ensures.0 taken in
    let more : take (at + 1) rest ≡ take at rest ++ char ∷ [] =
    take_more rest at 0 (omega (arith, length-drop c.args.position c.args.self.now)) ∙ ap (λ y. take at rest ++ y ∷ []) (get_or-drop c.args.position c.args.self.now at 0) in
    record {
      matched = subst (Matches (tokens_of (take (at + 1) tokens))) (sym more) (run_more tokens at x (take at rest) char (omega arith) c.index-tokens-at.is admits i.matched);
      one_each = run_each tokens at x char (omega arith) c.index-tokens-at.is admits i.one_each;
    }
