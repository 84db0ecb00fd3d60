use Rattle.std.proofs.Common.{ℕ, ◌<◌, get_or, arith}
use Rattle.regex_hir.specs.Meaning.{meaning}
use Rattle.filterset_matchers.proofs.CompiledLemmas.{told_at_start, told_forward, told_from_end, told_of_pattern}
use Rattle.filterset_matchers.proofs.PatternLemmas.{are_bytes}
use Rattle.filterset_matchers.proofs.matcher.compiled.CompiledMatcher.walk.Goals as goal

pub returns-in-End-Backward-clause-found : goal.returns-in-End-Backward-clause-found
returns-in-End-Backward-clause-found c =
    let compiled = c.args.self.now.compiled.now in
    let input = c.args.input.now in
    let bytes : (k : ℕ) → get_or input k 0 < 256 = λ k. omega (arith, c.type_inv.input k) in
    rw c.answer_of_start.ensures (told_of_pattern compiled input c.utf8.input bytes _ (λ pattern is.
    told_from_end (meaning is.tree) compiled.dfa.nfa is.implements input (are_bytes input bytes) is.paths
    (rw c.in-End-Backward.is-0 at is.place).0 c.find_start.result (rw c.as_bytes-text.ensures.value at c.find_start.ensures.least)))

pub returns-in-Start-Forward-clause-found : goal.returns-in-Start-Forward-clause-found
returns-in-Start-Forward-clause-found c =
    let compiled = c.args.self.now.compiled.now in
    let input = c.args.input.now in
    let bytes : (k : ℕ) → get_or input k 0 < 256 = λ k. omega (arith, c.type_inv.input k) in
    rw c.answer_of_end.ensures (told_of_pattern compiled input c.utf8.input bytes _ (λ pattern is.
    told_at_start (meaning is.tree) compiled.dfa.nfa is.implements input (are_bytes input bytes)
    (rw c.in-Start-Forward.is-0 at is.place) c.find_end.result (rw c.as_bytes-text.ensures.value at c.find_end.ensures.end)))

pub returns-in-Literal-Forward-clause-found : goal.returns-in-Literal-Forward-clause-found
returns-in-Literal-Forward-clause-found c =
    let compiled = c.args.self.now.compiled.now in
    let input = c.args.input.now in
    let bytes : (k : ℕ) → get_or input k 0 < 256 = λ k. omega (arith, c.type_inv.input k) in
    rw c.answer_of_end-in-Literal-Forward.ensures (told_of_pattern compiled input c.utf8.input bytes _ (λ pattern is.
    told_forward (meaning is.tree) compiled.dfa.nfa is.implements input (are_bytes input bytes)
    c.find_end-in-Literal-Forward.result (rw c.as_bytes-text.ensures.value at c.find_end-in-Literal-Forward.ensures.end)))
