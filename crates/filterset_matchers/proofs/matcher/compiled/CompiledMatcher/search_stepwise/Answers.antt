use Rattle.std.proofs.Common.{◌≡◌, ℕ, ◌<◌, get_or, is_some, sym, ◌∙◌, arith}
use Rattle.regex_hir.specs.{Find.find, Meaning.meaning}
use Rattle.filterset_matchers.proofs.CompiledLemmas.{HasMatch-of_compiled, stepwise_finds}
use Rattle.filterset_matchers.proofs.PatternLemmas.{are_bytes}
use Rattle.filterset_matchers.proofs.matcher.compiled.CompiledMatcher.search_stepwise.Goals as goal

pub returns-clause-found : goal.returns-clause-found
returns-clause-found c = λ pattern is.
    let compiled = c.args.self.now.compiled.now in
    let input = c.args.input.now in
    let bytes : (k : ℕ) → get_or input k 0 < 256 = λ k. omega (arith, c.type_inv.input k) in
    let has = HasMatch-of_compiled pattern compiled is input c.utf8.input bytes in
    let same : c.is_match.result ≡ is_some (find (meaning is.tree) input 0) =
    rw c.as_bytes-text.ensures.value at c.is_match.ensures.found ∙ stepwise_finds (meaning is.tree) compiled.dfa.nfa is.implements input (are_bytes input bytes) in
    (λ t. has.0 (sym same ∙ t), λ h. same ∙ has.1 h)
