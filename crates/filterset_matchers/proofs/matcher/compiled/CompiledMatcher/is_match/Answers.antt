use Rattle.std.proofs.Common.{true≢false, sym, ◌∙◌, arith, subst}
use Rattle.std.specs.Str.Iter.{HasSubslice}
use Rattle.filterset_matchers.proofs.PatternLemmas.{HasMatch-of_tree}
use Rattle.filterset_matchers.proofs.matcher.compiled.CompiledMatcher.is_match.Goals as goal

pub returns-then-not-contains-clause-found : goal.returns-then-not-contains-clause-found
returns-then-not-contains-clause-found c = λ pattern is. (
  λ t. absurd (true≢false (sym t)),
  λ has.
      let (i, j, begins, matches) = (HasMatch-of_tree pattern is.tree is.read c.args.input.now (λ k. omega (arith, c.type_inv.input k))).0 has in
      let stands = (rw c.in-Literal.is at is.place).0 c.args.input.now i j matches in
      absurd (true≢false (sym (c.contains.ensures.1 (subst (HasSubslice c.args.input.now) (sym c.as_str.ensures.value) stands)) ∙ c.if-not-contains.true)),
)
