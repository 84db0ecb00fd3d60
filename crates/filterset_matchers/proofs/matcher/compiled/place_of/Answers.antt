use Rattle.std.proofs.Common.{◌≡◌, ℕ, arith, refl, sym, subst}
use Rattle.regex_hir.specs.{Matches.IsMinLen, Meaning.meaning}
use Rattle.regex.specs.Patterns.{Re}
use Rattle.filterset_matchers.specs.Compiled.{HasLiteral}
use Rattle.filterset_matchers.proofs.matcher.compiled.place_of.Goals as goal

has_a_byte : (re : Re) (n : ℕ) → IsMinLen re n → ¬ (n ≡ 0) → IsMinLen re 1
unfolding IsMinLen
has_a_byte re n least some = λ text i j matches. omega (arith, least text i j matches, some)

pub returns-then-is_anchored_end : goal.returns-then-is_anchored_end
returns-then-is_anchored_end c = (c.if-is_anchored_end.ensures.anchored refl, has_a_byte _ _ c.min_len.ensures.bound c.if-min_len-eq0.false)

pub returns-in_ok-literal-in-Some : goal.returns-in_ok-literal-in-Some
returns-in_ok-literal-in-Some c = (
  subst (HasLiteral (meaning c.args.tree.now)) (sym c.in_ok-literal-in-Some.ensures.ok) c.in-Some.ensures,
  has_a_byte _ _ c.min_len.ensures.bound c.if-min_len-eq0.false,
)
