use Rattle.std.proofs.Common.{refl, sym, true≢false}
use Rattle.filterset_matchers.proofs.PatternLemmas.{IsPattern-of_reads, unread}
use Rattle.filterset_matchers.proofs.matcher.pattern.PatternRegex.is_pattern.Goals as goal

pub returns-in-Ok : goal.returns-in-Ok
returns-in-Ok c = (λ t. IsPattern-of_reads c.args.text.now _ _ (rw c.default.ensures at c.in-Ok.ensures.ok), λ reads. refl)

pub returns-in_default : goal.returns-in_default
returns-in_default c = (
  λ t. absurd (true≢false (sym t)),
  λ reads. absurd (unread c.args.text.now _ (rw c.default.ensures at c.in-Err.ensures.err) c.in_default.not-OutOfMemory reads),
)
