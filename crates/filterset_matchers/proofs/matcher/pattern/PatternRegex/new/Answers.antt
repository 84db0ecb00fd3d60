use Rattle.std.proofs.Common.{◌≢◌, string_bytes}
use Rattle.filterset_matchers.specs.Pattern.{MayBeRejected}
use Rattle.filterset_matchers.specs.declared.matcher.pattern.PatternRefusal.{PatternRefusal, TheVariants.NotBuilt}
use Rattle.filterset_matchers.proofs.PatternLemmas.{IsPattern-of_searched, handed_on}
use Rattle.filterset_matchers.proofs.PlainLemmas.{not_plain}
use Rattle.filterset_matchers.proofs.matcher.pattern.PatternRegex.new.Goals as goal

pub returns-clause-read : goal.returns-clause-read
returns-clause-read c = IsPattern-of_searched _ c.in_ok-searched.searched (rw c.as_str.ensures.value at c.in_ok-searched.ensures.searched)

pub returns-in_err-searched-clause-plain : goal.returns-in_err-searched-clause-plain
returns-in_err-searched-clause-plain c = λ plain.
    let text = string_bytes c.args.pattern in
    let refused = c.in_err-searched.field-0.0 in
    handed_on c.from_residual.result refused (λ (e : PatternRefusal). e ≢ NotBuilt) c.from_residual.ensures.1 (λ is.
    let rejected : MayBeRejected text = rw c.as_str.ensures.value at (c.in_err-searched.ensures.refused is) in
    not_plain text (rw c.as_str.ensures.value at c.as_str.utf8) rejected plain)
