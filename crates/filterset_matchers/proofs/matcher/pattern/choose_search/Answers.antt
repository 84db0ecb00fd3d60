use Rattle.std.proofs.Common.{◌≡◌, Some, string_bytes, sym}
use Rattle.filterset_matchers.specs.Pattern.{plain_text}
use Rattle.filterset_matchers.proofs.PlainLemmas.{IsChoice-of_plain}
use Rattle.filterset_matchers.proofs.matcher.pattern.choose_search.Goals as goal

pub returns-in-Some-clause-searched : goal.returns-in-Some-clause-searched
returns-in-Some-clause-searched c =
    let is : plain_text c.args.text.now ≡ Some (string_bytes c.in-Some.plain) = sym (rw c.in-Some.is at c.in_ok-plain.ensures) in
    rw c.in_ok-list_alone.ensures (IsChoice-of_plain c.args.text.now (string_bytes c.in-Some.plain) c.utf8.text is)
