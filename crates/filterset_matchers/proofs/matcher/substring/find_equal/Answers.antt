use Rattle.std.proofs.Common.{◌≡◌, take, get_or, sym, ◌∙◌, arith}
use Rattle.std.proofs.lemmas.List.{get_or-take, length-take}
use Rattle.filterset_matchers.proofs.Substrings.{bit_of_equal}
use Rattle.filterset_matchers.proofs.matcher.substring.find_equal.Goals as goal

pub returns : goal.returns
returns c k small =
    let bytes = c.args.bytes.now in
    let b = bit_of_equal (take 16 bytes) c.args.byte k (omega (arith, length-take 16 bytes)) small in
    let same : get_or (take 16 bytes) k 0 ≡ get_or bytes k 0 = get_or-take 16 bytes k 0 small in
    (λ h. sym same ∙ b.0 h, λ h. b.1 (same ∙ h))
