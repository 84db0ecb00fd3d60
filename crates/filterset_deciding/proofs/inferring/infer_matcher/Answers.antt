use Rattle.std.proofs.Common.{◌↔◌, ◌∙◌, false, not, sym, subst, IsTrue}
use Rattle.std.specs.Bool.{beq}
use Rattle.filterset_matchers.specs.{Matcher.MatchesName, Matchers.matcher_of}
use Rattle.filterset_deciding.proofs.Rules.{literal_refuted, only_known, same_matches}
use Rattle.filterset_deciding.proofs.inferring.infer_matcher.Goals as goal

pub returns-then-eq : goal.returns-then-eq
returns-then-eq c = λ text utf8 says.
    let same = same_matches (matcher_of c.args.matcher.now) (matcher_of c.args.other.now) text (sym c.eq.ensures ∙ c.if-eq.true) in
    let P : Type 0 → Type 0 = λ Q. IsTrue c.args.value ↔ Q in
    subst P same says

pub returns-in-Some-2 : goal.returns-in-Some-2
returns-in-Some-2 c = λ text utf8 says.
    let m = matcher_of c.args.matcher.now in
    let n = matcher_of c.args.other.now in
    let only = c.in-Some-2.text.now in
    let hit = c.in_ok-hit.hit in
    let alone = rw c.in-Some-2.is at c.in_ok-text-2.ensures.some in
    only_known (not (beq hit c.args.value)) false c.only_if.result (MatchesName n text) c.only_if.ensures
    (λ differ. literal_refuted m n only c.args.value hit alone c.in_ok-hit.ensures.matches differ text utf8 says)
