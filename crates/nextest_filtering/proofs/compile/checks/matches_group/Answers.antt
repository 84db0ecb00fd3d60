use Rattle.std.proofs.Common.{◌↔◌, sym, ◌∙◌, subst}
use Rattle.std.specs.{Prelude.Any, Prelude.IsTrue, Prelude.codes, Prelude.string_bytes, HashSet.keys}
use Rattle.std.proofs.lemmas.{Bool.false≢true, Result.IfOk-weaker}
use Rattle.filterset_matchers.specs.{Matcher.Matcher, Matcher.MatchesName, Matchers.matcher_of}
use Rattle.nextest_filtering.specs.{Checks.MatchesSomeName, Groups.IsGroupName}
use Rattle.nextest_filtering.proofs.Groups.{custom_match}
use Rattle.nextest_filtering.specs.declared.compile.context.KnownGroups.TheVariants as groups
use Rattle.nextest_filtering.proofs.compile.checks.matches_group.Goals as goal

pub returns : goal.returns
returns c =
    let matcher = matcher_of c.args.matcher.now in
    let custom = c.in-Known.custom_groups in
    let missed : ¬ MatchesName matcher (codes "@global") = λ matched. false≢true (sym c.if-branch.false ∙ c.in_ok-matches.ensures.matches.1 (subst (λ (m : Matcher). MatchesName m (codes "@global")) (sym c.in_ok-ready.ensures) matched)) in
    let is = c.matches.ensures.same ∙ c.in_ok-ready.ensures in
    rw c.in-Known.is (IfOk-weaker c.matches_custom_group.result _ (λ matched. IsTrue matched ↔ MatchesSomeName matcher (IsGroupName (groups.Known custom)))
    (λ matched h. let any = subst (λ (m : Matcher). IsTrue matched ↔ Any (λ name. MatchesName m (string_bytes name)) (keys custom)) is h in
    let some = custom_match matcher custom missed in ((λ yes. some.0 (any.0 yes)), (λ so. any.1 (some.1 so)))) c.matches_custom_group.ensures)
