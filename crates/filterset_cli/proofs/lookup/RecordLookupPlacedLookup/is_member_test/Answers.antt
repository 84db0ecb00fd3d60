use Rattle.std.proofs.{Common.Option, Common.subst, Common.sym, lemmas.Bool.false≢true, lemmas.Result.IfOk-weaker}
use Rattle.std.specs.Prelude.{IsSomeAnd}
use Rattle.filterset_json.specs.Shape.{Text}
use Rattle.filterset_matchers.specs.{Matcher.MatchesName, Matchers.matcher_of}
use Rattle.filterset_cli.proofs.LookupLemmas.{recorded}
use Rattle.filterset_cli.proofs.lookup.RecordLookupPlacedLookup.is_member_test.Goals as goal

pub returns-in-Some : goal.returns-in-Some
returns-in-Some c =
    let same = recorded c.args.self.now.binaries.now c.args.test.now (matcher_of c.args.matcher.now) in
    let Has = λ (group : Option Text). IsSomeAnd group (MatchesName (matcher_of c.args.matcher.now)) in
    IfOk-weaker c.is_match.result _ _ (λ answer own. (λ yes. same.0 (subst Has c.in-Some.ensures (own.0 yes)), λ is. own.1 (subst Has (sym c.in-Some.ensures) (same.1 is)))) c.is_match.ensures.matches

pub returns-in-None : goal.returns-in-None
returns-in-None c =
    let same = recorded c.args.self.now.binaries.now c.args.test.now (matcher_of c.args.matcher.now) in
    let Has = λ (group : Option Text). IsSomeAnd group (MatchesName (matcher_of c.args.matcher.now)) in
    (λ yes. absurd (false≢true yes), λ is. absurd (subst Has (sym c.in-None.ensures) (same.1 is)))
