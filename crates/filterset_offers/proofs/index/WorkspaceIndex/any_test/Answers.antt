use Rattle.std.proofs.Common.{◌∙◌, ◌↔◌, Bor, List, ap, map, subst, sym}
use Rattle.std.specs.{Prelude.Any, Prelude.IsTrue, Str.Iter.HasSubslice}
use Rattle.std.proofs.lemmas.Result.{IfOk-weaker}
use Rattle.filterset_graph.specs.Packages.{Text}
use Rattle.filterset_matchers.specs.{Matcher.MatchesName, Matchers.matcher_of, declared.matcher.NameMatcher.NameMatcher}
use Rattle.filterset_offers.specs.{Something.tests_of, Workspaces.workspace_row}
use Rattle.filterset_offers.proofs.index.WorkspaceIndex.any_test.Goals as goal

pub returns-in-Contains : goal.returns-in-Contains
returns-in-Contains c =
    let texts = tests_of (workspace_row c.args.self.now.workspace) in
    let P : NameMatcher → Type 0 = λ matcher. IsTrue c.any_contains.result ↔ Any (MatchesName (matcher_of matcher)) texts in
    let Q : Text → Type 0 = λ text. IsTrue c.any_contains.result ↔ Any (λ name. HasSubslice name text) texts in
    subst P (sym c.in-Contains.is) (subst Q c.as_str-in-Contains.ensures.value c.any_contains.ensures)

pub returns-in_default : goal.returns-in_default
returns-in_default c =
    let matcher = matcher_of c.args.matcher.now in
    let names = ap (map (λ (n : Bor Text). n.now)) c.as_slice.ensures.value ∙ c.args.self.now.named in
    IfOk-weaker c.any_name.result _ _
    (λ any is. subst (λ (ts : List Text). IsTrue any ↔ Any (MatchesName matcher) ts) names is)
    c.any_name.ensures
