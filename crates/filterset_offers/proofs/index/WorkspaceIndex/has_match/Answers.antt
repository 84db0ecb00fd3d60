use Rattle.std.proofs.{Common.◌↔◌, Common.Bool, Common.Result, Common.sym, Common.subst, lemmas.Result.IfOk-weaker}
use Rattle.std.specs.{Prelude.Any, Prelude.IfOk, Prelude.IsTrue, declared.alloc.AllocError.AllocError}
use Rattle.filterset_faults.specs.declared.span.SourceSpan.{SourceSpan}
use Rattle.filterset_language.specs.{Views.leaf_of, declared.tree.ParsedLeaf.ParsedLeaf}
use Rattle.filterset_matchers.specs.Matchers.{matcher_of}
use Rattle.filterset_offers.specs.{Matched.PicksPackage, Something.MatchesSomething}
use Rattle.filterset_offers.specs.Workspaces.{WorkspaceRow, workspace_row}
use Rattle.filterset_offers.specs.declared.packages.Reach.TheVariants.{Alone, Dependencies, Dependents}
use Rattle.filterset_offers.proofs.index.WorkspaceIndex.has_match.Goals as goal

-- the answer is right for the predicate
abbrev Says : WorkspaceRow → Result Bool AllocError → ParsedLeaf SourceSpan → Type 0
Says w answer leaf = IfOk answer (λ some. IsTrue some ↔ MatchesSomething w (leaf_of leaf))

pub returns-in-Package : goal.returns-in-Package
returns-in-Package c =
    let w = workspace_row c.args.self.now.workspace in
    let picks = PicksPackage w.packages Alone (matcher_of c.in-Package.matcher) in
    subst (Says w c.any_picked.result) (sym c.in-Package.is)
    (IfOk-weaker c.any_picked.result _ (λ some. IsTrue some ↔ Any picks w.packages) (λ some is. is Alone) c.any_picked.ensures)

pub returns-in-Deps : goal.returns-in-Deps
returns-in-Deps c =
    let w = workspace_row c.args.self.now.workspace in
    let picks = PicksPackage w.packages Dependencies (matcher_of c.in-Deps.matcher) in
    subst (Says w c.any_picked-in-Deps.result) (sym c.in-Deps.is)
    (IfOk-weaker c.any_picked-in-Deps.result _ (λ some. IsTrue some ↔ Any picks w.packages) (λ some is. is Dependencies) c.any_picked-in-Deps.ensures)

pub returns-in-Rdeps : goal.returns-in-Rdeps
returns-in-Rdeps c =
    let w = workspace_row c.args.self.now.workspace in
    let picks = PicksPackage w.packages Dependents (matcher_of c.in-Rdeps.matcher) in
    subst (Says w c.any_picked-in-Rdeps.result) (sym c.in-Rdeps.is)
    (IfOk-weaker c.any_picked-in-Rdeps.result _ (λ some. IsTrue some ↔ Any picks w.packages) (λ some is. is Dependents) c.any_picked-in-Rdeps.ensures)

pub returns-in-Kind : goal.returns-in-Kind
returns-in-Kind c = subst (Says (workspace_row c.args.self.now.workspace) c.any_suite.result) (sym c.in-Kind.is) c.any_suite.ensures

pub returns-in-Binary : goal.returns-in-Binary
returns-in-Binary c = subst (Says (workspace_row c.args.self.now.workspace) c.any_suite-in-Binary.result) (sym c.in-Binary.is) c.any_suite-in-Binary.ensures

pub returns-in-BinaryId : goal.returns-in-BinaryId
returns-in-BinaryId c = subst (Says (workspace_row c.args.self.now.workspace) c.any_suite-in-BinaryId.result) (sym c.in-BinaryId.is) c.any_suite-in-BinaryId.ensures

pub returns-in-Test : goal.returns-in-Test
returns-in-Test c = subst (Says (workspace_row c.args.self.now.workspace) c.any_test.result) (sym c.in-Test.is) c.any_test.ensures

pub returns-in-Platform : goal.returns-in-Platform
returns-in-Platform c =
    let w = workspace_row c.args.self.now.workspace in
    let P : ParsedLeaf SourceSpan → Type 0 = λ leaf. IsTrue c.any_built_for.result ↔ MatchesSomething w (leaf_of leaf) in
    subst P (sym c.in-Platform.is) c.any_built_for.ensures
