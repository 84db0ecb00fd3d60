use Rattle.std.proofs.Common.{ap, ◌≡◌, ◌∙◌, ◌<◌, ◌+◌, ◌*◌, ◌^◌, ◌⊎◌, true, false, List, Some, None, drop, length, map, string_bytes, subst, sym}
use Rattle.std.specs.List.{AllZip}
use Rattle.filterset_answers.specs.Picking.{compiled_of, parsed_of}
use Rattle.filterset_entries.specs.declared.text.Answer.{Answer}
use Rattle.filterset_deciding.specs.Deciding.{IsAlwaysMet, IsUnmetAt, leaves_asked, steps_asked}
use Rattle.filterset_deciding.specs.Demands.{HasUncompared, IsDoubtAbout}
use Rattle.filterset_deciding.specs.declared.{demand.Doubt.Doubt, witness.Witness.Witness}
use Rattle.filterset_deciding.specs.declared.deciding.Verdict.TheVariants as verdicts
use Rattle.filterset_expression.specs.{Contexts.default_of, Meaning.IsCompiled}
use Rattle.filterset_expression.specs.declared.{expression.CompiledExpr.CompiledExpr, query.TestQuery.TestQuery}
use Rattle.nextest_filtering.specs.declared.filterset.Filterset.{Filterset}
use Rattle.filterset_verdicts.specs.{ListedTests.AreTestsOf, VerdictForm.IsExplainedIn, VerdictText.ending_of}
use Rattle.filterset_verdicts.specs.Verdicts.{Decides, IsShown}
use Rattle.filterset_verdicts.proofs.VerdictLemmas.{both_ok}
use Rattle.filterset_verdicts.proofs.TreeLemmas.{first_and_others, others_whole, right_of}
use Rattle.filterset_verdicts.proofs.answering.decide_filtersets.Goals as goal

pub returns-in-Some : goal.returns-in-Some
returns-in-Some c =
    let setting = c.args.setting.now in
    let packages = setting.graph.now in
    let groups = setting.groups.now in
    let asked = c.args.asked.now in
    let question = asked.question in
    let filters = c.args.filtersets.now in
    let default = default_of c.args.context.now in
    let first = c.index-filtersets-0.result in
    let others = drop 1 filters in
    let exprs = c.in_ok-exprs.exprs.items in
    let witness = c.in-Some.witness in
    let at = sym c.index-filtersets-0.is in
    let whole = first_and_others filters first c.requires at in
    let shown = rw (c.as_slice-exprs.ensures.value, c.in-Some.is) at c.in_ok-witness.ensures in
    let Shown : Filterset → CompiledExpr → Type 0 = λ f d. (tests : List TestQuery) × AreTestsOf asked.suites.now tests
    × IsShown question (compiled_of f) d exprs groups tests (Some witness) in
    let Compiled : List Filterset → Type 0 = λ fs. AllZip (IsCompiled packages) (map parsed_of fs) (map compiled_of fs) in
    let Written : Answer → Type 0 = λ answer. Compiled others → IsExplainedIn c.args.form question true packages default (map parsed_of others) (verdicts.Fails witness) (string_bytes answer.text) in
    let Ends : Answer → Type 0 = λ answer. answer.ending ≡ ending_of (verdicts.Fails witness) in
    both_ok c.answer_verdict.result Written Ends _ (λ answer written ends. λ basis is are.
    let compiled = subst (λ fs. AllZip (IsCompiled packages) (map parsed_of fs) (map compiled_of fs)) whole are in
    let others_compiled = subst (AllZip (IsCompiled packages) (map parsed_of others)) (sym (c.in_ok-exprs.ensures ∙ ap (map compiled_of) (others_whole filters))) compiled.1 in
    let told = subst (Shown first) (sym is) (subst (λ f. Shown f default) at shown) in
    let explained = subst (λ (d : CompiledExpr). IsExplainedIn c.args.form question true packages d (map parsed_of others) (verdicts.Fails witness) (string_bytes answer.text)) (sym is) (written compiled.1) in
    subst (λ fs. Decides c.args.form asked setting basis (map parsed_of fs) answer.ending (string_bytes answer.text)) (sym whole)
    (compiled_of first, exprs, told.0, Some witness, compiled.0, others_compiled, told.1, told.2, (explained, ends)))
    (rw (others_whole filters) at c.answer_verdict.ensures.text) c.answer_verdict.ensures.ending

pub returns : goal.returns
returns c =
    let setting = c.args.setting.now in
    let packages = setting.graph.now in
    let groups = setting.groups.now in
    let asked = c.args.asked.now in
    let question = asked.question in
    let filters = c.args.filtersets.now in
    let default = default_of c.args.context.now in
    let first = c.index-filtersets-0.result in
    let others = drop 1 filters in
    let exprs = c.in_ok-exprs.exprs.items in
    let verdict = c.in_ok-verdict-in-None.verdict in
    let at = sym c.index-filtersets-0.is in
    let whole = first_and_others filters first c.requires at in
    let shown = rw (c.as_slice-exprs.ensures.value, c.in-None.is) at c.in_ok-witness.ensures in
    let Shown : Filterset → CompiledExpr → Type 0 = λ f d. (tests : List TestQuery) × AreTestsOf asked.suites.now tests
    × IsShown question (compiled_of f) d exprs groups tests None in
    let always = rw c.as_slice-exprs.ensures.value at c.in_ok-verdict-in-None.ensures.always in
    let fails = rw c.as_slice-exprs.ensures.value at c.in_ok-verdict-in-None.ensures.fails in
    let unknown = rw c.as_slice-exprs.ensures.value at c.in_ok-verdict-in-None.ensures.unknown in
    let stopped = rw c.as_slice-exprs.ensures.value at c.in_ok-verdict-in-None.ensures.stopped in
    let Always : Filterset → CompiledExpr → Type 0 = λ f d. IsAlwaysMet question (compiled_of f) d exprs in
    let Fails : Witness → Filterset → CompiledExpr → Type 0 = λ witness f d. IsUnmetAt question (compiled_of f) d exprs witness.test witness.picks.items in
    let Unknown : Doubt → Filterset → CompiledExpr → Type 0 = λ doubt f d. IsDoubtAbout (leaves_asked (compiled_of f) d exprs) doubt in
    let Stopped : Filterset → CompiledExpr → Type 0 = λ f d. (asked.budget < 2 ^ (length (leaves_asked (compiled_of f) d exprs) + 1) * length (steps_asked (compiled_of f) d exprs))
    ⊎ HasUncompared (leaves_asked (compiled_of f) d exprs) in
    let Compiled : List Filterset → Type 0 = λ fs. AllZip (IsCompiled packages) (map parsed_of fs) (map compiled_of fs) in
    let Written : Answer → Type 0 = λ answer. Compiled others → IsExplainedIn c.args.form question false packages default (map parsed_of others) verdict (string_bytes answer.text) in
    let Ends : Answer → Type 0 = λ answer. answer.ending ≡ ending_of verdict in
    both_ok c.answer_verdict-in-None.result Written Ends _ (λ answer written ends. λ basis is are.
    let compiled = subst (λ fs. AllZip (IsCompiled packages) (map parsed_of fs) (map compiled_of fs)) whole are in
    let others_compiled = subst (AllZip (IsCompiled packages) (map parsed_of others)) (sym (c.in_ok-exprs.ensures ∙ ap (map compiled_of) (others_whole filters))) compiled.1 in
    let told = subst (Shown first) (sym is) (subst (λ f. Shown f default) at shown) in
    let right = right_of basis.default question (compiled_of first) exprs asked.budget verdict
    (λ e. subst (Always first) (sym is) (subst (λ f. Always f default) at (always e)))
    (λ witness e. subst (Fails witness first) (sym is) (subst (λ f. Fails witness f default) at (fails witness e)))
    (λ doubt e. subst (Unknown doubt first) (sym is) (subst (λ f. Unknown doubt f default) at (unknown doubt e)))
    c.in_ok-verdict-in-None.ensures.decided
    (λ e. subst (Stopped first) (sym is) (subst (λ f. Stopped f default) at (stopped e))) in
    let explained = subst (λ (d : CompiledExpr). IsExplainedIn c.args.form question false packages d (map parsed_of others) verdict (string_bytes answer.text)) (sym is) (written compiled.1) in
    subst (λ fs. Decides c.args.form asked setting basis (map parsed_of fs) answer.ending (string_bytes answer.text)) (sym whole)
    (compiled_of first, exprs, told.0, None, compiled.0, others_compiled, told.1, told.2, (verdict, right, explained, ends)))
    (rw (others_whole filters) at c.answer_verdict-in-None.ensures.text) c.answer_verdict-in-None.ensures.ending
