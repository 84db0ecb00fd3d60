-- Overrides as tests are asked about them, and why their filters pick a test or not.
use Rattle.std.proofs.Common.{◌≡◌, All, List, [], ◌∷◌, Option, Some, None, String, Global, ap, filter, map, refl, string_bytes, subst, sym}
use Rattle.std.specs.{Prelude.MatchOption, Prelude.cond, Prelude.is_some, Prelude.option_map, Borrow.Bor, List.AllZip}
use Rattle.std.proofs.lemmas.List.Elements.{All-cons, All-nil}
use Rattle.filterset_display.specs.Columns.{Text}
use Rattle.filterset_expression.specs.Meaning.{IsCompiled}
use Rattle.filterset_expression.specs.declared.{expression.CompiledExpr.CompiledExpr, query.TestQuery.TestQuery}
use Rattle.filterset_faults.specs.declared.span.SourceSpan.{SourceSpan}
use Rattle.filterset_grammar.specs.Tree.{Tree}
use Rattle.filterset_language.specs.Views.{tree_of}
use Rattle.filterset_listing.specs.{Explaining.IsExplanation, ExplanationText.explanation_text}
use Rattle.filterset_listing.specs.declared.explaining.{Explanation.Explanation, candidate.Candidate.TheVariants.Test}
use Rattle.filterset_listing.specs.declared.groups.GroupOverride.{GroupOverride}
use Rattle.filterset_overrides.specs.{Applying.IsCompiledOf, declared.asked.AskedOverride.AskedOverride}
use Rattle.nextest_filtering.specs.declared.filterset.Filterset.{Filterset}
use Rattle.filterset_answers.specs.Compiled.{IsAskedFor, IsCompiledText, IsFilterFor, IsOverrideFor, sets_group}
use Rattle.filterset_answers.specs.Overriding.{IsReason, IsReasonFor}
use Rattle.filterset_entries.specs.declared.setting.{OverrideEntry.OverrideEntry, Setting.Setting}
use Rattle.filterset_entries.specs.declared.text.TextEntry.{TextEntry}

-- what a text is compiled to is compiled from a tree
one_compiled : (setting : Setting) (made : Option (Bor CompiledExpr)) (text : Option TextEntry) → IsCompiledText setting text made
    → MatchOption made (Unit {0}) (λ expr. (tree : Tree SourceSpan) × IsCompiled setting.graph.now tree expr.now)
one_compiled setting None text is = tt
one_compiled setting (Some expr) None is = absurd cc
one_compiled setting (Some expr) (Some text) (tree, own, same, spelled, compiled) =
    let e : own ≡ expr = cc in (tree, subst (λ (x : Bor CompiledExpr). IsCompiled setting.graph.now tree x.now) e compiled)

-- the filters of overrides are compiled from trees
pub asked_compiled : (setting : Setting) (entries : List OverrideEntry) (asked : List AskedOverride) → AllZip (IsAskedFor setting) entries asked
    → All (IsCompiledOf setting.graph.now) asked
asked_compiled setting [] [] all = All-nil (IsCompiledOf setting.graph.now)
asked_compiled setting [] (a ∷ asked) all = absurd all
asked_compiled setting (entry ∷ entries) [] all = absurd all
asked_compiled setting (entry ∷ entries) (a ∷ asked) all =
    All-cons (IsCompiledOf setting.graph.now) a asked (one_compiled setting a.filter entry.filter all.0.4) (asked_compiled setting entries asked all.1)

-- one more override that sets a group, if it does
group_of : (setting : Setting) (entry : OverrideEntry) (asked : AskedOverride) → IsAskedFor setting entry asked
    → (entries : List OverrideEntry) (groups : List GroupOverride) → AllZip (IsOverrideFor setting) entries groups
    → (group : Option (Bor Text)) → entry.group ≡ group
    → (all : List GroupOverride) × AllZip (IsOverrideFor setting) (cond (is_some group) (entry ∷ entries) entries) all
group_of setting entry asked is entries groups are None none = (groups, are)
group_of setting entry asked is entries groups are (Some group) some =
    let over : GroupOverride = record { path = entry.path; filter = asked.filter; for_target = entry.for_target; for_host = entry.for_host; group = group } in
    (over ∷ groups, ((refl, ap (option_map (λ (g : Bor Text). g.now)) some, refl, refl, is.4), are))

-- the overrides that set a group
pub groups_of : (setting : Setting) (entries : List OverrideEntry) (asked : List AskedOverride) → AllZip (IsAskedFor setting) entries asked
    → (groups : List GroupOverride) × AllZip (IsOverrideFor setting) (filter sets_group entries) groups
groups_of setting [] [] all = ([], tt)
groups_of setting [] (a ∷ asked) all = absurd all
groups_of setting (entry ∷ entries) [] all = absurd all
groups_of setting (entry ∷ entries) (a ∷ asked) all =
    let rest = groups_of setting entries asked all.1 in
    group_of setting entry a all.0 (filter sets_group entries) rest.0 rest.1 entry.group refl

-- the reason of an override with a filter
pub filter_reason : (query : TestQuery) (setting : Setting) (default : CompiledExpr) (made : Option Filterset) (filterset : Filterset) (reason : Text) → made ≡ Some filterset
    → (IsCompiled setting.graph.now (tree_of filterset.parsed) filterset.compiled → (explanation : Explanation)
    × IsExplanation (Test query) [] setting.graph.now default (tree_of filterset.parsed) explanation × (reason ≡ explanation_text explanation))
    → IsReasonFor query setting default made reason
filter_reason query setting default made filterset reason some explains entry is_filter =
    let (text, e, is) = subst (IsFilterFor setting.graph.now setting.groups.now entry) some is_filter in
    let (explanation, own, written) = explains is.compiled in
    subst (λ (t : Option TextEntry). IsReason query setting default t reason) (sym e) (tree_of filterset.parsed, explanation, is.accepted, own, written)

-- the reason of an override without one
pub no_reason : (query : TestQuery) (setting : Setting) (default : CompiledExpr) (made : Option Filterset) (reason : Text) → made ≡ None → reason ≡ []
    → IsReasonFor query setting default made reason
no_reason query setting default made reason none empty entry is_filter =
    let missing = subst (IsFilterFor setting.graph.now setting.groups.now entry) none is_filter in
    subst (λ (t : Option TextEntry). IsReason query setting default t reason) (sym missing) empty

-- the reasons of the overrides
pub reasons_for : (query : TestQuery) (setting : Setting) (default : CompiledExpr) (entries : List OverrideEntry) (filters : List (Option Filterset)) (reasons : List (String Global))
    → AllZip (IsFilterFor setting.graph.now setting.groups.now) entries filters
    → AllZip (λ made reason. IsReasonFor query setting default made (string_bytes reason)) filters reasons
    → AllZip (λ (entry : OverrideEntry). IsReason query setting default entry.filter) entries (map (λ s. string_bytes s) reasons)
reasons_for query setting default [] [] [] are of_filters = tt
reasons_for query setting default [] [] (r ∷ reasons) are of_filters = absurd of_filters
reasons_for query setting default [] (f ∷ filters) reasons are of_filters = absurd are
reasons_for query setting default (entry ∷ entries) [] reasons are of_filters = absurd are
reasons_for query setting default (entry ∷ entries) (f ∷ filters) [] are of_filters = absurd of_filters
reasons_for query setting default (entry ∷ entries) (f ∷ filters) (r ∷ reasons) are of_filters =
    (of_filters.0 entry are.0, reasons_for query setting default entries filters reasons are.1 of_filters.1)
