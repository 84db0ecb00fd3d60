-- Filters of overrides, as expressions and as trees.
use Rattle.std.proofs.Common.{◌≡◌, ◌↔◌, Bool, Bor, IsTrue, List, Option, Some, None, refl, sym, subst, unwrap_or}
use Rattle.std.specs.Prelude.{MatchOption}
use Rattle.filterset_faults.specs.declared.span.SourceSpan.{SourceSpan}
use Rattle.filterset_graph.specs.declared.package.PackageMetadata.{PackageMetadata}
use Rattle.filterset_grammar.specs.Tree.{Tree}
use Rattle.filterset_expression.specs.Expression.{Holds, no_groups}
use Rattle.filterset_expression.specs.{FlatExpressions.IsFlat, Meaning.IsCompiled, Meaning.Meaning}
use Rattle.filterset_expression.specs.declared.{expression.CompiledExpr.CompiledExpr, flat.FlatExpr.FlatExpr}
use Rattle.filterset_expression.specs.declared.query.TestQuery.{TestQuery}
use Rattle.filterset_expression.proofs.Meanings.{compiled_means}
use Rattle.filterset_overrides.specs.Applying.{AppliesAs, FilterPicks, HasApplication, IsCompiledOf, platforms_of}
use Rattle.filterset_overrides.specs.{Asking.IsLaidOut, Asking.is_all, declared.applying.Application.Application}
use Rattle.filterset_overrides.specs.declared.applying.Application.TheVariants.{Applies, NotPicked, OtherPlatform, UnknownPlatform}
use Rattle.filterset_overrides.specs.declared.asked.AskedOverride.{AskedOverride}

-- a filter, or all tests
pub filter_is : (filter : Option (Bor CompiledExpr)) (all chosen : Bor CompiledExpr) → is_all all.now → chosen ≡ unwrap_or filter all
    → MatchOption filter (is_all chosen.now) (λ f. f.now ≡ chosen.now)
filter_is None all chosen is same = rw same is
filter_is (Some f) all chosen is same = rw same refl

-- the answer says of the test what the expression does
abbrev pub AnswersFor : FlatExpr → TestQuery → Bool → Type 0
AnswersFor flat query answer = (expr default : CompiledExpr) → IsFlat flat expr default → IsTrue answer ↔ Holds expr query default no_groups

-- all tests hold of each test
all_hold : (all default : CompiledExpr) (query : TestQuery) → is_all all → Holds all query default no_groups
all_hold all default query is = rw is tt

picks_by : {E : Type 0} (now : E → CompiledExpr) (packages : List PackageMetadata) (default : CompiledExpr) (flat : FlatExpr) (query : TestQuery) (answer : Bool) (filter : Option E)
    → MatchOption filter (Unit {0}) (λ e. (tree : Tree SourceSpan) × IsCompiled packages tree (now e))
    → ((expr : CompiledExpr) × MatchOption filter (is_all expr) (λ e. now e ≡ expr) × IsFlat flat expr default)
    → AnswersFor flat query answer
    → IsTrue answer ↔ MatchOption filter (Unit {0}) (λ e. (tree : Tree SourceSpan) × IsCompiled packages tree (now e) × Meaning tree packages query default no_groups)
picks_by now packages default flat query answer None compiled (all, is, laid) says =
    (λ yes. tt, λ unit. (says all default laid).1 (all_hold all default query is))
picks_by now packages default flat query answer (Some e) (tree, is) laid says =
    let (expr, same, flat_of) = laid in
    let holds = says (now e) default (subst (λ (x : CompiledExpr). IsFlat flat x default) (sym same) flat_of) in (
      λ yes. (tree, is, (compiled_means packages query default no_groups tree (now e) is).0 (holds.0 yes)),
      λ picks. holds.1 ((compiled_means packages query default no_groups picks.0 (now e) picks.1).1 picks.2),
    )

-- what the laid out filter says is what the trees of the filter say
pub laid_picks : (packages : List PackageMetadata) (default : CompiledExpr) (o : AskedOverride) (flat : FlatExpr) (query : TestQuery) (answer : Bool)
    → IsCompiledOf packages o → IsLaidOut default o flat
    → AnswersFor flat query answer
    → IsTrue answer ↔ FilterPicks packages default o query
laid_picks packages default o flat query answer compiled laid says =
    picks_by (λ e. e.now) packages default flat query answer o.filter compiled laid says

-- how an override applies, where its filter picks the test exactly if the answer is yes
pub application_by : (answer : Bool) (Picks : Type 0) (platforms : Option Bool) (application : Application)
    → IsTrue answer ↔ Picks → HasApplication (IsTrue answer) platforms application → HasApplication Picks platforms application
application_by answer Picks platforms NotPicked same has = λ picks. has (same.1 picks)
application_by answer Picks platforms Applies same has = (same.0 has.0, has.1)
application_by answer Picks platforms OtherPlatform same has = (same.0 has.0, has.1)
application_by answer Picks platforms UnknownPlatform same has = (same.0 has.0, has.1)

-- so an override applies, by the answer of its laid out filter
pub applies_as : (packages : List PackageMetadata) (default : CompiledExpr) (o : AskedOverride) (flat : FlatExpr) (query : TestQuery) (answer : Bool) (application : Application)
    → IsCompiledOf packages o → IsLaidOut default o flat → AnswersFor flat query answer → HasApplication (IsTrue answer) (platforms_of o query.binary_query.platform) application
    → AppliesAs packages default (query.binary_query, query.test_name.now) o application
applies_as packages default o flat query answer application compiled laid says has = (
  query,
  refl,
  refl,
  application_by answer (FilterPicks packages default o query) (platforms_of o query.binary_query.platform) application (laid_picks packages default o flat query answer compiled laid says) has,
)
