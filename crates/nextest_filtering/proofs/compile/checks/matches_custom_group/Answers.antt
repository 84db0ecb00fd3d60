use Rattle.std.proofs.Common.{◌≡◌, Bor, String, Global, length, map, refl, sym, ◌∙◌, subst, rules}
use Rattle.std.specs.{Prelude.All, Prelude.string_bytes, HashSet.keys, Map.Iter.deref}
use Rattle.std.proofs.lemmas.Bool.{false≢true}
use Rattle.std.proofs.lemmas.List.Elements.{All-nil, All-push, All-map, All-contains, All-same}
use Rattle.std.proofs.lemmas.{Map.Iter.iter_turn, Map.Iter.iter_end, Option.get_or_from_slice_get}
use Rattle.filterset_matchers.specs.Matcher.{Matcher, MatchesName}
use Rattle.nextest_filtering.specs.ReadyMatchers.{ready_matcher}
use Rattle.nextest_filtering.proofs.compile.checks.matches_custom_group.Goals as goal

-- not matched
abbrev Missed : Matcher → String Global → Type 0
Missed matcher name = ¬ MatchesName matcher (string_bytes name)

pub loop-name-init : goal.loop-name-init
loop-name-init c = (refl, All-nil (λ (name : Bor (String Global)). Missed (ready_matcher c.args.ready.now) name.now))

pub loop-name-preserved : goal.loop-name-preserved
loop-name-preserved c =
    let matcher = ready_matcher c.args.ready.now in
    let missed : Missed matcher c.in-Some.name.now = λ matched. false≢true (sym c.if-branch.false ∙ c.in_ok-matches.ensures.matches.1 (subst (λ (m : Matcher). MatchesName m c.as_str.result.now) (sym c.loop-name.invariant.0) (subst (MatchesName matcher) (sym c.as_str.ensures.value) matched))) in
    (c.matches.ensures.same ∙ c.loop-name.invariant.0, All-push (λ (name : Bor (String Global)). Missed matcher name.now) c.loop-name.yielded c.in-Some.name c.loop-name.invariant.1 missed)

pub returns-then-branch : goal.returns-then-branch
returns-then-branch c =
    let matcher = ready_matcher c.args.ready.now in
    let names = keys c.args.custom_groups.now in
    let name = c.in-Some.name.now in
    let start : c.into_iter-name-iterator.result ≡ names = search rules in
    let turn = iter_turn deref names c.loop-name.yielded c.into_iter-name-iterator.result c.loop-name.name-iterator c.next.new.self c.next.result start c.loop-name.yielded_by c.in-Some.name c.in-Some.is c.next.ensures.steps in
    let matched = subst (MatchesName matcher) c.as_str.ensures.value (subst (λ (m : Matcher). MatchesName m c.as_str.result.now) c.loop-name.invariant.0 (c.in_ok-matches.ensures.matches.0 c.if-branch.true)) in
    ((λ yes. (length c.loop-name.yielded, name, turn.0, get_or_from_slice_get names (length c.loop-name.yielded) name name turn.1, matched)), (λ some. refl))

pub returns : goal.returns
returns c =
    let matcher = ready_matcher c.args.ready.now in
    let names = keys c.args.custom_groups.now in
    let start : c.into_iter-name-iterator.result ≡ names = search rules in
    let end = iter_end deref names c.loop-name.yielded c.into_iter-name-iterator.result c.loop-name.name-iterator c.next.new.self c.next.result start c.loop-name.yielded_by c.in-None.is c.next.ensures.steps in
    let all : All (Missed matcher) names = All-same (Missed matcher) names (map deref c.loop-name.yielded) (sym end.0) (All-map (Missed matcher) deref c.loop-name.yielded c.loop-name.invariant.1) in
    ((λ yes. absurd (cc)), (λ some. absurd (All-contains (Missed matcher) names some.1 all (some.0, some.2, some.3) some.4)))
