use Rattle.std.proofs.Common.{rules, ◌↔◌, ◌∙◌, subst, sym, IsTrue}
use Rattle.filterset_matchers.specs.{Matcher.MatchesName, Matchers.matcher_of}
use Rattle.filterset_record.specs.Columns.{answer_of, names_of, IsAt}
use Rattle.filterset_record.specs.{Searching.Finds, declared.search.Searcher.Searcher}
use Rattle.filterset_record.proofs.ColumnLemmas.{more_answered}
use Rattle.filterset_record.proofs.search.search_each.Goals as goal

pub loop-position-preserved : goal.loop-position-preserved
loop-position-preserved c =
    let before = c.loop-position.invariant in
    let matcher = matcher_of c.args.matcher.now in
    let name = c.name-item.result in
    let i = c.loop-position.position in
    let at : IsAt (names_of c.args.names.now) i name = search (rules, c.name-item.is, c.deref-name-items.ensures.value, c.loop-position-test.true) in
    let found : IsTrue c.in_ok-answer.answer ↔ (IsTrue (answer_of c.args.wanted.now i) × MatchesName matcher name.now) =
    let own = before.finds name.now in
    let asked : IsTrue c.in_ok-answer.answer ↔ (IsTrue (answer_of c.args.wanted.now i) × Finds c.loop-position.searcher name.now) = rw (c.as_str.ensures, c.get-is_wanted.ensures) at c.in_ok-answer.ensures.finds in
    (λ yes. ((asked.0 yes).0, own.0 (asked.0 yes).1), λ held. asked.1 (held.0, own.1 held.1)) in
    record {
      room = c.put.ensures.room ∙ before.room;
      finds = λ text. subst (λ (s : Searcher). Finds s text ↔ MatchesName matcher text) (sym c.in_ok-answer.ensures.same) (before.finds text);
      answered = more_answered _ _ (names_of c.args.names.now) (λ position name. IsTrue (answer_of c.args.wanted.now position) × MatchesName matcher name.now) i name c.in_ok-answer.answer before.answered at found c.put.ensures.put;
    }
