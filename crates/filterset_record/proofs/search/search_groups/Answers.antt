use Rattle.std.proofs.Common.{rules, arith, ◌↔◌, ◌<◌, ◌∙◌, IsTrue, sym}
use Rattle.filterset_matchers.specs.Matchers.{matcher_of}
use Rattle.filterset_record.specs.Columns.{answer_of, names_of, test_of, IsAt}
use Rattle.filterset_record.proofs.ColumnLemmas.{item_of_all, more_answered}
use Rattle.filterset_record.proofs.search.search_groups.Goals as goal

pub loop-position-preserved : goal.loop-position-preserved
loop-position-preserved g c =
    let before = c.loop-position.invariant in
    let name = c.name-item.result in
    let lookup = (goal.PlacedLookup-dyn g c.args.groups.now).PlacedLookup.matches_group c.args.groups.now.1 in
    let i = c.loop-position.position in
    let at : IsAt (names_of c.args.names.now) i name = search (rules, c.name-item.is, c.deref-name-items.ensures.value, c.loop-position-test.true) in
    let found : IsTrue c.in_ok-answer.answer ↔ (IsTrue (answer_of c.args.wanted.now i) × lookup (test_of c.args.query.now name) (matcher_of c.args.matcher.now)) = rw (c.get-is_wanted.ensures, before.asks) at c.in_ok-answer.ensures.found in
    record {
      asks = c.in_ok-answer.ensures.same ∙ before.asks;
      known = c.in_ok-answer.ensures.known;
      room = c.put.ensures.room ∙ before.room;
      answered = more_answered _ _ (names_of c.args.names.now) (λ position name. IsTrue (answer_of c.args.wanted.now position) × lookup (test_of c.args.query.now name) (matcher_of c.args.matcher.now)) i name c.in_ok-answer.answer before.answered at found c.put.ensures.put;
    }

pub is_member_if-requires-clause-placed : goal.is_member_if-requires-clause-placed
is_member_if-requires-clause-placed g c =
    item_of_all _ c.grouped_tests-grouped.result.now c.loop-position.position c.get-placed.result c.get-placed.ensures.lookup c.grouped_tests-grouped.ensures

pub returns : goal.returns
returns g c =
    let own = c.loop-position.invariant.answered in
    record {
      counted = c.of_bits.ensures.len ∙ c.len-2.ensures;
      each = λ i name at wanted.
          let below : i < c.loop-position.position = search (arith, at.0, c.loop-position-test.false, c.deref-name-items.ensures.value) in
          let bit = own.answered i name below at in
          let same = c.of_bits.ensures.bits i in
          (λ yes. (bit.0 (sym same ∙ yes)).1, λ held. same ∙ bit.1 (wanted, held));
    }
