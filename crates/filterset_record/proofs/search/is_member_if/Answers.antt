use Rattle.std.proofs.{Common.rules, Common.◌≡◌, Common.IsTrue, Common.sym, lemmas.Result.IfOk-weaker}
use Rattle.filterset_matchers.specs.Matchers.{matcher_of}
use Rattle.filterset_record.specs.Grouped.{IsGrouped}
use Rattle.filterset_record.proofs.ColumnLemmas.{equal_texts}
use Rattle.filterset_record.proofs.search.is_member_if.Goals as goal

pub returns-then-eq-clause-found : goal.returns-then-eq-clause-found
returns-then-eq-clause-found g c =
    let lookup = (goal.PlacedLookup-dyn g c.args.groups.now).PlacedLookup.matches_group c.args.groups.now.1 in
    let test = c.args.test.now in
    let placed = c.in-Some.placed.now in
    let grouped : IsGrouped lookup test.binary_query placed = rw c.in-Some.is at c.requires.placed in
    let named : test.test_name.now ≡ placed.name.now = sym ((equal_texts placed.name.now test.test_name.now).0 (search (rules, c.eq.ensures, c.if-eq.true))) in
    let same = grouped test.test_name (matcher_of c.args.matcher.now.matcher.now) named in
    let wanted : IsTrue c.args.is_wanted = search (rules, c.if-not-is_wanted.false) in
    IfOk-weaker c.is_match.result _ _ (λ answer asked. (λ yes. (wanted, same.1 (asked.0 yes)), λ held. asked.1 (same.0 held.1))) c.is_match.ensures.matches
