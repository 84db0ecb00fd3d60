use Rattle.std.proofs.Common.{arith, ◌<◌, ℕ, List, [], length, get_or, refl, sym}
use Rattle.std.specs.Borrow.{Bor}
use Rattle.std.proofs.lemmas.List.{take_all, Elements.Contains-get_or}
use Rattle.filterset_deciding.specs.Listed.{IsMetAsked}
use Rattle.filterset_deciding.proofs.{Asking.all_more, Doubts.contains_mapped}
use Rattle.filterset_deciding.proofs.listed.LaidQuestion.find_in_groups.Goals as goal

pub loop-group-preserved : goal.loop-group-preserved
loop-group-preserved c =
    let groups = c.args.groups.now in
    let i = c.loop-group.group-index in
    let no_text : Bor (List ℕ) = record { ref_ptr = (0, 0); now = [] } in
    let Met : Bor (List ℕ) → Type 0 = λ g. IsMetAsked c.args.self.now c.args.query.now g.now in
    let lt : i < length groups = omega (arith, c.loop-group-test.true) in
    all_more Met groups i no_text lt c.loop-group.invariant (rw c.in_default.is at c.in_ok-picks.ensures.met)

pub returns-clause-none : goal.returns-clause-none
returns-clause-none c = rw (take_all c.loop-group.group-index c.args.groups.now c.loop-group-test.false) at c.loop-group.invariant

pub returns-in-Some-clause-some : goal.returns-in-Some-clause-some
returns-in-Some-clause-some c = λ given default exprs laid.
    let groups = c.args.groups.now in
    let i = c.loop-group.group-index in
    let no_text : Bor (List ℕ) = record { ref_ptr = (0, 0); now = [] } in
    let lt : i < length groups = omega (arith, c.loop-group-test.true) in
    let group = get_or groups i no_text in
    let unmet = (rw c.in-Some.is at c.in_ok-picks.ensures.unmet) given default exprs laid in
    let texts = c.in_ok-test.ensures.texts in
    record {
      at = record {
        test = record {
          query = c.args.query.now;
          group = group.now;
          kind_is_text = texts.0.kind;
          binary_name_is_text = texts.0.binary_name;
          binary_id_is_text = texts.0.binary_id;
          test_name_is_text = texts.0.test_name;
          group_is_text = texts.1;
        };
        is_of = record { query = c.in_ok-test.ensures.is_of; group = sym c.in_ok-test.ensures.group };
        is_given = unmet.is_given;
        are = unmet.are;
        unmet = unmet.unmet;
      };
      is_asked = refl;
      is_grouped = contains_mapped (λ (g : Bor (List ℕ)). g.now) groups group (Contains-get_or groups i no_text lt);
    }
