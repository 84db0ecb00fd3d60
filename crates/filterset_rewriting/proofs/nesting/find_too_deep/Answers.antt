use Rattle.std.proofs.Common.{arith, ◌≡◌, ◌+◌, ◌<◌, Bool, true, false, drop, length, length-drop, subst, ⊎_elim}
use Rattle.std.proofs.lemmas.Bool.{cases_lt}
use Rattle.filterset_rewriting.specs.Nesting.{Depth.depth, Levels.Passes, Levels.Rest}
use Rattle.filterset_rewriting.specs.declared.nesting.Step.{Step}
use Rattle.filterset_rewriting.proofs.Nested.{at_end, from_start, step}
use Rattle.filterset_rewriting.proofs.nesting.find_too_deep.Goals as goal

pub loop-at-init : goal.loop-at-init
loop-at-init c = record {
  within = omega arith;
  rest = λ e spells. from_start c.args.limit c.args.text.now _ e spells;
}

pub loop-at-preserved : goal.loop-at-preserved
loop-at-preserved c =
    let limit = c.args.limit in
    let at = c.loop-at.at in
    let next = c.next_token-next.result in
    let some : 0 < length c.split_at.result.1.now = omega (arith, c.split_at.ensures.back_len, c.loop-at-test.true) in
    let passes : (within : Bool) → Rest limit (drop at c.args.text.now) c.loop-at.levels.outside.items c.loop-at.levels.base c.loop-at.levels.level within
    → Rest limit (drop (at + next.len) c.args.text.now) c.pass.new.self.outside.items c.pass.new.self.base c.pass.new.self.level within = λ within here.
    subst (λ (s : Step). Passes limit (drop (at + next.len) c.args.text.now) within c.pass.new.self s) c.in-Within.is
    (c.in_ok-pass.ensures _ within (step limit _ _ at next.len c.args.text.now c.split_at.result.1.now _ next.token within c.split_at.ensures.back some c.next_token-next.ensures.token here)) in
    record {
      within = omega (arith, c.next_token-next.ensures.len.1, c.split_at.ensures.back_len, c.loop-at-test.true);
      rest = λ e spells. record {
        within = λ le. passes true ((c.loop-at.invariant.rest e spells).within le);
        deep = λ lt. passes false ((c.loop-at.invariant.rest e spells).deep lt);
      };
    }

pub returns-in-TooDeep-clause-deep : goal.returns-in-TooDeep-clause-deep
returns-in-TooDeep-clause-deep c e spells =
    let limit = c.args.limit in
    let at = c.loop-at.at in
    let next = c.next_token-next.result in
    let some : 0 < length c.split_at.result.1.now = omega (arith, c.split_at.ensures.back_len, c.loop-at-test.true) in
    ⊎_elim (λ lt. lt) (λ le. absurd (
    let is : true ≡ false = subst (λ (s : Step). Passes limit (drop (at + next.len) c.args.text.now) true c.pass.new.self s) c.in-TooDeep.is
    (c.in_ok-pass.ensures _ true (step limit _ _ at next.len c.args.text.now c.split_at.result.1.now _ next.token true c.split_at.ensures.back some c.next_token-next.ensures.token
    ((c.loop-at.invariant.rest e spells).within le))) in cc))
    (cases_lt limit (depth e))

pub returns-in-Misplaced-clause-deep : goal.returns-in-Misplaced-clause-deep
returns-in-Misplaced-clause-deep c e spells =
    let limit = c.args.limit in
    let at = c.loop-at.at in
    let next = c.next_token-next.result in
    let some : 0 < length c.split_at.result.1.now = omega (arith, c.split_at.ensures.back_len, c.loop-at-test.true) in
    let never : (within : Bool) → Rest limit (drop at c.args.text.now) c.loop-at.levels.outside.items c.loop-at.levels.base c.loop-at.levels.level within → ⊥ = λ within here.
    subst (λ (s : Step). Passes limit (drop (at + next.len) c.args.text.now) within c.pass.new.self s) c.in-Misplaced.is
    (c.in_ok-pass.ensures _ within (step limit _ _ at next.len c.args.text.now c.split_at.result.1.now _ next.token within c.split_at.ensures.back some c.next_token-next.ensures.token here)) in
    absurd (⊎_elim (λ lt. never false ((c.loop-at.invariant.rest e spells).deep lt)) (λ le. never true ((c.loop-at.invariant.rest e spells).within le)) (cases_lt limit (depth e)))

pub returns-clause-deep : goal.returns-clause-deep
returns-clause-deep c e spells =
    ⊎_elim (λ lt. absurd (at_end ((c.loop-at.invariant.rest e spells).deep lt) (omega (arith, length-drop c.loop-at.at c.args.text.now, c.loop-at-test.false))))
    (λ le. le) (cases_lt c.args.limit (depth e))
