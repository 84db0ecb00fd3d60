use Rattle.std.proofs.Common.{◌≡◌, suc, ◌<◌, ◌≤◌, length, true, sym, refl, ap, ◌∙◌, arith}
use Rattle.std.specs.Prelude.{codes, is_some}
use Rattle.filterset_language.specs.Parsing.Position.{Position, position_of, skip, after}
use Rattle.filterset_language.specs.Parsing.Recovery.{NoOperand}
use Rattle.filterset_language.specs.Parsing.Descent.{operand_at, and_level_by, join, unite, set_at, negated_by, enclosed_by}
use Rattle.filterset_language.specs.Parsing.Words.{joiner_at, or_at}
use Rattle.filterset_language.proofs.Positions.{AtOrBehind-then, AtOrBehind-of, same_position}
use Rattle.filterset_language.proofs.ReadingSteps.{name_step, negation_step, parens_step, caret_step}
use Rattle.filterset_language.proofs.Recovering.{if_ok, keeps_along, keeps_then}
use Rattle.filterset_language.proofs.Outcomes.{going_start, going_by, going_end}
use Rattle.filterset_language.proofs.OperandReading.{tree_along, going_along, negation_gives, parens_gives, nested_gives, nothing_gives, level_misses}
use Rattle.filterset_language.proofs.FaultsStand.{behind_not, behind_open, behind_joiner, behind_or, behind_name}
use Rattle.filterset_language.proofs.parsing.expressions.+parser.Goals as goal

pub read_operand-read_set-requires-clause-name : goal.read_operand-read_set-requires-clause-name
read_operand-read_set-requires-clause-name t c = behind_name c.skip_blanks-start.result c.in-Some.rest c.in-Some.name c.in-Some.ensures.value c.in-Some.ensures.behind.text

pub read_operand-returns-in-Some-clause-value : goal.read_operand-returns-in-Some-clause-value
read_operand-returns-in-Some-clause-value t c =
    let lt : length c.in-Some.rest.rest.now < length c.args.input.rest.now = omega (arith, c.in-Some.ensures.behind.shorter, c.skip_blanks-start.ensures.behind.shorter) in
    let same = (AtOrBehind-then _ _ _ c.skip_blanks-start.ensures.behind (AtOrBehind-of _ _ c.in-Some.ensures.behind)).text in
    if_ok c.read_set.result _ _
    (λ r v n le. nested_gives c.args.input.text.now n _ _ _ _ _ _ (λ read. set_at c.in-Some.name c.skip_blanks-start.result.offset) lt le (name_step n _ _ _ _ c.skip_blanks-start.ensures.value c.in-Some.ensures.value) (λ m long. tree_along _ _ _ _ _ _ _ same (v m long)))
    c.read_set.ensures.value

pub read_operand-returns-in-Some-clause-stand : goal.read_operand-returns-in-Some-clause-stand
read_operand-returns-in-Some-clause-stand t c =
    let same = (AtOrBehind-then _ _ _ c.skip_blanks-start.ensures.behind (AtOrBehind-of _ _ c.in-Some.ensures.behind)).text in
    if_ok c.read_set.result _ _ (λ r keeps. keeps_along _ _ _ _ same keeps) c.read_set.ensures.stand

pub read_operand-read_negation-requires : goal.read_operand-read_negation-requires
read_operand-read_negation-requires t c =
    let lt : length c.in-Some-read_not.rest.rest.now < length c.args.input.rest.now = omega (arith, c.in-Some-read_not.ensures.behind.shorter, c.skip_blanks-start.ensures.behind.shorter) in
    (omega (arith, lt), behind_not c.skip_blanks-start.result c.in-Some-read_not.rest c.in-Some-read_not.operator c.in-Some-read_not.ensures.value c.in-Some-read_not.ensures.behind.text)

pub read_operand-returns-in-Some-read_not-clause-value : goal.read_operand-returns-in-Some-read_not-clause-value
read_operand-returns-in-Some-read_not-clause-value t c =
    let lt : length c.in-Some-read_not.rest.rest.now < length c.args.input.rest.now = omega (arith, c.in-Some-read_not.ensures.behind.shorter, c.skip_blanks-start.ensures.behind.shorter) in
    let same = (AtOrBehind-then _ _ _ c.skip_blanks-start.ensures.behind (AtOrBehind-of _ _ c.in-Some-read_not.ensures.behind)).text in
    if_ok c.read_negation.result _ _
    (λ r v n le. nested_gives c.args.input.text.now n _ _ _ _ _ _ (negated_by c.in-Some-read_not.operator) lt le (negation_step n _ _ _ _ c.skip_blanks-start.ensures.value c.in_default.ensures.value c.in-Some-read_not.ensures.value) (λ m long. tree_along _ _ _ _ _ _ _ same (v m long)))
    c.read_negation.ensures.value

pub read_operand-returns-in-Some-read_not-clause-stand : goal.read_operand-returns-in-Some-read_not-clause-stand
read_operand-returns-in-Some-read_not-clause-stand t c =
    let same = (AtOrBehind-then _ _ _ c.skip_blanks-start.ensures.behind (AtOrBehind-of _ _ c.in-Some-read_not.ensures.behind)).text in
    if_ok c.read_negation.result _ _ (λ r keeps. keeps_along _ _ _ _ same keeps) c.read_negation.ensures.stand

pub read_operand-read_parens-requires : goal.read_operand-read_parens-requires
read_operand-read_parens-requires t c =
    let behind = c.in-Some-after.ensures.behind (omega arith) in
    let lt : length c.in-Some-after.rest.rest.now < length c.args.input.rest.now = omega (arith, behind.shorter, c.skip_blanks-start.ensures.behind.shorter) in
    (omega (arith, lt), behind_open c.skip_blanks-start.result c.in-Some-after.rest c.in-Some-after.ensures.value behind.text)

pub read_operand-returns-in-Some-after-clause-value : goal.read_operand-returns-in-Some-after-clause-value
read_operand-returns-in-Some-after-clause-value t c =
    let behind = c.in-Some-after.ensures.behind (omega arith) in
    let lt : length c.in-Some-after.rest.rest.now < length c.args.input.rest.now = omega (arith, behind.shorter, c.skip_blanks-start.ensures.behind.shorter) in
    let same = (AtOrBehind-then _ _ _ c.skip_blanks-start.ensures.behind (AtOrBehind-of _ _ behind)).text in
    if_ok c.read_parens.result _ _
    (λ r v n le. nested_gives c.args.input.text.now n _ _ _ _ _ _ enclosed_by lt le (parens_step n _ _ _ c.skip_blanks-start.ensures.value c.in_default.ensures.value c.in_default-read_not.ensures.value c.in-Some-after.ensures.value) (λ m long. tree_along _ _ _ _ _ _ _ same (v m long)))
    c.read_parens.ensures.value

pub read_operand-returns-in-Some-after-clause-stand : goal.read_operand-returns-in-Some-after-clause-stand
read_operand-returns-in-Some-after-clause-stand t c =
    let behind = c.in-Some-after.ensures.behind (omega arith) in
    let same = (AtOrBehind-then _ _ _ c.skip_blanks-start.ensures.behind (AtOrBehind-of _ _ behind)).text in
    if_ok c.read_parens.result _ _ (λ r keeps. keeps_along _ _ _ _ same keeps) c.read_parens.ensures.stand

pub read_operand-returns-clause-value : goal.read_operand-returns-clause-value
read_operand-returns-clause-value t c =
    let nothing : NoOperand (position_of c.args.input) (position_of c.skip_blanks-start.result) = record { skipped = c.skip_blanks-start.ensures.value; no_name = c.in_default.ensures.value; no_not = c.in_default-read_not.ensures.value; no_open = c.in_default-after.ensures.value } in
    if_ok c.read_nothing.result _ _ (λ r more n le. nothing_gives c.args.input.text.now n _ (position_of c.skip_blanks-start.result) _ _ _ _ nothing more) c.read_nothing.ensures.more

pub read_negation-returns-clause-value : goal.read_negation-returns-clause-value
read_negation-returns-clause-value t c = λ n le.
    negation_gives c.args.input.text.now c.args.operator _ _ _ _ _ _ (c.in_ok-operand.ensures.value n le) c.in_ok-negate.ensures

pub read_parens-returns-clause-value : goal.read_parens-returns-clause-value
read_parens-returns-clause-value t c = λ n le.
    parens_gives c.args.input.text.now _ _ _ _ _ _ _ _ (c.in_ok-inner.ensures.value n le) c.in_ok-end.ensures.value c.in_ok-enclose.ensures

pub read_and_level-returns-then-is_before_caret-clause-value : goal.read_and_level-returns-then-is_before_caret-clause-value
read_and_level-returns-then-is_before_caret-clause-value t c = λ n le.
    let first = c.in_ok-first in
    let same : position_of first.first.end ≡ position_of c.args.input = same_position c.args.input first.first.end first.ensures.behind.text c.if-first-input.true in
    let caret : is_some (after (codes "^") (skip (position_of c.args.input))) ≡ true = ap (λ (p : Position). is_some (after (codes "^") (skip p))) (sym same) ∙ sym c.is_before_caret.ensures ∙ c.if-is_before_caret.true in
    level_misses joiner_at join c.args.input.text.now (operand_at (suc n)) _ _ _ _ _ (caret_step n (position_of c.args.input) caret) (first.ensures.value n le)

pub read_and_level-read_and_rest-requires : goal.read_and_level-read_and_rest-requires
read_and_level-read_and_rest-requires t c = omega (arith, c.in_ok-first.ensures.behind.shorter)

pub read_and_level-returns-clause-value : goal.read_and_level-returns-clause-value
read_and_level-returns-clause-value t c =
    let first = c.in_ok-first.first in
    let behind = c.in_ok-first.ensures.behind in
    if_ok c.read_and_rest.result _ _
    (λ r on n le.
    let within : length first.end.rest.now ≤ n = omega (arith, behind.shorter) in
    let going = going_start joiner_at join (operand_at _) c.args.input.text.now (λ o l r x y. (x, y)) (λ o l r. refl) _ _ _ _ _ (c.in_ok-first.ensures.value n le) in
    tree_along _ _ _ _ _ _ _ behind.text (on n c.args.faults.now.items _ within (going_along joiner_at join (operand_at _) _ _ _ _ _ _ _ (sym behind.text) going)))
    c.read_and_rest.ensures.value

pub read_and_rest-returns-in_default-clause-value : goal.read_and_rest-returns-in_default-clause-value
read_and_rest-returns-in_default-clause-value t c = λ n before total le going.
    rw c.remember_blanks.ensures.value (going_end joiner_at join (operand_at _) c.args.first.end.text.now (λ o l r x y. (x, y)) (λ o l r. refl) _ _ _ _ _ _ c.skip_blanks-start.ensures.value c.in_default.ensures.value (c.loop-joiner.invariant.same n before total le going))

pub read_and_rest-returns-in_default-clause-behind : goal.read_and_rest-returns-in_default-clause-behind
read_and_rest-returns-in_default-clause-behind t c = AtOrBehind-then _ _ _ c.loop-joiner.invariant.behind c.remember_blanks.ensures.behind

pub read_and_rest-read_operand-requires : goal.read_and_rest-read_operand-requires
read_and_rest-read_operand-requires t c =
    let inv = c.loop-joiner.invariant in
    let lt : length c.in-Some.rest.rest.now < length c.args.first.end.rest.now = omega (arith, c.in-Some.ensures.behind.shorter, c.skip_blanks-start.ensures.behind.shorter, inv.behind.shorter) in
    (omega (arith, lt), behind_joiner c.skip_blanks-start.result c.in-Some.rest c.in-Some.joiner c.in-Some.ensures.value c.in-Some.ensures.behind.text)

pub read_and_rest-loop-joiner-preserved : goal.read_and_rest-loop-joiner-preserved
read_and_rest-loop-joiner-preserved t c =
    let inv = c.loop-joiner.invariant in
    let start = AtOrBehind-then _ _ _ inv.behind c.skip_blanks-start.ensures.behind in
    let rest = AtOrBehind-then _ _ _ start (AtOrBehind-of _ _ c.in-Some.ensures.behind) in
    let lt : length c.in_ok-right.right.end.rest.now < length c.loop-joiner.level.end.rest.now = omega (arith, c.in_ok-right.ensures.behind.shorter, c.in-Some.ensures.behind.shorter, c.skip_blanks-start.ensures.behind.shorter) in
    record {
      same = λ n before total le going.
          let within : length c.in-Some.rest.rest.now ≤ n = omega (arith, rest.shorter) in
          rw c.in_ok-join.ensures
          (going_by joiner_at join (operand_at _) c.args.first.end.text.now (λ o l r x y. (x, y)) (λ o l r. refl) _ _ _ _ _ _ _ _ _ _ _ _ lt c.skip_blanks-start.ensures.value c.in-Some.ensures.value (inv.same n before total le going) c.in_ok-check_joiner.ensures.value (tree_along _ _ _ _ _ _ _ rest.text (c.in_ok-right.ensures.value n within)));
      stand = λ old. keeps_along _ _ _ _ rest.text c.in_ok-right.ensures.stand (keeps_along _ _ _ _ start.text c.in_ok-check_joiner.ensures.stand (inv.stand old));
      behind = AtOrBehind-then _ _ _ rest c.in_ok-right.ensures.behind;
    }

pub read_or_level-read_or_rest-requires : goal.read_or_level-read_or_rest-requires
read_or_level-read_or_rest-requires t c = omega (arith, c.in_ok-first.ensures.behind.shorter)

pub read_or_level-returns-clause-value : goal.read_or_level-returns-clause-value
read_or_level-returns-clause-value t c =
    let first = c.in_ok-first.first in
    let behind = c.in_ok-first.ensures.behind in
    if_ok c.read_or_rest.result _ _
    (λ r on n le.
    let within : length first.end.rest.now ≤ n = omega (arith, behind.shorter) in
    let going = going_start or_at unite (and_level_by (operand_at _)) c.args.input.text.now (λ o l r x y. (x, y)) (λ o l r. refl) _ _ _ _ _ (c.in_ok-first.ensures.value n le) in
    tree_along _ _ _ _ _ _ _ behind.text (on n c.args.faults.now.items _ within (going_along or_at unite (and_level_by (operand_at _)) _ _ _ _ _ _ _ (sym behind.text) going)))
    c.read_or_rest.ensures.value

pub read_or_rest-returns-in_default-clause-value : goal.read_or_rest-returns-in_default-clause-value
read_or_rest-returns-in_default-clause-value t c = λ n before total le going.
    rw c.remember_blanks.ensures.value (going_end or_at unite (and_level_by (operand_at _)) c.args.first.end.text.now (λ o l r x y. (x, y)) (λ o l r. refl) _ _ _ _ _ _ c.skip_blanks-start.ensures.value c.in_default.ensures.value (c.loop-operator.invariant.same n before total le going))

pub read_or_rest-returns-in_default-clause-behind : goal.read_or_rest-returns-in_default-clause-behind
read_or_rest-returns-in_default-clause-behind t c = AtOrBehind-then _ _ _ c.loop-operator.invariant.behind c.remember_blanks.ensures.behind

pub read_or_rest-read_and_level-requires : goal.read_or_rest-read_and_level-requires
read_or_rest-read_and_level-requires t c =
    let inv = c.loop-operator.invariant in
    let lt : length c.in-Some.rest.rest.now < length c.args.first.end.rest.now = omega (arith, c.in-Some.ensures.behind.shorter, c.skip_blanks-start.ensures.behind.shorter, inv.behind.shorter) in
    (omega (arith, lt), behind_or c.skip_blanks-start.result c.in-Some.rest c.in-Some.operator c.in-Some.ensures.value c.in-Some.ensures.behind.text)

pub read_or_rest-loop-operator-preserved : goal.read_or_rest-loop-operator-preserved
read_or_rest-loop-operator-preserved t c =
    let inv = c.loop-operator.invariant in
    let start = AtOrBehind-then _ _ _ inv.behind c.skip_blanks-start.ensures.behind in
    let rest = AtOrBehind-then _ _ _ start (AtOrBehind-of _ _ c.in-Some.ensures.behind) in
    let lt : length c.in_ok-right.right.end.rest.now < length c.loop-operator.level.end.rest.now = omega (arith, c.in_ok-right.ensures.behind.shorter, c.in-Some.ensures.behind.shorter, c.skip_blanks-start.ensures.behind.shorter) in
    record {
      same = λ n before total le going.
          let within : length c.in-Some.rest.rest.now ≤ n = omega (arith, rest.shorter) in
          rw c.in_ok-unite.ensures
          (going_by or_at unite (and_level_by (operand_at _)) c.args.first.end.text.now (λ o l r x y. (x, y)) (λ o l r. refl) _ _ _ _ _ _ _ _ _ _ _ _ lt c.skip_blanks-start.ensures.value c.in-Some.ensures.value (inv.same n before total le going) c.in_ok-check_or.ensures.value (tree_along _ _ _ _ _ _ _ rest.text (c.in_ok-right.ensures.value n within)));
      stand = λ old. keeps_along _ _ _ _ rest.text c.in_ok-right.ensures.stand (keeps_along _ _ _ _ start.text c.in_ok-check_or.ensures.stand (inv.stand old));
      behind = AtOrBehind-then _ _ _ rest c.in_ok-right.ensures.behind;
    }

pub read_operand-returns-in-Some-clause-behind : goal.read_operand-returns-in-Some-clause-behind
read_operand-returns-in-Some-clause-behind t c = if_ok c.read_set.result _ _ (λ r behind. AtOrBehind-then _ _ _ (AtOrBehind-then _ _ _ c.skip_blanks-start.ensures.behind (AtOrBehind-of _ _ c.in-Some.ensures.behind)) behind) c.read_set.ensures.behind

pub read_operand-returns-clause-stand : goal.read_operand-returns-clause-stand
read_operand-returns-clause-stand t c = c.read_nothing.ensures.stand

pub read_operand-returns-clause-behind : goal.read_operand-returns-clause-behind
read_operand-returns-clause-behind t c = c.read_nothing.ensures.behind

pub read_negation-returns-clause-stand : goal.read_negation-returns-clause-stand
read_negation-returns-clause-stand t c = c.in_ok-operand.ensures.stand

pub read_negation-returns-clause-behind : goal.read_negation-returns-clause-behind
read_negation-returns-clause-behind t c = c.in_ok-operand.ensures.behind

pub read_parens-returns-clause-stand : goal.read_parens-returns-clause-stand
read_parens-returns-clause-stand t c = keeps_then _ _ _ _ _ _ refl c.in_ok-inner.ensures.behind.text c.in_ok-inner.ensures.stand c.in_ok-end.ensures.stand

pub read_parens-returns-clause-behind : goal.read_parens-returns-clause-behind
read_parens-returns-clause-behind t c = AtOrBehind-then _ _ _ c.in_ok-inner.ensures.behind c.in_ok-end.ensures.behind

pub read_and_level-returns-clause-stand : goal.read_and_level-returns-clause-stand
read_and_level-returns-clause-stand t c = if_ok c.read_and_rest.result _ _ (λ r stand. keeps_then _ _ _ _ _ _ refl c.in_ok-first.ensures.behind.text c.in_ok-first.ensures.stand stand) c.read_and_rest.ensures.stand

pub read_and_level-returns-clause-behind : goal.read_and_level-returns-clause-behind
read_and_level-returns-clause-behind t c = if_ok c.read_and_rest.result _ _ (λ r behind. AtOrBehind-then _ _ _ c.in_ok-first.ensures.behind behind) c.read_and_rest.ensures.behind

pub read_or_level-returns-clause-stand : goal.read_or_level-returns-clause-stand
read_or_level-returns-clause-stand t c = if_ok c.read_or_rest.result _ _ (λ r stand. keeps_then _ _ _ _ _ _ refl c.in_ok-first.ensures.behind.text c.in_ok-first.ensures.stand stand) c.read_or_rest.ensures.stand

pub read_or_level-returns-clause-behind : goal.read_or_level-returns-clause-behind
read_or_level-returns-clause-behind t c = if_ok c.read_or_rest.result _ _ (λ r behind. AtOrBehind-then _ _ _ c.in_ok-first.ensures.behind behind) c.read_or_rest.ensures.behind
