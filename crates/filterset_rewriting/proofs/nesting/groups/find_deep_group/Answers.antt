use Rattle.std.proofs.Common.{◌≡◌, ◌<◌, ◌≤◌, ◌≢◌, ◌+◌, Bool, true, false, ℕ, List, arith, eqb, get_or, length, refl, take}
use Rattle.std.specs.{Prelude.◌==◌, List.count_by}
use Rattle.std.proofs.lemmas.Bool.{eqb-true}
use Rattle.std.proofs.lemmas.List.Sums.{count_by_more_no, count_by_more_yes, sum_by-take-le}
use Rattle.filterset_rewriting.proofs.nesting.groups.find_deep_group.Goals as goal

-- one more byte, behind which this many are open
next : (text : List ℕ) (i count behind : ℕ) → i < length text → count ≤ count_by (λ b. b == 123) (take i text)
    → (get_or text i 0 ≡ 123 → behind ≡ count + 1) → (get_or text i 0 ≢ 123 → behind ≤ count) → behind ≤ count_by (λ b. b == 123) (take (i + 1) text)
next text i count behind lt le opens other = by_test (eqb (get_or text i 0) 123) refl
  where
    by_test : (is : Bool) → eqb (get_or text i 0) 123 ≡ is → behind ≤ count_by (λ b. b == 123) (take (i + 1) text)
    by_test true e = omega (arith, count_by_more_yes (λ b. b == 123) text i 0 lt e, opens (eqb-true _ 123 e))
    by_test false e = omega (arith, count_by_more_no (λ b. b == 123) text i 0 lt e, other (λ is. absurd (let no : true ≡ false = rw is at e in cc)))

pub loop-i-preserved : goal.loop-i-preserved
loop-i-preserved c =
    let lt : c.loop-i.i < length c.args.text.now = omega arith in
    next c.args.text.now c.loop-i.i c.loop-i.count _ lt c.loop-i.invariant c.braces_behind-count.ensures.opens c.braces_behind-count.ensures.other

pub returns-then-count-limit : goal.returns-then-count-limit
returns-then-count-limit c =
    let text = c.args.text.now in
    let i = c.loop-i.i in
    let lt : i < length text = omega arith in
    let is : eqb (get_or text i 0) 123 ≡ true = rw c.if-b-eq123.true refl in
    let more : count_by (λ b. b == 123) (take (i + 1) text) ≤ count_by (λ b. b == 123) text = sum_by-take-le _ text (i + 1) in
    let passed : c.args.limit < count_by (λ b. b == 123) text = omega (arith, more, count_by_more_yes (λ b. b == 123) text i 0 lt is, c.loop-i.invariant, c.if-count-limit.true) in
    (lt, c.if-b-eq123.true, passed)
