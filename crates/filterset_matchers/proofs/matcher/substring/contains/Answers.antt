use Rattle.std.proofs.Common.{rules, ◌≡◌, [], length, true, false, refl, arith}
use Rattle.filterset_matchers.proofs.Substrings.{empty_of, stands_somewhere, somewhere_stands}
use Rattle.filterset_matchers.proofs.matcher.substring.contains.Goals as goal

pub returns-then-is_empty : goal.returns-then-is_empty
returns-then-is_empty c =
    let zero : length c.args.needle.now ≡ 0 = search rules in
    let none = empty_of c.args.needle.now zero in
    (λ t. ([], c.args.text.now, rw none refl), λ has. refl)

pub returns-then-occurs_between : goal.returns-then-occurs_between
returns-then-occurs_between c =
    let found = c.occurs_between.ensures.0 c.if-occurs_between.true in
    let has = stands_somewhere c.as_bytes-text.result.now c.as_bytes-needle.result.now found.0 found.3 in
    (λ t. rw (← c.as_bytes-text.ensures.value, ← c.as_bytes-needle.ensures.value) has, λ h. refl)

pub returns : goal.returns
returns c = (
  λ t. absurd (let clash : false ≡ true = t in cc),
  λ has.
      let at = somewhere_stands c.args.text.now c.args.needle.now has in
      let counted = c.loop-from.invariant.counted in
      let fits = at.1 in
      absurd (c.loop-from.invariant.before at.0 (omega (arith, counted, fits)) at.2),
)
