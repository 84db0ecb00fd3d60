use Rattle.std.proofs.Common.{arith, rules, ◌≡◌, ◌<◌, ◌+◌, ◌∷◌, drop, get_or, length, map, subst}
use Rattle.std.specs.Prelude.{None, Some}
use Rattle.filterset_language.specs.Views.{leaf_of}
use Rattle.filterset_rewriting.specs.Tokens.{AdvancesTo, argument_of}
use Rattle.filterset_rewriting.proofs.TokenLemmas.{Leaves, next_leaf, over_argument, over_none}
use Rattle.filterset_rewriting.proofs.tokens.leaves.tokens_among.Goals as goal
use Rattle.filterset_rewriting.proofs.tokens.leaves.tokens_among.Goals.{in-Some+in_ok-taken, in_default}

pub loop-leaf-preserved : goal.loop-leaf-preserved
loop-leaf-preserved c =
    let text = c.args.text.now in
    let items = c.args.leaves.now in
    let i = c.loop-leaf.leaf-index in
    let item = c.leaf-item.result in
    let leaf = leaf_of item.now in
    let at = c.loop-leaf.at in
    let tokens = c.loop-leaf.tokens.items in
    let leaves : Leaves = map (λ leaf. leaf_of leaf.now) items in
    let rest : Leaves = drop (i + 1) leaves in
    let lt : i < length items = omega (arith, c.loop-leaf-test.true) in
    let same : get_or items i item ≡ item = search (rules, c.leaf-item.is) in
    let Here : Leaves → Type 0 = λ ls. AdvancesTo text leaves at ls tokens in
    let here : AdvancesTo text leaves at (leaf ∷ rest) tokens =
    subst Here (next_leaf (λ leaf. leaf_of leaf.now) items i item lt same) c.loop-leaf.invariant.advances in
    elim c.match-argument_of.branch [
      | in-Some+in_ok-taken w ↦
          let argument = w.in-Some.argument in
          let is : argument_of leaf ≡ Some argument = cc in
          let (before, plain, made) = w.in_ok-taken.ensures.tokens in
          let (inside, sum) = w.in_ok-taken.ensures.taken in
          let advances = over_argument text leaves rest leaf argument at w.in_ok-taken.taken tokens w.push_next.new.tokens.items before
          w.split_at.result.1.now w.split_at.ensures.back is sum plain made here in
          rw (w.at-is, w.tokens-is) record { within = omega (arith, inside, w.split_at.ensures.back_len); advances = advances }
      | in_default w ↦
          let none : argument_of leaf ≡ None = cc in
          let advances = over_none text leaves rest leaf at tokens none here in
          rw (w.at-is, w.tokens-is) record { within = c.loop-leaf.invariant.within; advances = advances }
    ]
