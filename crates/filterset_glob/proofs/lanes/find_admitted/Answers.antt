use Rattle.std.proofs.Common.{◌≡◌, ◌-◌, ◌^◌, ◌<◌, true, get_or, ap, sym, subst, ◌∙◌, arith, w64, ⊎_elim}
use Rattle.std.specs.Int.{bit_at}
use Rattle.std.proofs.lemmas.{Bool.cases_eq, Nat.Bits.bit_at_ones, Nat.Bits.bit_at_not, Nat.Bits.bit_at-lt}
use Rattle.filterset_glob.specs.{declared.token.GlobToken.Class, Matching.Admits, Matching.InRanges, Tokens.token_of}
use Rattle.filterset_glob.proofs.lanes.find_admitted.Goals as goal

pub returns-in-AnyChar : goal.returns-in-AnyChar
returns-in-AnyChar g c k small =
    let x = get_or (g.B.Block.lanes c.args.block) k 0 in
    let any : Admits (token_of c.args.token.now) x = subst (λ t. Admits (token_of t) x) (sym c.in-AnyChar.is) tt in
    (λ _. any, λ _. bit_at_ones 64 k small)

pub returns-then-negated : goal.returns-then-negated
returns-then-negated g c k small =
    let x = get_or (g.B.Block.lanes c.args.block) k 0 in
    let inside = c.find_in_ranges-inside.result in
    let e = c.find_in_ranges-inside.ensures k small in
    let is : c.args.token.now ≡ Class true c.in-Class.ranges = c.in-Class.is ∙ ap (λ n. Class n c.in-Class.ranges) c.if-negated.true in
    let flipped : bit_at (2 ^ 64 - 1 - inside) k ≡ 1 - bit_at inside k = bit_at_not w64 inside k (omega arith) small in
    let small_bit : bit_at inside k < 2 = bit_at-lt inside k in
    let ranges = λ (l : InRanges c.in-Class.ranges.items x). subst (λ rs. InRanges rs x) (sym c.deref.ensures.value) l in (
      λ b. subst (λ t. Admits (token_of t) x) (sym is) (λ r. let set = e.1 (ranges r) in omega arith),
      λ a.
          let none : ¬ InRanges c.in-Class.ranges.items x = subst (λ t. Admits (token_of t) x) is a in
          ⊎_elim (λ set. absurd (none (subst (λ rs. InRanges rs x) c.deref.ensures.value (e.0 set)))) (λ ne. omega arith) (cases_eq (bit_at inside k) 1),
    )
