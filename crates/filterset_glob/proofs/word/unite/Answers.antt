use Rattle.std.proofs.Common.{inl, inr, arith, ⊎_elim}
use Rattle.std.specs.Int.{bit_at}
use Rattle.std.proofs.lemmas.{Bool.cases_eq, Nat.Bits.bit_at_or, Nat.Bits.bit_at-lt}
use Rattle.filterset_glob.proofs.word.unite.Goals as goal

pub returns-clause-joined : goal.returns-clause-joined
returns-clause-joined c k h =
    let or = bit_at_or c.args.word c.args.other k in
    ⊎_elim (λ e. inl e) (λ ne. inr (omega (arith, bit_at-lt c.args.word k, bit_at-lt c.args.other k))) (cases_eq (bit_at c.args.word k) 1)

pub returns-clause-kept : goal.returns-clause-kept
returns-clause-kept c k h = omega (arith, bit_at_or c.args.word c.args.other k, bit_at-lt c.args.other k)

pub returns-clause-added : goal.returns-clause-added
returns-clause-added c k h = omega (arith, bit_at_or c.args.word c.args.other k, bit_at-lt c.args.word k)
