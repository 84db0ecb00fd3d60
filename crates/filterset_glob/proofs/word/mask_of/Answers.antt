use Rattle.std.proofs.Common.{◌≡◌, ◌^◌, ap, sym, ◌∙◌, arith, ⊎_elim}
use Rattle.std.specs.Int.{bit_at}
use Rattle.std.proofs.lemmas.{Bool.cases_eq, Nat.one_shl, Nat.Bits.bit_at-pow_same, Nat.Bits.bit_at-pow_other}
use Rattle.filterset_glob.proofs.word.mask_of.Goals as goal

pub returns-clause-set : goal.returns-clause-set
returns-clause-set c = ap (λ x. bit_at x c.args.bit) (one_shl c.args.bit 64 c.requires) ∙ bit_at-pow_same c.args.bit

pub returns-clause-alone : goal.returns-clause-alone
returns-clause-alone c k h =
    let here : bit_at (2 ^ c.args.bit) k ≡ 1 = ap (λ x. bit_at x k) (sym (one_shl c.args.bit 64 c.requires)) ∙ h in
    ⊎_elim (λ e. e) (λ ne. absurd (omega (arith, bit_at-pow_other c.args.bit k ne))) (cases_eq k c.args.bit)
