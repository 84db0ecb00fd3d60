use Rattle.std.proofs.Common.{w32, eqb, eqb-true, eq-eqb}
use Rattle.filterset_glob.proofs.LaneSets.{bit_of_splat}
use Rattle.filterset_glob.proofs.lanes.numbers.NumbersBlock.find_equal.Goals as goal

pub returns : goal.returns
returns c k small =
    let b = bit_of_splat w32 eqb c.args.self c.args.number k c.fits-self.0 small in
    (λ h. eqb-true _ _ (b.0 h), λ h. b.1 (eq-eqb _ _ h))
