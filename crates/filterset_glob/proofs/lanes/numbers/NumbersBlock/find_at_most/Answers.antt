use Rattle.std.proofs.{Common.w32, Common.leb, lemmas.Bool.leb-true, lemmas.Bool.le-leb}
use Rattle.filterset_glob.proofs.LaneSets.{bit_of_splat}
use Rattle.filterset_glob.proofs.lanes.numbers.NumbersBlock.find_at_most.Goals as goal

pub returns : goal.returns
returns c k small =
    let b = bit_of_splat w32 leb c.args.self c.args.number k c.fits-self.0 small in
    (λ h. leb-true _ _ (b.0 h), λ h. b.1 (le-leb _ _ h))
