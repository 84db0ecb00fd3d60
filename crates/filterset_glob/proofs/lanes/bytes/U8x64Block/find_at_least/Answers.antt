use Rattle.std.proofs.{Common.w8, Common.leb, lemmas.Bool.leb-true, lemmas.Bool.le-leb}
use Rattle.filterset_glob.proofs.LaneSets.{bit_of_splat_left}
use Rattle.filterset_glob.proofs.lanes.bytes.U8x64Block.find_at_least.Goals as goal

pub returns : goal.returns
returns c k small =
    let b = bit_of_splat_left w8 leb c.args.self c.args.number k c.fits-self.0 small in
    (λ h. leb-true _ _ (b.0 h), λ h. b.1 (le-leb _ _ h))
