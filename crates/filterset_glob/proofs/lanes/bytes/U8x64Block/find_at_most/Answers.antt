use Rattle.std.proofs.Common.{◌<◌, ◌^◌, w8, leb, get_or, arith}
use Rattle.std.proofs.lemmas.{Bool.leb-true, Bool.le-leb, Simd.Each1-get_or, Simd.below_from_Fits, Nat.Bits.bit_at_ones}
use Rattle.filterset_glob.proofs.LaneSets.{bit_of_splat}
use Rattle.filterset_glob.proofs.lanes.bytes.U8x64Block.find_at_most.Goals as goal

pub returns-then-number-gt255 : goal.returns-then-number-gt255
returns-then-number-gt255 c k small =
    let byte : get_or c.args.self k 0 < 2 ^ 8 = Each1-get_or _ c.args.self k 0 (omega (arith, c.fits-self.0)) (below_from_Fits w8 c.args.self c.fits-self.1) in
    (λ _. omega arith, λ _. bit_at_ones 64 k small)

pub returns : goal.returns
returns c k small =
    let b = bit_of_splat w8 leb c.args.self c.args.number k c.fits-self.0 small in
    (λ h. leb-true _ _ (b.0 h), λ h. b.1 (le-leb _ _ h))
