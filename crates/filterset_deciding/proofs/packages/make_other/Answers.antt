use Rattle.std.proofs.{Common.◌<◌, Common.length, Common.subst, Common.sym, lemmas.Result.IfOk-weaker}
use Rattle.filterset_deciding.proofs.Agreeing.{longer_agrees}
use Rattle.filterset_deciding.proofs.packages.make_other.Goals as goal

pub returns : goal.returns
returns c =
    IfOk-weaker c.make_longer.result _ _ (λ id longer test same.
    longer_agrees test c.longest_in.result c.args.branch.now (subst (λ x. c.longest_in.result < length x) (sym same) longer) c.requires c.longest_in.ensures) c.make_longer.ensures

pub returns-then-is_allowed : goal.returns-then-is_allowed
returns-then-is_allowed c = λ test same. (c.is_allowed.ensures test same).0 c.if-is_allowed.true
