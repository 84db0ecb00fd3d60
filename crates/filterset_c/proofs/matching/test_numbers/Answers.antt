use Rattle.std.proofs.{Common.arith, lemmas.Slice.Zip.AllZip-long}
use Rattle.filterset_c.specs.Answers.{IsTestNumber}
use Rattle.filterset_c.proofs.matching.test_numbers.Goals as goal

pub returns-in_ok-numbers-in-Filterset-clause-count : goal.returns-in_ok-numbers-in-Filterset-clause-count
returns-in_ok-numbers-in-Filterset-clause-count c =
    let long = AllZip-long (IsTestNumber c.in-Filterset.bound c.args.binary.now) c.args.tests.now c.in_ok-numbers-in-Filterset.numbers.items c.in_ok-numbers-in-Filterset.ensures.numbers in
    omega (arith, long, c.if-tests-count.false)
