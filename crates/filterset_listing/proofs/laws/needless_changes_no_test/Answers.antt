use Rattle.std.proofs.Common.{◌∙◌, ap, sym}
use Rattle.filterset_listing.specs.declared.explaining.candidate.Candidate.TheVariants.{Binary}
use Rattle.filterset_listing.proofs.LawLemmas.{test_alike, test_exact, binary_alike}
use Rattle.filterset_listing.proofs.laws.needless_changes_no_test.Goals as goal

pub returns : goal.returns
returns c = record {
  tests = λ basis subject query frames e value answer other is. test_alike basis subject query is frames e value answer other;
  exact = λ basis subject query frames e value answer is. test_exact basis subject query is frames e value answer;
  binaries = λ basis subject binary query group frames e value answer other is at.
      binary_alike basis subject query group (is ∙ ap Binary (sym at)) frames e value answer other;
}
