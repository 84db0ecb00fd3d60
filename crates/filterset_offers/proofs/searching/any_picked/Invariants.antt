use Rattle.std.proofs.Common.{◌≡◌, take}
use Rattle.std.specs.Prelude.{All}
use Rattle.filterset_matchers.specs.Matchers.{matcher_of}
use Rattle.filterset_offers.specs.{ReadyMatchers.ready_matcher, Something.IsMemberNamed}
use Rattle.filterset_offers.proofs.searching.any_picked.Given as goal

-- no package so far is of the workspace and matches
abbrev pub invariant-loop-package : goal.invariant-loop-package
invariant-loop-package l =
    (ready_matcher l.ready ≡ matcher_of l.matcher)
    × All (λ p. ¬ IsMemberNamed (matcher_of l.matcher) p) (take l.package-index l.package-items)
