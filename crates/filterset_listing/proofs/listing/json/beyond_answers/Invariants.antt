use Rattle.std.proofs.Common.{[], map, take}
use Rattle.filterset_listing.specs.ListJson.{AreAnswers}
use Rattle.filterset_listing.proofs.listing.json.beyond_answers.Given as goal

-- the map has the marks of the tests so far
abbrev pub invariant-loop-test : goal.invariant-loop-test
invariant-loop-test l = AreAnswers [] (map (λ t. t.now) (take l.test-index l.test-items)) [] [] l.answers
