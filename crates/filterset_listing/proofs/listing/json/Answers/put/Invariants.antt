use Rattle.std.proofs.Common.{[], List, map, take}
use Rattle.filterset_listing.specs.{Asking.Text, ListJson.AreAnswers, Listing.tests_of, Listing.unknown_of}
use Rattle.filterset_listing.specs.declared.listing.UnknownTest.{UnknownTest}
use Rattle.filterset_listing.proofs.listing.json.Answers.put.Given as goal

-- the map has the marks of the tests so far
abbrev pub invariant-loop-picked : goal.invariant-loop-picked
invariant-loop-picked l = (beyond : List Text) → AreAnswers [] beyond [] [] l.initial.self.0
    → AreAnswers [] beyond (map (λ t. t.now) (take l.picked-index l.picked-items)) [] l.self.0

abbrev pub invariant-loop-unknown : goal.invariant-loop-unknown
invariant-loop-unknown l = (beyond : List Text) → AreAnswers [] beyond [] [] l.fn.self.0
    → AreAnswers [] beyond (tests_of l.picks) (map (λ (u : UnknownTest). (u.test.now, u.path.now)) (take l.unknown-index l.unknown-items)) l.self.0

abbrev pub invariant-loop-uncounted : goal.invariant-loop-uncounted
invariant-loop-uncounted l = (beyond : List Text) → AreAnswers [] beyond [] [] l.fn.self.0
    → AreAnswers (take l.uncounted-index l.uncounted-items) beyond (tests_of l.picks) (unknown_of l.picks) l.self.0
