use Rattle.serde_json.specs.View.{members_view}
use Rattle.filterset_listing.specs.ListJson.{MarksSuites}
use Rattle.filterset_listing.proofs.MarkingLemmas.{Made}
use Rattle.filterset_listing.proofs.listing.json.mark_suites.Given as goal

-- the tests of the suites so far say whether they are picked, and the picks of the others are left
abbrev pub invariant-loop-id : goal.invariant-loop-id
invariant-loop-id l =
    Made (MarksSuites l.initial.left l.initial.beyond) (MarksSuites l.left l.beyond) (members_view l.initial.id-iterator) l.marked.entries l.id-iterator
