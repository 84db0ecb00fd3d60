use Rattle.filterset_texts.specs.{Places.row_of, Searching.AreSeen}
use Rattle.filterset_texts.proofs.Growth.{AddsFollowing}
use Rattle.filterset_texts.proofs.states.add_following.Given as goal

abbrev pub invariant-loop-letter : goal.invariant-loop-letter
invariant-loop-letter l = record {
  added : AddsFollowing (row_of l.places) l.letters l.fn.states.list.items l.index l.letter-index l.states.list.items;
  seen : AreSeen l.states.list.items l.states.seen;
}
