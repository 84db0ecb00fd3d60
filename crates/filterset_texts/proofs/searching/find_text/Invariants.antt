use Rattle.filterset_texts.specs.{Places.row_of, Searching.AreSeen}
use Rattle.filterset_texts.proofs.Exhaustion.{IsSearched}
use Rattle.filterset_texts.proofs.searching.find_text.Given as goal

abbrev pub invariant-loop-count : goal.invariant-loop-count
invariant-loop-count l = record {
  searched : IsSearched (row_of l.places.items) l.conditions l.letters.items l.states.list.items l.count;
  seen : AreSeen l.states.list.items l.states.seen;
}
