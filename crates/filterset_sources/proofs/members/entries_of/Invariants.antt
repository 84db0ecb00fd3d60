use Rattle.std.proofs.Common.{◌≡◌, ◌++◌, List, map}
use Rattle.serde_json.specs.View.{members_view}
use Rattle.serde_json.proofs.Views.{Entry}
use Rattle.filterset_sources.specs.Shape.{EachMember}
use Rattle.filterset_sources.proofs.members.entries_of.Given as goal

-- an entry for each member so far
abbrev pub invariant-loop-key : goal.invariant-loop-key
invariant-loop-key g l = (done : List Entry) × (l.members.entries ≡ done ++ l.key-iterator)
    × EachMember g.T.Member.stands_for (members_view done) (map g.T.Member.row_of l.all.items)
