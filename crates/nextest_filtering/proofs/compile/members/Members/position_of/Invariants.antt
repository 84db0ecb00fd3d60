use Rattle.std.proofs.Common.{◌-◌, ◌<◌, ◌≤◌, length}
use Rattle.nextest_filtering.specs.Joined.{offset}
use Rattle.nextest_filtering.proofs.compile.members.Members.position_of.Given as goal

abbrev pub decreases-loop-position : goal.decreases-loop-position
decreases-loop-position l = length l.self.packages.items - l.position

-- the name with the byte does not end before `position`
abbrev pub invariant-loop-position : goal.invariant-loop-position
invariant-loop-position l = record {
  later : l.fn.from ≤ l.position;
  within : l.position < length l.self.packages.items;
  begins : offset l.self.packages.items l.position ≤ l.at;
}
