use Rattle.std.proofs.Common.{◌≡◌, take, string_bytes}
use Rattle.nextest_filtering.specs.Joined.{ends_of, joined}
use Rattle.nextest_filtering.proofs.compile.members.Members.new.Given as goal

-- the names so far, and where each of them ends
abbrev pub invariant-loop-package : goal.invariant-loop-package
invariant-loop-package l = record {
  named : string_bytes l.names ≡ joined (take l.package-index l.package-items);
  ended : l.ends.items ≡ ends_of l.package-items l.package-index;
}
