use Rattle.std.proofs.Common.{◌+◌, ◌<◌, ◌≤◌, ap, length, arith}
use Rattle.nextest_filtering.specs.Joined.{joined, offset}
use Rattle.nextest_filtering.proofs.NameHits.{end_read, ends_counted, name_here}
use Rattle.nextest_filtering.proofs.compile.members.Members.position_of.Goals as goal

pub loop-position-init : goal.loop-position-init
loop-position-init c =
    let self = c.args.self.now in
    let packages = self.packages.items in
    let inside : c.args.at < length (joined packages) = omega (arith, c.requires.within, ap length self.named) in
    record {
      later = omega arith;
      within = name_here packages c.args.from c.args.at c.requires.after inside;
      begins = c.requires.after;
    }

pub index-requires : goal.index-requires
index-requires c =
    let self = c.args.self.now in
    omega (arith, c.loop-position.invariant.within, ends_counted self.packages.items self.ends.items self.ended, self.ends.ok.0)

pub loop-position-preserved : goal.loop-position-preserved
loop-position-preserved c =
    let self = c.args.self.now in
    let packages = self.packages.items in
    let before = c.loop-position.invariant in
    let inside : c.args.at < length (joined packages) = omega (arith, c.requires.within, ap length self.named) in
    let end = end_read packages self.ends.items c.loop-position.position c.index.result.now self.ended before.within c.index.ensures in
    let begins : offset packages (c.loop-position.position + 1) ≤ c.args.at = omega (arith, end, c.loop-position-test.true) in
    record {
      later = omega (arith, before.later);
      within = name_here packages (c.loop-position.position + 1) c.args.at begins inside;
      begins = begins;
    }

pub returns-clause-end : goal.returns-clause-end
returns-clause-end c =
    let self = c.args.self.now in
    let end = end_read self.packages.items self.ends.items c.loop-position.position c.index.result.now self.ended c.loop-position.invariant.within c.index.ensures in
    omega (arith, end, c.loop-position-test.false)
