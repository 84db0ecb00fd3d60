use Rattle.std.proofs.Common.{◌≡◌, ◌+◌, ◌-◌, ◌<◌, ◌∙◌, ap, length, arith}
use Rattle.nextest_filtering.specs.Joined.{offset}
use Rattle.nextest_filtering.proofs.NameHits.{end_read, ends_counted}
use Rattle.nextest_filtering.proofs.compile.members.Members.start_of.Goals as goal

pub index-requires : goal.index-requires
index-requires c =
    let self = c.args.self.now in
    omega (arith, c.requires, c.if-position-eq0.false, ends_counted self.packages.items self.ends.items self.ended, self.ends.ok.0)

pub returns-else-position-eq0 : goal.returns-else-position-eq0
returns-else-position-eq0 c =
    let self = c.args.self.now in
    let packages = self.packages.items in
    let within : c.args.position - 1 < length packages = omega (arith, c.requires, c.if-position-eq0.false) in
    let same : c.args.position - 1 + 1 ≡ c.args.position = omega (arith, c.if-position-eq0.false) in
    end_read packages self.ends.items (c.args.position - 1) c.index.result.now self.ended within c.index.ensures ∙ ap (offset packages) same
