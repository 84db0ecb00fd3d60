use Rattle.std.proofs.Common.{rules, ◌≡◌, Some}
use Rattle.filterset_cli.specs.Index.{entry_at}
use Rattle.filterset_cli.proofs.lookup.IndexedBinary.group_with.Goals as goal

pub returns-in-Some : goal.returns-in-Some
returns-in-Some c =
    let found : entry_at c.args.self.now.by_name c.args.name.now ≡ Some c.in-Some.test.now = search (rules, c.in-Some.ensures.value, c.as_str.ensures) in
    search (rules, c.args.self.now.firsts c.args.name.now c.in-Some.test.now found)
