use Rattle.std.proofs.Common.{rules, ◌≡◌}
use Rattle.std.specs.{Prelude.option_map, Borrow.Bor}
use Rattle.filterset_cli.specs.{declared.lookup.IndexedBinary.IndexedBinary, Index.entry_at}
use Rattle.filterset_cli.proofs.lookup.RecordLookup.binary_with.Goals as goal

pub returns : goal.returns
returns c =
    let found : option_map (λ (b : Bor IndexedBinary). b.now) c.get.result ≡ entry_at c.args.self.now.by_id c.args.id.now = search (rules, c.get.ensures.value, c.as_str.ensures) in
    search (rules, found, c.args.self.now.indexed c.args.id.now)
