use Rattle.std.proofs.Common.{rules, ◌≡◌}
use Rattle.filterset_record.proofs.ColumnLemmas.{equal_texts}
use Rattle.filterset_record.proofs.groups.GroupMatcher.is_match.Goals as goal

pub returns-then-eq-clause-matches : goal.returns-then-eq-clause-matches
returns-then-eq-clause-matches c =
    let same : c.args.group.now ≡ c.args.self.now.group.now = (equal_texts c.args.group.now c.args.self.now.group.now).0 (search (rules, c.eq.ensures, c.if-eq.true)) in
    rw same c.requires
