use Rattle.std.proofs.Common.{◌≡◌, Some, length, map}
use Rattle.std.specs.Prelude.{count_by, not, option_copied}
use Rattle.filterset_configuration.specs.Lineages.{Leads}
use Rattle.filterset_configuration.proofs.Chains.{IsPassed}
use Rattle.filterset_configuration.proofs.inheritance.lineage.Given as goal

-- the chain leads to the next name, and each profile that is passed is in it
abbrev pub invariant-loop-next : goal.invariant-loop-next
invariant-loop-next l = record {
  leads : Leads l.profiles (Some l.name) (map (λ p. p.now) l.chain.items) (option_copied l.next);
  many : length l.is_passed.items ≡ length l.profiles;
  passed : IsPassed l.profiles l.is_passed.items (map (λ p. p.now) l.chain.items);
}

-- fewer are left to be passed
abbrev pub decreases-loop-next : goal.decreases-loop-next
decreases-loop-next l = count_by not l.is_passed.items
