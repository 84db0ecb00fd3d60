use Rattle.std.proofs.Common.{◌+◌, ◌-◌, ◌<◌, length}
use Rattle.filterset_configuration.specs.Leads.{AreLeadsAfter}
use Rattle.filterset_configuration.proofs.circles.far_leads.Given as goal

abbrev pub invariant-loop-steps : goal.invariant-loop-steps
invariant-loop-steps l = record {
  some : 0 < l.steps;
  after : AreLeadsAfter l.parents l.steps l.leads.items;
}

abbrev pub decreases-loop-steps : goal.decreases-loop-steps
decreases-loop-steps l = length l.parents + 1 - l.steps
