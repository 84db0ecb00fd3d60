use Rattle.std.proofs.Common.{◌≡◌, List, Option, ℕ, arith, map, ap, ◌∙◌}
use Rattle.std.specs.Prelude.{option_and_then}
use Rattle.filterset_configuration.specs.Leads.{lead}
use Rattle.filterset_configuration.proofs.LeadLemmas.{after_twice}
use Rattle.filterset_configuration.proofs.circles.far_leads.Goals as goal

pub loop-steps-preserved : goal.loop-steps-preserved
loop-steps-preserved c =
    let leads = c.loop-steps.leads.items in
    let further = c.in_ok-leads-2.leads.items in
    let is : further ≡ map (λ to. option_and_then (lead leads) to) leads =
    c.in_ok-leads-2.ensures ∙ ap (λ (ks : List (Option ℕ)). map (λ to. option_and_then (lead ks) to) ks) c.as_slice.ensures.value in
    record {
      some = omega (arith, c.loop-steps.invariant.some);
      after = after_twice c.args.parents.now c.loop-steps.steps leads further c.loop-steps.invariant.after is;
    }
