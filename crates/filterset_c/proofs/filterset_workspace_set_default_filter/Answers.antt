use Rattle.std.proofs.Common.{rules, arith, ◌≡◌, ◌∙◌, Option, Some, ap, subst, sym}
use Rattle.filterset_c.specs.{Parsing.IsOutcome, Parsing.ParsesIn, declared.object.Object.Object}
use Rattle.filterset_c.proofs.Storing.{of_some, parses_default, rejected_outcome, rejected_status}
use Rattle.filterset_c.proofs.filterset_workspace_set_default_filter.Goals as goal

pub returns-in-Ok-Some-clause-set : goal.returns-in-Ok-Some-clause-set
returns-in-Ok-Some-clause-set c zero = absurd (rejected_status _ _ _ _ c.store.ensures zero)

pub returns-in-Ok-Some-clause-kept : goal.returns-in-Ok-Some-clause-kept
returns-in-Ok-Some-clause-kept c zero = absurd (rejected_status _ _ _ _ c.store.ensures zero)

pub returns-in-Ok-Some-clause-rejected : goal.returns-in-Ok-Some-clause-rejected
returns-in-Ok-Some-clause-rejected c not =
    let is_held = ap (λ (object : Object). Some object) c.deref_mut.ensures.value ∙ sym c.in-Some.ensures.taken in
    let found : c.in-Ok-Some.field-0 ≡ Some c.in-Ok-Some.refusal = first_of (search (rules, c.in-Ok-Some.refusal-is), grind (arith, c.in-Ok-Some.refusal-is, c.in-Ok-Some.field-0-is)) in
    let parsed = of_some _ c.in-Ok-Some.field-0 c.in-Ok-Some.refusal found c.in-Ok-Some.ensures.rejected in
    subst (λ (held : Option Object). IsOutcome (ParsesIn held c.args.text.now 3) c.args.faults.now.held c.store.result c.store.new.handle.held) is_held
    (rejected_outcome _ _ c.in-Ok-Some.refusal c.store.result _ (parses_default _ _ _ parsed.0) c.store.ensures)
