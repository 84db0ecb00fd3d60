use Rattle.std.proofs.Common.{◌∙◌, Option, Some, ap, subst, sym}
use Rattle.filterset_c.specs.Parsing.{IsOutcome, ParsesIn}
use Rattle.filterset_c.specs.{declared.object.Object.Object, Workspaces.IsWorkspace}
use Rattle.filterset_c.proofs.Storing.{judged, outcome_of}
use Rattle.filterset_c.proofs.filterset_parse.Goals as goal

pub returns-clause-parsed : goal.returns-clause-parsed
returns-clause-parsed c =
    let is_held = ap (λ (object : Object). Some object) c.deref.ensures ∙ sym c.in-Some.ensures.taken in
    subst (λ (held : Option Object). IsOutcome (ParsesIn held c.args.text.now c.args.kind) c.args.parsed.now.held c.store.result c.store.new.handle.held) is_held
    (outcome_of _ _ c.parse_in-made.result c.store.result _ c.parse_in-made.ensures.parsed c.parse_in-made.ensures.failed c.store.ensures)

pub returns-clause-well : goal.returns-clause-well
returns-clause-well c holds utf8 kind =
    let is_held = ap (λ (object : Object). Some object) c.deref.ensures ∙ sym c.in-Some.ensures.taken in
    judged _ c.parse_in-made.result c.store.result _ (c.parse_in-made.ensures.well (subst IsWorkspace (sym is_held) holds) utf8 kind) c.store.ensures
