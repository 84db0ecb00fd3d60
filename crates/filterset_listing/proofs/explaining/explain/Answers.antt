use Rattle.std.proofs.Common.{◌≡◌, ◌∙◌, [], None, ap, cond, refl, subst, sym}
use Rattle.filterset_expression.specs.Contexts.{default_of}
use Rattle.filterset_language.specs.Views.{tree_of}
use Rattle.filterset_listing.specs.{Columns.Fits, Explaining.ExplainsBy, Explaining.has_unknown, SubjectValues.Basis}
use Rattle.filterset_listing.proofs.SharedLemmas.{explanation_of}
use Rattle.filterset_listing.proofs.explaining.explain.Goals.{then-has_unknown, else-has_unknown}
use Rattle.filterset_listing.proofs.explaining.explain.Goals as goal

pub returns : goal.returns
returns c compiled =
    let basis : Basis = record { packages = c.args.graph.now; default = default_of c.args.context.now } in
    let e = tree_of c.args.filterset.tree.now in
    let subjects = c.deref.result.now in
    let nodes = c.push_nodes.new.nodes.items in
    let path = c.in_ok-subjects.path in
    let fits = subst (Fits basis subjects e) (sym c.deref-2.ensures) (c.in_ok-columns.ensures c.args.graph.now compiled) in
    let added = subst (λ before. ExplainsBy basis subjects 0 e before nodes) c.new-nodes.ensures.items (c.in_ok-push_nodes.ensures basis.default subjects fits) in
    let explains = subst (λ l. ExplainsBy basis l 0 e [] nodes) c.deref.ensures.value added in
    let unknown : has_unknown nodes ≡ c.has_unknown.result = ap has_unknown (sym c.deref-3.ensures.value) ∙ sym c.has_unknown.ensures in
    let named : c.if-has_unknown.unknown_platform ≡ cond c.has_unknown.result path None = elim c.if-has_unknown.branch [
      | then-has_unknown w ↦ rw (w.unknown_platform-is, w.if-has_unknown.true) refl
      | else-has_unknown w ↦ rw (w.unknown_platform-is, w.if-has_unknown.false) refl
    ] in
    rw named (explanation_of basis c.args.overrides.now c.in_ok-subjects.subjects.items path c.args.candidate c.in_ok-subjects.ensures e nodes explains c.has_unknown.result unknown)
