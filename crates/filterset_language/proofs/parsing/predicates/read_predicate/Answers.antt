use Rattle.std.proofs.Common.{Some, refl}
use Rattle.filterset_faults.specs.declared.span.SourceSpan.{SourceSpan}
use Rattle.filterset_grammar.specs.Tree.{Leaf}
use Rattle.filterset_language.specs.Parsing.{Descent.between, Descent.bare_end_at, Position.Position, Position.position_of}
use Rattle.filterset_grammar.specs.Tree as tree
use Rattle.filterset_language.specs.declared.parsing.names.PredicateName.TheVariants as names
use Rattle.filterset_language.proofs.Matching.{leaf_gives, platform_gives, default_gives, bare_gives}
use Rattle.filterset_language.proofs.Recovering.{if_ok, keeps_then, recovers_then, recovers_still}
use Rattle.filterset_language.proofs.parsing.predicates.read_predicate.Goals as goal

pub returns-in-Matching-clause-value : goal.returns-in-Matching-clause-value
returns-in-Matching-clause-value c =
    let inside = c.in_ok-inside.inside in
    if_ok c.read_matching.result _ _
    (λ r v. rw c.in-Matching.is (leaf_gives inside.text.now c.args.input.text.now (names.Matching c.in-Matching.name) c.args.start.offset (position_of c.args.input) (position_of r.end) (position_of inside) _ _ _ _ c.in_ok-inside.ensures.behind.text c.in_ok-inside.ensures.value v))
    c.read_matching.ensures.value

pub returns-in-Matching-clause-stand : goal.returns-in-Matching-clause-stand
returns-in-Matching-clause-stand c = if_ok c.read_matching.result _ _ (λ r keeps. keeps_then _ _ _ _ _ _ refl c.in_ok-inside.ensures.behind.text c.in_ok-inside.ensures.stand keeps) c.read_matching.ensures.stand

pub returns-in-Platform-clause-value : goal.returns-in-Platform-clause-value
returns-in-Platform-clause-value c =
    let inside = c.in_ok-inside.inside in
    if_ok c.read_platform.result _ _
    (λ r v. rw c.in-Platform.is (leaf_gives inside.text.now c.args.input.text.now names.Platform c.args.start.offset (position_of c.args.input) (position_of r.end) (position_of inside) _ _ _ _ c.in_ok-inside.ensures.behind.text c.in_ok-inside.ensures.value (platform_gives inside.text.now (position_of inside) (position_of r.end) _ _ _ v)))
    c.read_platform.ensures.value

pub returns-in_ok-end-in-Default-clause-value : goal.returns-in_ok-end-in-Default-clause-value
returns-in_ok-end-in-Default-clause-value c =
    let inside = c.in_ok-inside.inside in
    let end = position_of c.in_ok-end-in-Default.end in
    let leaf : Leaf SourceSpan = tree.Default (between c.args.start.offset end.at) in
    let bare = recovers_then _ _ _ end (Some (leaf, end)) (bare_end_at (position_of inside)) (λ (r : Position). Some (tree.Default (between c.args.start.offset r.at), r)) c.in_ok-end-in-Default.ensures.value (recovers_still _ (leaf, end)) in
    rw (c.in-Default.is, c.up_to.ensures)
    (leaf_gives inside.text.now c.args.input.text.now names.Default c.args.start.offset (position_of c.args.input) end (position_of inside) _ _ _ _ c.in_ok-inside.ensures.behind.text c.in_ok-inside.ensures.value (default_gives inside.text.now c.args.start.offset (position_of inside) end _ _ _ bare))

pub returns-in-All-clause-value : goal.returns-in-All-clause-value
returns-in-All-clause-value c =
    let inside = c.in_ok-inside.inside in
    if_ok c.read_bare.result _ _
    (λ r v. rw c.in-All.is (leaf_gives inside.text.now c.args.input.text.now names.All c.args.start.offset (position_of c.args.input) (position_of r.end) (position_of inside) _ _ _ _ c.in_ok-inside.ensures.behind.text c.in_ok-inside.ensures.value (bare_gives inside.text.now tree.All (position_of inside) (position_of r.end) _ _ _ tt v)))
    c.read_bare.ensures.value

pub returns-in-None-clause-value : goal.returns-in-None-clause-value
returns-in-None-clause-value c =
    let inside = c.in_ok-inside.inside in
    if_ok c.read_bare-in-None.result _ _
    (λ r v. rw c.in-None.is (leaf_gives inside.text.now c.args.input.text.now names.None c.args.start.offset (position_of c.args.input) (position_of r.end) (position_of inside) _ _ _ _ c.in_ok-inside.ensures.behind.text c.in_ok-inside.ensures.value (bare_gives inside.text.now tree.None (position_of inside) (position_of r.end) _ _ _ tt v)))
    c.read_bare-in-None.ensures.value
