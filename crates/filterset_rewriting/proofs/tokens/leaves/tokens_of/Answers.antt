use Rattle.std.proofs.Common.{rules, ◌∙◌, List, ap, map, subst, true}
use Rattle.std.proofs.lemmas.Result.{IfOk-weaker}
use Rattle.filterset_faults.specs.declared.span.SourceSpan.{SourceSpan}
use Rattle.filterset_graph.specs.Packages.{Text}
use Rattle.filterset_grammar.specs.Tree.{Leaf, tree_leaves}
use Rattle.filterset_language.specs.Views.{leaf_of, tree_of}
use Rattle.filterset_rewriting.specs.Tokens.{AreTokensFrom}
use Rattle.filterset_rewriting.proofs.TokenLemmas.{filter_all}
use Rattle.filterset_rewriting.proofs.tokens.leaves.tokens_of.Goals as goal

pub returns : goal.returns
returns c =
    let found = c.in_ok-leaves.ensures (λ leaf. true) (search rules) ∙ filter_all (tree_leaves (tree_of c.args.tree.now)) in
    let leaves = ap (map (λ leaf. leaf_of leaf.now)) c.as_slice.ensures.value ∙ found in
    IfOk-weaker c.tokens_among.result _ _
    (λ tokens are.
    let Are : List (Leaf SourceSpan) → Type 0 = λ ls. AreTokensFrom 0 c.as_bytes.result.now ls tokens.items in
    let At : Text → Type 0 = λ t. AreTokensFrom 0 t (tree_leaves (tree_of c.args.tree.now)) tokens.items in
    subst At c.as_bytes.ensures.value (subst Are leaves are))
    c.tokens_among.ensures
