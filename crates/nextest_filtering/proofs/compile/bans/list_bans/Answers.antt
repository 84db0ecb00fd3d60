use Rattle.std.proofs.Common.{rules, ap, ◌∙◌, ◌≡◌, ℕ, List, Bor, map, take, length, arith}
use Rattle.std.specs.{Prelude.option_map, List.filter_map}
use Rattle.std.proofs.Math.Seq.{take-length}
use Rattle.filterset_faults.specs.declared.error.ParseSingleError.TheVariants.{BannedPredicate}
use Rattle.filterset_faults.specs.declared.span.SourceSpan.{SourceSpan}
use Rattle.filterset_grammar.specs.Tree.{Leaf}
use Rattle.filterset_language.specs.{Views.leaf_of, declared.tree.ParsedLeaf.ParsedLeaf}
use Rattle.nextest_filtering.specs.Bans.{ban}
use Rattle.nextest_filtering.proofs.{Banned.fault_at, Filtered.gathers_one, Filtered.gathers_none}
use Rattle.nextest_filtering.proofs.compile.bans.list_bans.Goals.{in-Some+in_ok-push, in_default}
use Rattle.nextest_filtering.proofs.compile.bans.list_bans.Goals as goal

abbrev seen : Bor (ParsedLeaf SourceSpan) → Leaf SourceSpan
seen leaf = leaf_of leaf.now

pub loop-leaf-init : goal.loop-leaf-init
loop-leaf-init c = search rules

pub loop-leaf-preserved : goal.loop-leaf-preserved
loop-leaf-preserved c =
    let kind = c.args.kind in
    let here = ap (option_map (fault_at kind)) c.ban_of.ensures ∙ ap (λ (leaf : Bor (ParsedLeaf SourceSpan)). ban kind (seen leaf)) c.leaf-item.is in
    elim c.match-ban_of.branch [
      | in-Some+in_ok-push w ↦ rw w.faults-is (w.in_ok-push.ensures.items ∙ gathers_one (ban kind) seen c.args.leaves.now c.loop-leaf.leaf-index c.leaf-item.result c.loop-leaf-test.true c.loop-leaf.faults.items c.loop-leaf.invariant _ here (BannedPredicate w.in-Some.span kind w.in-Some.reason) (ap (option_map (fault_at kind)) w.in-Some.is))
      | in_default w ↦ rw w.faults-is (gathers_none (ban kind) seen c.args.leaves.now c.loop-leaf.leaf-index c.leaf-item.result c.loop-leaf-test.true c.loop-leaf.faults.items c.loop-leaf.invariant _ here (ap (option_map (fault_at kind)) w.in_default.is))
    ]

pub returns : goal.returns
returns c =
    let end : c.loop-leaf.leaf-index ≡ length c.args.leaves.now = omega (arith, c.loop-leaf-test.false, c.loop-leaf.auto.leaf-index-end) in
    c.loop-leaf.invariant ∙ ap (λ (n : ℕ). filter_map (ban c.args.kind) (map seen (take n c.args.leaves.now))) end ∙ ap (λ (t : List (Bor (ParsedLeaf SourceSpan))). filter_map (ban c.args.kind) (map seen t)) (take-length c.args.leaves.now)
