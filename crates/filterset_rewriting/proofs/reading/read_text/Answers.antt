use Rattle.std.proofs.Common.{◌≡◌, ◌≢◌, ◌≤◌, [], Option, arith, Some, option_map, rules, subst}
use Rattle.std.proofs.lemmas.{Grind.common_steps, List.nil_from_length}
use Rattle.filterset_faults.specs.declared.span.SourceSpan.{SourceSpan}
use Rattle.filterset_grammar.specs.{Grammar.Spells, Tree.Tree}
use Rattle.filterset_language.specs.{Parsed.Reads, Views.tree_of, declared.tree.ParsedExpr.ParsedExpr}
use Rattle.filterset_rewriting.specs.Nesting.Depth.{depth, most_levels}
use Rattle.filterset_rewriting.proofs.FrontLemmas.{refused}
use Rattle.filterset_rewriting.proofs.reading.read_text.Goals.{in_default-tree-via-in-Some-tree+else-is_empty, in_default-tree-via-in_default-tree}
use Rattle.filterset_rewriting.proofs.reading.read_text.Goals as goal

pub returns-in-Some-tree-clause-read : goal.returns-in-Some-tree-clause-read
returns-in-Some-tree-clause-read c =
    let p = c.in_ok-tree.field-0 in
    let e = tree_of c.in-Some-tree.tree in
    let none : p.faults.items ≡ [] = nil_from_length p.faults.items (grind (arith, common_steps)) in
    let clean = c.in_ok-tree.ensures.clean none in
    let is : p.tree ≡ Some c.in-Some-tree.tree = search rules in
    let comes : Some e ≡ Some clean.0 = subst (λ (o : Option (ParsedExpr SourceSpan)). option_map tree_of o ≡ Some clean.0) is clean.1 in
    let same : clean.0 ≡ e = cc in
    let reads : Reads c.args.text.now e = subst (λ (d : Tree SourceSpan). Reads c.args.text.now d) same clean.2 in
    let shallow : (d : Tree SourceSpan) → Spells c.args.text.now d → depth d ≤ most_levels = rw c.in_default.is at c.in_ok-place.ensures.shallow in
    record { reads = reads; shallow = shallow e reads.spelled }

-- a text that does not read has faults
pub returns-in_default-tree-clause-unread : goal.returns-in_default-tree-clause-unread
returns-in_default-tree-clause-unread c =
    let p = c.in_ok-tree.field-0 in
    let some : p.faults.items ≢ [] = elim c.in_default-tree.branch [ in_default-tree-via-in-Some-tree+else-is_empty w ↦ search rules | in_default-tree-via-in_default-tree w ↦ search rules ] in
    refused c.args.text.now p c.in_ok-tree.ensures.stand c.in_ok-tree.ensures.spelled some
