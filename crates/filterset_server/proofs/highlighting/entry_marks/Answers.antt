use Rattle.std.proofs.Common.{arith, ◌<◌, length, inl, inr, rules, refl, []}
use Rattle.std.proofs.lemmas.List.{take_all}
use Rattle.std.specs.Prelude.{option_map}
use Rattle.filterset_entries.specs.Placements.{placement_of}
use Rattle.filterset_documents.specs.Joins.{no_parts}
use Rattle.filterset_language.specs.Views.{tree_of}
use Rattle.filterset_rewriting.specs.Reading.{IsRead, IsUnread}
use Rattle.filterset_rewriting.specs.Tokens.{AreTokens}
use Rattle.filterset_server.specs.Highlights.{TokenMarks}
use Rattle.filterset_server.proofs.MarkLemmas.{joins_next}
use Rattle.filterset_server.proofs.highlighting.entry_marks.Goals as goal

pub returns-in_default : goal.returns-in_default
returns-in_default c =
    let unread : IsUnread c.args.entry.now.text.now = rw c.in_default.is at c.in_ok-tree.ensures in
    ([], inr (unread, refl), rw c.new.ensures.items no_parts)

pub returns : goal.returns
returns c =
    let e = tree_of c.in-Some.tree in
    let reads : IsRead c.args.entry.now.text.now e = search rules in
    let are : AreTokens c.args.entry.now.text.now e c.in_ok-tokens.tokens.items = search rules in
    let all = rw (take_all c.loop-token.token-index c.as_slice-tokens.result.now c.loop-token-test.false, c.as_slice-tokens.ensures.value) at c.loop-token.invariant in
    (c.in_ok-tokens.tokens.items, inl (e, reads, are), all)

pub loop-token-init : goal.loop-token-init
loop-token-init c = rw c.new-marks.ensures.items no_parts

pub loop-token-preserved : goal.loop-token-preserved
loop-token-preserved c =
    let shown = c.args.shown.now in
    let tokens = c.as_slice-tokens.result.now in
    let i = c.loop-token.token-index in
    let lt : i < length tokens = omega (arith, c.loop-token-test.true) in
    rw c.in_ok-append.ensures.items
    (joins_next (TokenMarks shown.encoding shown.lines.text.now (option_map placement_of c.args.entry.now.place)) tokens i _
    c.loop-token.marks.items c.in_ok-more.more.items lt c.loop-token.invariant c.in_ok-more.ensures)
