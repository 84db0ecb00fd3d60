use Rattle.std.proofs.Common.{◌≡◌, ◌<◌, ◌∙◌, Bool, true, ap, arith, length, subst, sym}
use Rattle.std.specs.{Prelude.not, Prelude.string_bytes, String.string_len, Str.Iter.HasSubslice}
use Rattle.std.proofs.lemmas.Bool.{false≢true}
use Rattle.filterset_graph.specs.Packages.{Text}
use Rattle.filterset_offers.specs.{Something.lines_of, Something.tests_of, Workspaces.workspace_row}
use Rattle.filterset_offers.proofs.LineLemmas.{any_line, finds, is_none, is_some, no_line}
use Rattle.memchr.specs.Find.{FindsNeedle}
use Rattle.filterset_offers.proofs.index.WorkspaceIndex.any_contains.Goals as goal

pub returns-then-not-is_empty : goal.returns-then-not-is_empty
returns-then-not-is_empty c =
    let self = c.args.self.now in
    let texts = tests_of (workspace_row self.workspace) in
    let needle = c.args.text.now in
    let found = c.find-then-not-is_empty.result in
    let lines = c.as_bytes-then-not-is_empty.ensures in
    let written : c.as_bytes-then-not-is_empty.result.now ≡ lines_of texts = lines.value ∙ self.written in
    let some : 0 < length (lines_of texts) =
    omega (arith, is_some (string_len self.lines) (sym c.is_empty.ensures ∙ c.if-not-is_empty.true), lines.len, ap length written) in
    let here : FindsNeedle (lines_of texts) c.new.result 0 found = subst (λ (hay : Text). FindsNeedle hay c.new.result 0 found) written c.find-then-not-is_empty.ensures in
    let is = finds (lines_of texts) needle found (subst (λ (text : Text). FindsNeedle (lines_of texts) text 0 found) (c.new.ensures ∙ c.as_bytes.ensures.value) here) in
    let line = any_line needle texts c.requires some in
    ((λ yes. line.0 (is.0 (sym c.is_some.ensures ∙ yes))), (λ any. c.is_some.ensures ∙ is.1 (line.1 any)))

pub returns-else-not-is_empty : goal.returns-else-not-is_empty
returns-else-not-is_empty c =
    let self = c.args.self.now in
    let texts = tests_of (workspace_row self.workspace) in
    let written : string_bytes self.lines ≡ lines_of texts = self.written in
    let none : length (lines_of texts) ≡ 0 =
    omega (arith, is_none (string_len self.lines) (sym c.is_empty.ensures ∙ c.if-not-is_empty.false), self.lines.bytes.ok.0, ap length written) in (
      (λ yes. let h : not true ≡ true = subst (λ (b : Bool). not b ≡ true) c.if-not-is_empty.false yes in absurd (false≢true h)),
      (λ any. absurd (no_line (λ name. HasSubslice name c.args.text.now) texts none any)),
    )
