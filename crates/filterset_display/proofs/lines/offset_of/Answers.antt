use Rattle.std.proofs.Common.{arith, sym, ◌∙◌, ap, ◌≡◌, List, ℕ, None, Some, refl}
use Rattle.std.specs.Prelude.{slice_get}
use Rattle.std.proofs.lemmas.{Grind.common_steps, Option.gets}
use Rattle.filterset_display.specs.Positions.{Text, line_starts}
use Rattle.filterset_display.proofs.PositionLemmas.{offset-is, offset-past, start-boundary}
use Rattle.filterset_display.proofs.lines.offset_of.Goals as goal

line-start : (starts : List ℕ) (text : Text) (line start : ℕ) → starts ≡ line_starts text → slice_get starts line ≡ Some start
    → slice_get (line_starts text) line ≡ Some start
line-start starts text line start same here = ap (λ s. slice_get s line) (sym same) ∙ here

pub behind-line-requires : goal.behind-line-requires
behind-line-requires c = (start-boundary c.args.text.now c.args.position.line c.in-Some.start.now c.utf8.text (line-start c.args.starts.now c.args.text.now c.args.position.line c.in-Some.start.now c.requires (grind (arith, common_steps, gets)))).0

pub returns-in-Some : goal.returns-in-Some
returns-in-Some c =
    let start = c.in-Some.start.now in
    let begins = line-start c.args.starts.now c.args.text.now c.args.position.line start c.requires (grind (arith, common_steps, gets)) in
    let (value, boundary, corresponds) =
    offset-is c.args.encoding c.args.text.now c.behind-line.result.now c.args.position start _ c.bytes_before.result c.utf8.text begins
    c.behind-line.ensures.value c.bytes_before.ensures.value refl in
    record { value = value; boundary = boundary; corresponds = corresponds }

pub returns-in-None-clause-value : goal.returns-in-None-clause-value
returns-in-None-clause-value c =
    let none : slice_get c.args.starts.now c.args.position.line ≡ None = grind (arith, common_steps, gets) in
    (offset-past c.args.encoding c.args.text.now c.args.position (ap (λ s. slice_get s c.args.position.line) (sym c.requires) ∙ none)).0

pub returns-in-None-clause-corresponds : goal.returns-in-None-clause-corresponds
returns-in-None-clause-corresponds c =
    let none : slice_get c.args.starts.now c.args.position.line ≡ None = grind (arith, common_steps, gets) in
    (offset-past c.args.encoding c.args.text.now c.args.position (ap (λ s. slice_get s c.args.position.line) (sym c.requires) ∙ none)).1
