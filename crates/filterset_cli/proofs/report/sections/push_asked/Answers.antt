use Rattle.std.proofs.Common.{rules, arith, ◌≡◌, ◌<◌, ◌++◌, ◌∙◌, List, [], ap, get_or, length, map, refl, subst, sym, take}
use Rattle.std.proofs.lemmas.{Bool.eqb-true, List.append-nil, List.nil_from_length, Simd.map-map}
use Rattle.filterset_expression.specs.Meaning.{IsCompiled}
use Rattle.filterset_json.specs.Pieces.{Pieces, no_pieces}
use Rattle.filterset_json.proofs.PieceLemmas.{Pieces-more, added_twice}
use Rattle.filterset_language.specs.Views.{tree_of}
use Rattle.filterset_cli.specs.{Library.background_of, Report.BinaryLines, declared.listed.ListedBinary.ListedBinary}
use Rattle.filterset_cli.proofs.ReportLemmas.{taken_all}
use Rattle.filterset_record.specs.{Record.BinaryRow, Rows.binary_row}
use Rattle.filterset_cli.proofs.report.sections.push_asked.Goals as goal

pub returns-then-is_empty : goal.returns-then-is_empty
returns-then-is_empty c =
    let setting = c.args.setting.now in
    let tree = tree_of c.args.filterset.now.parsed in
    let binaries = setting.lookup.binaries.now in
    let none : binaries ≡ [] = nil_from_length _ (eqb-true _ 0 (sym c.is_empty.ensures ∙ c.if-is_empty.true)) in
    let rows : [] ≡ map binary_row binaries = sym (ap (map binary_row) none) in (
      [],
      subst (λ (rows : List BinaryRow). Pieces (BinaryLines (background_of setting) tree) rows []) rows no_pieces,
      sym (append-nil _),
    )

pub loop-listed-init : goal.loop-listed-init
loop-listed-init c = ([], sym (append-nil _), no_pieces, (refl, refl))

pub loop-listed-preserved : goal.loop-listed-preserved
loop-listed-preserved c =
    let before = c.loop-listed.invariant in
    let piece = c.in_ok-push_binary.ensures in
    let background = background_of c.args.setting.now in
    let tree = tree_of c.args.filterset.now.parsed in
    let listed = c.args.setting.now.lookup.listed.items in
    let i = c.loop-listed.listed-index in
    let binary = c.listed-item.result in
    let lt : i < length listed = omega (arith, c.loop-listed-test.true) in
    let at : get_or listed i binary ≡ binary = search (rules, c.listed-item.is) in
    let own = subst (IsCompiled background.packages tree) (sym (before.3.0 ∙ c.new-columns.ensures.expr)) c.requires in (
      before.0 ++ piece.lines.0,
      added_twice _ _ _ _ _ before.1 piece.lines.1,
      Pieces-more (BinaryLines background tree) (λ (b : ListedBinary). binary_row b.binary.now) listed i binary _ _ lt at before.2
          (piece.lines.2 background tree (c.args.filterset.now.compiled, c.requires, c.in_ok-flat.ensures.flat) own (before.3.1 ∙ c.new-columns.ensures.default) refl),
      (piece.same.0 ∙ before.3.0, piece.same.1 ∙ before.3.1),
    )

pub returns : goal.returns
returns c =
    let lines = c.loop-listed.invariant in
    let lookup = c.args.setting.now.lookup in
    let end : c.loop-listed.listed-index ≡ length lookup.listed.items = omega (arith, c.loop-listed-test.false, c.loop-listed.auto.listed-index-end) in
    let all : map (λ (b : ListedBinary). binary_row b.binary.now) (take c.loop-listed.listed-index lookup.listed.items) ≡ map binary_row lookup.binaries.now =
    taken_all (λ (b : ListedBinary). binary_row b.binary.now) lookup.listed.items c.loop-listed.listed-index end ∙ sym (map-map binary_row (λ (b : ListedBinary). b.binary.now) lookup.listed.items) ∙ ap (map binary_row) lookup.all_listed in
    (lines.0, subst (λ (rows : List BinaryRow). Pieces (BinaryLines (background_of c.args.setting.now) (tree_of c.args.filterset.now.parsed)) rows lines.0) all lines.2, lines.1)
