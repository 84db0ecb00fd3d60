use Rattle.std.proofs.Common.{arith, ◌≡◌, ◌∙◌, List, ap, false, inl, inr, length, map, rules, subst, true}
use Rattle.std.proofs.lemmas.{List.length-map, Result.IfOk-weaker, Slice.Zip.AllZip-long}
use Rattle.serde_json.specs.declared.value.Value.{the_lemmas}
use Rattle.filterset_entries.specs.Checked.{text_row}
use Rattle.filterset_server.specs.Becoming.{Becomes}
use Rattle.filterset_documents.specs.Contents.{content_row}
use Rattle.filterset_server.specs.Edits.{AreRewrites, edit_row, edited}
use Rattle.filterset_server.proofs.BecomingLemmas.{bytes_of, now_of}
use Rattle.filterset_display.specs.Positions.{Text}
use Rattle.filterset_server.specs.Formatting.{IsFormatted}
use Rattle.filterset_server.proofs.formatting.format_content.Goals as goal

pub ordered_edits-requires : goal.ordered_edits-requires
ordered_edits-requires c =
    let entries = c.args.content.entries.now in
    let strings = c.in_ok-strings.strings.items in
    let texts = c.as_slice-texts.result.now in
    let long = AllZip-long IsFormatted (map text_row entries) (map bytes_of strings) c.in_ok-strings.ensures in
    let told : map now_of texts ≡ map bytes_of strings =
    ap (map now_of) c.as_slice-texts.ensures.value ∙ c.in_ok-texts.ensures ∙ ap (map bytes_of) c.as_slice.ensures.value in
    omega (arith, long, ap length told, length-map entries text_row, length-map strings bytes_of, length-map texts now_of)

pub becomes-requires : goal.becomes-requires
becomes-requires c =
    let entries = c.args.content.entries.now in
    let strings = c.in_ok-strings.strings.items in
    let texts = c.as_slice-texts.result.now in
    let long = AllZip-long IsFormatted (map text_row entries) (map bytes_of strings) c.in_ok-strings.ensures in
    let told : map now_of texts ≡ map bytes_of strings =
    ap (map now_of) c.as_slice-texts.ensures.value ∙ c.in_ok-texts.ensures ∙ ap (map bytes_of) c.as_slice.ensures.value in
    omega (arith, long, ap length told, length-map entries text_row, length-map strings bytes_of, length-map texts now_of)

pub returns-in_default : goal.returns-in_default
returns-in_default c =
    let strings = c.in_ok-strings.strings.items in
    let rows = map text_row c.args.content.entries.now in
    let edits = map edit_row c.in_ok-edits.edits.items in
    let told : map now_of c.as_slice-texts.result.now ≡ map bytes_of strings =
    ap (map now_of) c.as_slice-texts.ensures.value ∙ c.in_ok-texts.ensures ∙ ap (map bytes_of) c.as_slice.ensures.value in
    let none = rw (c.in_default.is, c.as_slice-edits.ensures.value) at c.in_ok-edited.ensures.none in (
      map bytes_of strings,
      c.in_ok-strings.ensures,
      (edits, subst (λ (ts : List Text). AreRewrites rows ts edits) told c.in_ok-edits.ensures.rewrites, inl (none, search (rules, the_lemmas))),
    )

pub returns-then-branch : goal.returns-then-branch
returns-then-branch c =
    let strings = c.in_ok-strings.strings.items in
    let rows = map text_row c.args.content.entries.now in
    let edits = map edit_row c.in_ok-edits.edits.items in
    let told : map now_of c.as_slice-texts.result.now ≡ map bytes_of strings =
    ap (map now_of) c.as_slice-texts.ensures.value ∙ c.in_ok-texts.ensures ∙ ap (map bytes_of) c.as_slice.ensures.value in
    let some = rw (c.in-Some.is, c.as_slice-edits.ensures.value) at c.in_ok-edited.ensures.some in
    let made = rw (c.in-Some.is, c.as_slice-edits.ensures.value) at c.in_ok-edited.ensures.text in
    let kept = rw (c.as_str.ensures.value ∙ made, c.if-branch.true) at c.in_ok-becomes.ensures in
    let valued = rw c.as_slice-edits.ensures.value at c.edits_value.ensures in
    IfOk-weaker c.edits_value.result _ _
    (λ value is.
    let (values, zipped, whole) = is in (
      map bytes_of strings,
      c.in_ok-strings.ensures,
      (
        edits,
        subst (λ (ts : List Text). AreRewrites rows ts edits) told c.in_ok-edits.ensures.rewrites,
        inr (
          true,
          some,
          subst (λ (ts : List Text). Becomes (content_row c.args.content) ts (edited c.args.shown.now.lines.text.now edits) true) told kept,
          (values, some.0, c.in_ok-edits.ensures.replaces, zipped, whole),
        ),
      ),
    ))
    valued

pub returns : goal.returns
returns c =
    let strings = c.in_ok-strings.strings.items in
    let rows = map text_row c.args.content.entries.now in
    let edits = map edit_row c.in_ok-edits.edits.items in
    let told : map now_of c.as_slice-texts.result.now ≡ map bytes_of strings =
    ap (map now_of) c.as_slice-texts.ensures.value ∙ c.in_ok-texts.ensures ∙ ap (map bytes_of) c.as_slice.ensures.value in
    let some = rw (c.in-Some.is, c.as_slice-edits.ensures.value) at c.in_ok-edited.ensures.some in
    let made = rw (c.in-Some.is, c.as_slice-edits.ensures.value) at c.in_ok-edited.ensures.text in
    let lost = rw (c.as_str.ensures.value ∙ made, c.if-branch.false) at c.in_ok-becomes.ensures in (
      map bytes_of strings,
      c.in_ok-strings.ensures,
      (
        edits,
        subst (λ (ts : List Text). AreRewrites rows ts edits) told c.in_ok-edits.ensures.rewrites,
        inr (
          false,
          some,
          subst (λ (ts : List Text). Becomes (content_row c.args.content) ts (edited c.args.shown.now.lines.text.now edits) false) told lost,
          search (rules, the_lemmas),
        ),
      ),
    )
