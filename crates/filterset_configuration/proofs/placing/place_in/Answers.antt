use Rattle.std.proofs.Common.{rules, ◌≡◌, ◌∙◌, Some, ap, length, refl, sym, true}
use Rattle.std.specs.{List.slice_get, Prelude.bytes_eq, Prelude.option_map}
use Rattle.std.proofs.lemmas.{Option.slice_get-map, Option.slice_get_read, Slice.Eq.bytes_eq-Decides}
use Rattle.filterset_configuration.specs.Wrong.{value_row, value_rows}
use Rattle.filterset_configuration.proofs.WrongLemmas.{value-place}
use Rattle.filterset_configuration.proofs.placing.place_in.Goals as goal

pub returns : goal.returns
returns c =
    let n = c.in-Some.numbered in
    let row = value_row c.args.value.now in
    let other = value_row c.in-Some-get.other.now in
    let known = rw c.in-Some.is at c.requires in
    let found = rw c.deref.ensures.value at c.in-Some-get.ensures.lookup in
    let read : slice_get n.values.items c.args.at ≡ Some c.in-Some-get.other.now =
    slice_get_read n.values.items (length n.values.items) c.args.at c.in-Some-get.other.now refl found.3.0 found.1 in
    let there : slice_get (value_rows n.values.items) c.args.at ≡ Some other =
    slice_get-map value_row n.values.items c.args.at ∙ ap (option_map value_row) read in
    let same : bytes_eq c.as_str.result.now c.as_str-2.result.now ≡ true = search (rules, c.ne.ensures, c.if-ne.false) in
    let path : other.path ≡ row.path =
    sym c.as_str.ensures.value ∙ (bytes_eq-Decides c.as_str.result.now c.as_str-2.result.now).0 same ∙ c.as_str-2.ensures.value in
    value-place c.args.file.now c.args.at row other n.numbering.literals.items known.1 (value_rows n.values.items) c.as_str-text.result.now c.as_str-number.result.now
    c.place_of.result known.0 known.2 known.3 there path c.as_str-text.ensures.value c.as_str-number.ensures.value c.place_of.ensures
