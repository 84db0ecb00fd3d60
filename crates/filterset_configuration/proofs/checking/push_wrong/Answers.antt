use Rattle.std.proofs.Common.{rules, [], ◌∷◌, inr, refl}
use Rattle.toml.specs.View.{view}
use Rattle.filterset_configuration.specs.Wrong.{IsRight, IsWrongValue, value_row}
use Rattle.filterset_configuration.specs.declared.wrong.WrongValue.{WrongValue}
use Rattle.filterset_configuration.proofs.checking.push_wrong.Goals as goal

pub returns : goal.returns
returns c =
    let row = value_row c.args.value.now in
    let w : WrongValue = record {
      path = c.in_ok-from_str.field-0;
      expected = c.expected.result;
      text = c.in_ok-from_str-2.field-0;
      place = c.in_ok-place_in.field-0;
    } in
    let is : IsWrongValue c.args.file.now.text.now c.args.at row w = search (rules, c.in_ok-from_str.ensures, c.expected.ensures, c.in_ok-from_str-2.ensures, c.in_ok-place_in.ensures) in
    (w ∷ [], c.in_ok-push.ensures.items, inr (search (rules, c.in_ok-is_right.ensures, c.as_str.ensures.value), w, refl, is))
