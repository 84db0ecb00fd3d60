use Rattle.std.proofs.Common.{◌≡◌, Option, Some, sym, subst, codes, arith}
use Rattle.std.specs.{Prelude.string_bytes, Option.option_map}
use Rattle.std.specs.declared.{alloc.Global.Global, string.String.String}
use Rattle.filterset_matchers.specs.Matchers.{matcher_of}
use Rattle.filterset_language.specs.Parsing.{Position.position_of, RawTexts.raw_at, Recovery.Recovers, Recovery.beside}
use Rattle.filterset_language.proofs.{Matching.text_read, FaultsStand.ends_with, StepsTakeText.after_takes}
use Rattle.filterset_language.proofs.parsing.matchers.read_matcher.Goals as goal

pub read_regex-requires : goal.read_regex-requires
read_regex-requires c =
    ends_with c.args.input c.in-Some.body (codes "/") (c.in-Some.ensures.behind (omega arith)).text (after_takes (codes "/") (position_of c.args.input) (position_of c.in-Some.body) (sym c.in-Some.ensures.value))

pub returns-clause-value : goal.returns-clause-value
returns-clause-value c =
    let a = c.in_ok-value.value-is in
    let b = c.in-Some-value.is in
    let is : c.in_ok-value.field-0.value ≡ Some c.in-Some-value.value = cc in
    let q = position_of c.in_ok-value.field-0.end in
    let start = position_of c.read_sign.result.1 in
    let read = subst (λ (o : Option (String Global)). Recovers c.args.faults.now.items c.read_raw_text.new.faults.items (beside q (option_map string_bytes o)) (raw_at start)) is c.in_ok-value.ensures.value in
    text_read c.args.input.text.now c.args.name (position_of c.args.input) start q c.read_sign.result.0 _ _ _ (string_bytes c.in-Some-value.value) (option_map matcher_of c.in_ok-value-2.value) c.in_default.ensures.value c.read_sign.ensures.value read c.in_ok-value-2.ensures.value
