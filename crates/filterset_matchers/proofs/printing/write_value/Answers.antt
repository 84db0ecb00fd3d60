use Rattle.std.proofs.Common.{◌++◌, ◌∙◌, ap, refl, sym, subst, IsUtf8}
use Rattle.std.proofs.Output.{has_written_of_eq, has_written_append}
use Rattle.std.specs.Prelude.{encode_utf8}
use Rattle.filterset_matchers.specs.PrintedMatcher.{printed_value, printed_char}
use Rattle.filterset_matchers.proofs.Runs.{run_prints, text_after_run, value_goes_on, value_ends}
use Rattle.filterset_matchers.proofs.printing.write_value.Goals as goal

pub loop-c-init : goal.loop-c-init
loop-c-init g c =
    let split = c.split_plain.ensures in
    let rest = c.chars-chars.ensures.rest in (
      c.split_plain.result.0.now,
      run_prints c.args.value.now _ _ split.whole split.plain ∙ ap (λ l. c.split_plain.result.0.now ++ printed_value l) (sym rest),
      subst IsUtf8 (sym rest) (text_after_run c.args.value.now _ _ c.utf8.value split.whole split.plain),
      λ plain. c.in_ok-write_str.ensures.writes plain refl,
    )

pub loop-c-preserved : goal.loop-c-preserved
loop-c-preserved g c =
    let (written, said, utf8, has) = c.loop-c.invariant in
    let split = c.split_plain-in-Some.ensures in
    let rest = c.chars-chars-in-Some.ensures.rest in
    let first = c.in-Some.ensures.steps.0 ∙ ap (λ l. encode_utf8 c.in-Some.c ++ l) (sym c.as_str.ensures) in (
      (written ++ printed_char c.in-Some.c) ++ c.split_plain-in-Some.result.0.now,
      value_goes_on c.args.value.now written _ _ _ _ c.in-Some.c utf8 first split.whole split.plain said ∙ ap (λ l. ((written ++ printed_char c.in-Some.c) ++ c.split_plain-in-Some.result.0.now) ++ printed_value l) (sym rest),
      subst IsUtf8 (sym rest) (text_after_run c.as_str.result.now _ _ c.as_str.utf8 split.whole split.plain),
      λ plain.
          let before = has plain in
          let one = c.in_ok-fmt.ensures.writes before.plain refl in
          has_written_append _ _ _ _ _ _ (has_written_append _ _ _ _ _ _ before one) (c.in_ok-write_str-2.ensures.writes one.plain refl),
    )

pub returns : goal.returns
returns g c = λ plain ok.
    let (written, said, utf8, has) = c.loop-c.invariant in
    has_written_of_eq _ _ _ _ _ (value_ends c.args.value.now written _ c.in_default.ensures.steps.0.0 said) (has plain)
