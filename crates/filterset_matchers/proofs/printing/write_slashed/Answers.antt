use Rattle.std.proofs.Common.{[], ◌++◌, codes, refl, subst, sym, IsUtf8}
use Rattle.std.proofs.Output.{has_written_of_eq, has_written_append}
use Rattle.filterset_matchers.proofs.Runs.{text_after_slash, pattern_goes_on, pattern_ends, shorter_after_slash}
use Rattle.filterset_matchers.proofs.printing.write_slashed.Goals as goal

pub loop-run-init : goal.loop-run-init
loop-run-init g c =
    (c.utf8.pattern, [], refl, λ plain. record { wrote = record { parts = []; calls = refl; whole = refl }; plain = plain })

pub loop-run-smaller : goal.loop-run-smaller
loop-run-smaller g c =
    let (i, j, found, run, after, _, _, _) = c.in-Some.ensures.cases in
    shorter_after_slash c.loop-run.rest.now c.in-Some.after.now i j found after

pub loop-run-preserved : goal.loop-run-preserved
loop-run-preserved g c =
    let (i, j, found, run, after, _, _, _) = c.in-Some.ensures.cases in
    let (utf8, written, said, has) = c.loop-run.invariant in (
      subst IsUtf8 (sym after) (text_after_slash c.loop-run.rest.now i j utf8 found),
      (written ++ c.in-Some.run'.now) ++ codes "\\/",
      pattern_goes_on c.args.pattern.now written c.loop-run.rest.now _ _ i j utf8 found run after said,
      λ plain.
          let before = has plain in
          let one = c.in_ok-write_str.ensures.writes before.plain refl in
          has_written_append _ _ _ _ _ _ (has_written_append _ _ _ _ _ _ before one) (c.in_ok-write_str-2.ensures.writes one.plain refl),
    )

pub returns : goal.returns
returns g c = λ plain ok.
    let (utf8, written, said, has) = c.loop-run.invariant in
    let before = has plain in
    has_written_of_eq _ _ _ _ _ (pattern_ends c.args.pattern.now written c.loop-run.rest.now utf8 c.in_default.ensures.cases said) (has_written_append _ _ _ _ _ _ before (c.write_str-2.ensures.writes before.plain ok))
