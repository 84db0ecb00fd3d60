use Rattle.std.proofs.Common.{rules, arith, ◌≡◌, [], ap, length, map, refl, sym}
use Rattle.std.proofs.lemmas.List.{append-nil, length-map}
use Rattle.nextest_filtering.specs.Compiling.{packages_of}
use Rattle.filterset_display.specs.Remarks.{remark_row}
use Rattle.filterset_listing.specs.Finding.{found_of, unmatched_of}
use Rattle.filterset_language.specs.Views.{tree_of}
use Rattle.filterset_asking.specs.Warnings.{of_faulty, of_filterset, remarks_of}
use Rattle.filterset_asking.proofs.texts.push_text.Goals as goal

pub returns-in-Err : goal.returns-in-Err
returns-in-Err c = ([], sym (append-nil _), of_faulty c.in-Err._faults (search rules) refl refl)

pub returns : goal.returns
returns c =
    let cx = c.args.cx.now in
    let hints = c.in_ok-hints.hints in
    let packages = packages_of cx.parse_context in
    let made = rw c.in-Ok.is at c.in_ok-filterset.ensures.made in
    let unmatched = rw c.as_slice-subjects.ensures.value at (c.in_ok-hints.ensures.unmatched packages made.compiled) in
    let needless = rw c.as_slice-subjects.ensures.value at (c.in_ok-hints.ensures.needless packages made.compiled) in
    let remarks = c.in_ok-remarks.remarks.items in
    let all = remarks_of (unmatched_of hints.unmatched.items) (found_of hints.needless.items) in
    let same : map remark_row remarks ≡ all = c.in_ok-remarks.ensures in
    let count : c.len.result ≡ length all =
    omega (arith, c.len.ensures, c.in_ok-remarks.remarks.ok.0, length-map remarks remark_row, ap length same) in
    let wrote = rw (c.in_ok-source.ensures.origin, c.in_ok-source.ensures.text, c.as_str.ensures.value, c.as_slice.ensures.value, same) at c.in_ok-push_all.ensures in (
      wrote.0,
      wrote.1,
      of_filterset (tree_of c.in-Ok.filterset.parsed) (unmatched_of hints.unmatched.items) (found_of hints.needless.items)
          made.accepted unmatched needless count wrote.2,
    )
