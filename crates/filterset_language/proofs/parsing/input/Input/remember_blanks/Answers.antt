use Rattle.std.proofs.Common.{◌≡◌, ℕ, ◌+◌, ◌-◌, List, length, drop, IsUtf8, IsCharBoundary, sym, ap, ◌∙◌, subst, arith}
use Rattle.std.proofs.lemmas.{List.drop_at, Str.IsUtf8-from_is_utf8, Str.IsCharBoundary-at_seam}
use Rattle.filterset_language.specs.Parsing.Seam.{Position, position, skip_from, AreBlanks}
use Rattle.filterset_language.proofs.{Positions.skip_stop, StepsTakeText.Skipped, StepsTakeText.skip_takes}
use Rattle.filterset_language.proofs.parsing.input.Input.remember_blanks.Goals as goal

-- the blanks between a position and the one after them
between : (at to : ℕ) (t u : List ℕ) → position to u ≡ skip_from at t → Skipped (position at t) (position to u)
between at to t u e = subst (λ (p : Position). Skipped (position at t) p) (sym e) (skip_takes t at)

blanks_between : (at to : ℕ) (t u : List ℕ) → IsUtf8 u → position to u ≡ skip_from at t → AreBlanks at t (to - at)
blanks_between at to t u utf8 e =
    let k = between at to t u e in
    let count : to - at ≡ length k.blanks = omega (arith, k.takes.offset) in
    let there : at + (to - at) ≡ to = omega (arith, k.takes.offset) in
    let onward : drop (to - at) t ≡ u = ap (drop (to - at)) k.takes.parts ∙ drop_at k.blanks u (to - at) (sym count) in
    record {
      boundary = subst (IsCharBoundary t) (sym count) (IsCharBoundary-at_seam t k.blanks u k.takes.parts utf8);
      same = ap (λ (n : ℕ). skip_from n (drop (to - at) t)) there ∙ ap (skip_from to) onward ∙ skip_stop to u k.stop ∙ e;
    }

pub overflow_sub-result : goal.overflow_sub-result
overflow_sub-result c =
    let k = between c.args.self.offset c.args.start.offset c.args.self.rest.now c.args.start.rest.now c.requires.skipped in
    omega (arith, k.takes.offset)

pub invariant_of-result-clause-skipped : goal.invariant_of-result-clause-skipped
invariant_of-result-clause-skipped c = blanks_between _ _ _ _ (IsUtf8-from_is_utf8 _ c.args.start.seam.utf8) c.requires.skipped
