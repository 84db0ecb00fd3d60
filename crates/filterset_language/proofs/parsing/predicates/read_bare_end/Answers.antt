use Rattle.std.proofs.Common.{◌≡◌, ℕ, Bool, List, length, take, refl, ap, sym, ◌∙◌, false, true, IsUtf8}
use Rattle.std.specs.{Prelude.◌==◌, Str.trim_start}
use Rattle.std.proofs.lemmas.Str.{is_utf8-from_IsUtf8}
use Rattle.filterset_language.specs.Parsing.{Front.close_len, Front.is_white, Position.position_of}
use Rattle.filterset_language.proofs.ClosingParenthesis.{close_boundary, count_is, front_is, bare_end_is, bare_end_none}
use Rattle.filterset_language.proofs.Recovering.{reported, keeps_along, keeps_then, if_ok, refused, recovers_as}
use Rattle.filterset_language.proofs.FaultsStand.{argument_found}
use Rattle.filterset_language.proofs.parsing.predicates.read_bare_end.Goals.{then-not-is_empty+in_ok-push, else-not-is_empty}
use Rattle.filterset_language.proofs.parsing.predicates.read_bare_end.Goals as goal

-- a text is white space where nothing is left of it without white space
white_is : (t r : List ℕ) (v : Bool) → IsUtf8 t → r ≡ trim_start t → v ≡ (length r == 0) → v ≡ is_white t
unfolding is_white
white_is t r v utf8 trimmed empty = let u = is_utf8-from_IsUtf8 t utf8 in rw (u, ← trimmed) empty

pub range-argument-requires-clause-end_boundary : goal.range-argument-requires-clause-end_boundary
range-argument-requires-clause-end_boundary c = close_boundary _ _ (count_is c.args.input c.advance_to_close-end.result (close_len c.args.input.rest.now) c.advance_to_close-end.ensures.value)

pub returns-clause-value : goal.returns-clause-value
returns-clause-value c =
    let front = front_is c.args.input.rest.now c.range-argument.result.now _ c.range-argument.ensures.value (count_is c.args.input c.advance_to_close-end.result (close_len c.args.input.rest.now) c.advance_to_close-end.ensures.value) in
    let read = c.read_close.ensures.value in
    elim c.if-not-is_empty.branch [
      | then-not-is_empty+in_ok-push w ↦
          let black : is_white (take (close_len c.args.input.rest.now) c.args.input.rest.now) ≡ false = ap is_white (sym front) ∙ sym (white_is _ _ _ c.range-argument.utf8 c.trim_start.ensures.trim c.is_empty.ensures) ∙ w.if-not-is_empty.true in
          if_ok c.read_close.result _ _ (λ r v. refused _ _ _ _ _ _ w.in_ok-push.ensures.items v.grows (bare_end_none (position_of c.args.input) black)) (rw w.faults-is at read)
      | else-not-is_empty w ↦
          let white : is_white (take (close_len c.args.input.rest.now) c.args.input.rest.now) ≡ true = ap is_white (sym front) ∙ sym (white_is _ _ _ c.range-argument.utf8 c.trim_start.ensures.trim c.is_empty.ensures) ∙ w.if-not-is_empty.false in
          let same = bare_end_is (position_of c.args.input) (position_of c.advance_to_close-end.result) c.advance_to_close-end.ensures.value white in
          if_ok c.read_close.result _ _ (λ r v. recovers_as _ _ _ _ _ _ v refl (sym same)) (rw w.faults-is at read)
    ]

pub returns-clause-stand : goal.returns-clause-stand
returns-clause-stand c =
    let front = front_is c.args.input.rest.now c.range-argument.result.now _ c.range-argument.ensures.value (count_is c.args.input c.advance_to_close-end.result (close_len c.args.input.rest.now) c.advance_to_close-end.ensures.value) in
    let kept = c.read_close.ensures.stand in
    elim c.if-not-is_empty.branch [
      | then-not-is_empty+in_ok-push w ↦
          let black : is_white (take (close_len c.args.input.rest.now) c.args.input.rest.now) ≡ false = ap is_white (sym front) ∙ sym (white_is _ _ _ c.range-argument.utf8 c.trim_start.ensures.trim c.is_empty.ensures) ∙ w.if-not-is_empty.true in
          let first = reported _ _ _ _ w.in_ok-push.ensures.items (rw w.up_to.ensures (argument_found c.args.input c.advance_to_close-end.result c.advance_to_close-end.ensures.value black)) in
          if_ok c.read_close.result _ _ (λ r keeps. keeps_then _ _ _ _ _ _ refl c.advance_to_close-end.ensures.behind.text first keeps) (rw w.faults-is at kept)
      | else-not-is_empty w ↦ if_ok c.read_close.result _ _ (λ r keeps. keeps_along _ _ _ _ c.advance_to_close-end.ensures.behind.text keeps) (rw w.faults-is at kept)
    ]
