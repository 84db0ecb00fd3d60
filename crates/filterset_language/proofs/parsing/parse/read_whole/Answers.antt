use Rattle.std.proofs.Common.{◌≡◌, ◌≢◌, ◌≤◌, ℕ, suc, List, [], length, sym, ap, ◌∙◌, arith, true, false}
use Rattle.std.specs.Prelude.{◌==◌}
use Rattle.std.proofs.lemmas.{Bool.eqb-true, List.nil_from_length}
use Rattle.filterset_language.specs.Parsing.Position.{Position, position_of}
use Rattle.filterset_language.specs.Parsing.Descent.{operand_at, or_level_by}
use Rattle.filterset_language.proofs.FaultsStand.{at_text_start}
use Rattle.filterset_language.proofs.WholeTextReading.{whole_read, whole_unread, first_gives, first_found}
use Rattle.filterset_language.proofs.parsing.parse.read_whole.Goals as goal

pub read_or_level-requires : goal.read_or_level-requires
read_or_level-requires c = at_text_start c.new.result c.args.text.now c.new.ensures.value

pub returns-then-is_empty : goal.returns-then-is_empty
returns-then-is_empty c =
    let text = c.args.text.now in
    let le : length c.new.result.rest.now ≤ length text = let e = ap (λ (p : Position). length p.rest) c.new.ensures.value in omega (arith, e) in
    let none : c.skip_blanks.result.rest.now ≡ [] = nil_from_length c.skip_blanks.result.rest.now (eqb-true _ _ (sym c.is_empty.ensures ∙ c.if-is_empty.true)) in
    rw c.unbox-tree.ensures (whole_read text _ c.in_ok-whole.whole.end (position_of c.skip_blanks.result) _ (c.in_ok-whole.ensures.behind.text ∙ c.new.ensures.text) c.skip_blanks.ensures.value
    (first_found _ _ _ _ c.new.ensures.text c.new-faults.ensures.items c.in_ok-whole.ensures.stand)
    none
    (first_gives _ _ _ _ _ _ _ _ c.new.ensures.text c.new-faults.ensures.items (ap (or_level_by (operand_at (suc (length text)))) c.new.ensures.value) (c.in_ok-whole.ensures.value (length text) le)))

pub returns : goal.returns
returns c =
    let text = c.args.text.now in
    let le : length c.new.result.rest.now ≤ length text = let e = ap (λ (p : Position). length p.rest) c.new.ensures.value in omega (arith, e) in
    let some : c.skip_blanks.result.rest.now ≢ [] = λ e. (let f : false ≡ true = sym c.if-is_empty.false ∙ c.is_empty.ensures ∙ ap (λ (t : List ℕ). length t == 0) e in cc) in
    rw c.unbox-tree.ensures (whole_unread text _ c.in_ok-whole.whole.end (position_of c.skip_blanks.result) _ (c.in_ok-whole.ensures.behind.text ∙ c.new.ensures.text) c.skip_blanks.ensures.value
    (first_found _ _ _ _ c.new.ensures.text c.new-faults.ensures.items c.in_ok-whole.ensures.stand)
    some _ (rw c.to_end.ensures at c.in_ok-push.ensures.items)
    (first_gives _ _ _ _ _ _ _ _ c.new.ensures.text c.new-faults.ensures.items (ap (or_level_by (operand_at (suc (length text)))) c.new.ensures.value) (c.in_ok-whole.ensures.value (length text) le)))
