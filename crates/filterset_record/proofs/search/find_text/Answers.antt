use Rattle.std.proofs.{Common.◌≡◌, Common.◌∙◌, Common.length, Common.sym, lemmas.Bool.eqb-true}
use Rattle.filterset_record.proofs.HitLemmas.{has_nothing}
use Rattle.filterset_record.proofs.search.find_text.Goals as goal

pub returns-then-is_empty : goal.returns-then-is_empty
returns-then-is_empty c =
    let zero : length c.args.value.now ≡ 0 = eqb-true _ 0 (sym c.is_empty.ensures ∙ c.if-is_empty.true) in
    record {
      counted = c.same.ensures.len ∙ c.len.ensures;
      each = λ i name at. (λ yes. has_nothing name.now c.args.value.now zero, λ has. c.same.ensures.same i);
    }
