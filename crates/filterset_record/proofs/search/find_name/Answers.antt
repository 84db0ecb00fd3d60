use Rattle.std.proofs.Common.{rules, ◌≡◌, ◌↔◌, ◌∙◌, Bor, IsTrue, false, true, sym}
use Rattle.std.specs.{List.list_any, Str.bytes_eq}
use Rattle.filterset_graph.specs.declared.binary.TestCaseName.{TestCaseName}
use Rattle.filterset_record.specs.Columns.{names_of, IsAt}
use Rattle.filterset_record.proofs.ColumnLemmas.{more_answered, equal_texts, none_found}
use Rattle.filterset_record.proofs.search.find_name.Goals as goal

pub loop-position-preserved : goal.loop-position-preserved
loop-position-preserved c =
    let before = c.loop-position.invariant in
    let name = c.name-item.result in
    let i = c.loop-position.position in
    let at : IsAt (names_of c.args.names.now) i name = search (rules, c.name-item.is, c.deref-name-items.ensures.value, c.loop-position-test.true) in
    let same : c.eq-answer.result ≡ bytes_eq name.now c.args.value.now = search (rules, c.eq-answer.ensures, c.as_str.ensures) in
    let found : IsTrue c.eq-answer.result ↔ (name.now ≡ c.args.value.now) = rw same (equal_texts name.now c.args.value.now) in
    record {
      room = c.put.ensures.room ∙ before.room;
      answered = more_answered _ _ (names_of c.args.names.now) (λ position name. name.now ≡ c.args.value.now) i name c.eq-answer.result before.answered at found c.put.ensures.put;
    }

pub returns-then-not-has_name : goal.returns-then-not-has_name
returns-then-not-has_name c =
    let names = names_of c.args.names.now in
    let none : list_any (λ (name : Bor TestCaseName). bytes_eq name.now c.args.value.now) names ≡ false = search (rules, c.has_name.ensures, c.if-not-has_name.true) in
    record {
      counted = c.same.ensures.len ∙ c.len.ensures;
      each = λ i name at. (
        λ yes. absurd (let clash : false ≡ true = sym (c.same.ensures.same i) ∙ yes in cc),
        λ held. absurd (none_found (λ (name : Bor TestCaseName). bytes_eq name.now c.args.value.now) names i name none at ((equal_texts name.now c.args.value.now).1 held)),
      );
    }
