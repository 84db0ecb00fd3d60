use Rattle.std.proofs.Common.{refl, string_bytes}
use Rattle.filterset_expression.specs.Contexts.{default_of}
use Rattle.filterset_deciding.proofs.Asking.{answers_of_laid}
use Rattle.filterset_deciding.proofs.witness.ask_all.Goals as goal

pub returns-clause-picks : goal.returns-clause-picks
returns-clause-picks c =
    let same = c.as_str.ensures.value in
    let texts = c.query-query.ensures.texts in
    let query = c.query-query.result in
    let group = string_bytes c.args.test.group in
    record {
      test = record {
        query = query;
        group = group;
        kind_is_text = texts.kind;
        binary_name_is_text = texts.binary_name;
        binary_id_is_text = texts.binary_id;
        test_name_is_text = texts.test_name;
        group_is_text = rw same at c.as_str.utf8;
      };
      is_of = record { query = c.query-query.ensures.is_of; group = refl };
      are = answers_of_laid (default_of c.args.cx.now) query group c.args.exprs.now c.in_ok-flats.flats.items c.in_ok-picks.picks.items c.in_ok-flats.ensures
          (rw (same, c.as_slice.ensures.value) at c.in_ok-picks.ensures);
    }
