use Rattle.std.proofs.lemmas.Result.{IfOk-weaker}
use Rattle.filterset_deciding.proofs.inferring.infer.Goals as goal

pub returns-in-Kind-Kind : goal.returns-in-Kind-Kind
returns-in-Kind-Kind c =
    rw (c.in-Kind-Kind.is-0, c.in-Kind-Kind.is-1) (IfOk-weaker c.infer_matcher.result _ _ (λ inferred known test. known test.query.binary_query.kind.now test.kind_is_text) c.infer_matcher.ensures)

pub returns-in-Binary-Binary : goal.returns-in-Binary-Binary
returns-in-Binary-Binary c =
    rw (c.in-Binary-Binary.is-0, c.in-Binary-Binary.is-1) (IfOk-weaker c.infer_matcher-in-Binary-Binary.result _ _ (λ inferred known test. known test.query.binary_query.binary_name.now test.binary_name_is_text) c.infer_matcher-in-Binary-Binary.ensures)

pub returns-in-BinaryId-BinaryId : goal.returns-in-BinaryId-BinaryId
returns-in-BinaryId-BinaryId c =
    rw (c.in-BinaryId-BinaryId.is-0, c.in-BinaryId-BinaryId.is-1) (IfOk-weaker c.infer_matcher-in-BinaryId-BinaryId.result _ _ (λ inferred known test. known test.query.binary_query.binary_id.now test.binary_id_is_text) c.infer_matcher-in-BinaryId-BinaryId.ensures)

pub returns-in-Test-Test : goal.returns-in-Test-Test
returns-in-Test-Test c =
    rw (c.in-Test-Test.is-0, c.in-Test-Test.is-1) (IfOk-weaker c.infer_matcher-in-Test-Test.result _ _ (λ inferred known test. known test.query.test_name.now test.test_name_is_text) c.infer_matcher-in-Test-Test.ensures)

pub returns-in-Group-Group : goal.returns-in-Group-Group
returns-in-Group-Group c =
    rw (c.in-Group-Group.is-0, c.in-Group-Group.is-1) (IfOk-weaker c.infer_matcher-in-Group-Group.result _ _ (λ inferred known test. known test.group test.group_is_text) c.infer_matcher-in-Group-Group.ensures)
