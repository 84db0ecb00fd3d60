use Rattle.filterset_documents.proofs.refusals.refusal_value.Goals as goal

pub returns-in-NotToml : goal.returns-in-NotToml
returns-in-NotToml c = rw c.in-NotToml.is c.toml_value.ensures
