use Rattle.std.proofs.{Common.inl, Common.inr, Common.◌⊎◌, lemmas.Result.IfOk-weaker}
use Rattle.serde_json.specs.{Data.Data, View.view}
use Rattle.filterset_graph.specs.Packages.{ids}
use Rattle.filterset_json.specs.Places.{Place}
use Rattle.filterset_sources.specs.Metadata.{IsParts, WrongParts, WrongWhole}
use Rattle.filterset_sources.specs.declared.metadata.parts.Parts.{Parts}
use Rattle.filterset_sources.proofs.ShapeLemmas.{Refused-if, entry_handed_on}
use Rattle.filterset_sources.proofs.metadata.read_metadata.Goals as goal

-- the first place of a file that is wrong
abbrev WrongIn : Data → Place → Type 0
WrongIn d place = WrongParts d place ⊎ ((parts : Parts) × IsParts d parts
    × WrongWhole (ids parts.packages.items) parts.members.items parts.resolve.nodes.items place)

pub returns-in_err-parts-clause-refused : goal.returns-in_err-parts-clause-refused
returns-in_err-parts-clause-refused c =
    entry_handed_on (WrongParts (view c.args.value.now)) (WrongIn (view c.args.value.now)) c.from_residual.result c.in_err-parts.field-0.0 c.from_residual.ensures.1 (λ place wrong. inl wrong) c.in_err-parts.ensures.place

pub returns-clause-read : goal.returns-clause-read
returns-clause-read c = IfOk-weaker c.join.result _ _ (λ graph is. (c.in_ok-parts.parts, c.in_ok-parts.ensures.read, is.0, is.1)) c.join.ensures.ok

pub returns-clause-refused : goal.returns-clause-refused
returns-clause-refused c =
    let parts = c.in_ok-parts.parts in
    Refused-if (WrongWhole (ids parts.packages.items) parts.members.items parts.resolve.nodes.items) (WrongIn (view c.args.value.now))
    c.join.result (λ place wrong. inr (parts, c.in_ok-parts.ensures.read, wrong)) c.join.ensures.refused
