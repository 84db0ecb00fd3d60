use Rattle.filterset_graph.specs.Packages.{AllDiffer, IsFirstRepeat, IsFirstUnknownLink, ids}
use Rattle.filterset_sources.proofs.GraphLemmas.{unknown-link}
use Rattle.filterset_sources.proofs.metadata.graph_of.Goals as goal

pub returns-in-Err-RepeatedId-clause-refused : goal.returns-in-Err-RepeatedId-clause-refused
returns-in-Err-RepeatedId-clause-refused c =
    λ differ known.
    let first : IsFirstRepeat (ids c.args.packages.items) c.in-Err-RepeatedId.at = rw c.in-Err-RepeatedId.field-0-is at c.in-Err-RepeatedId.ensures.refused in
    absurd (differ _ first.0)

pub returns-in-Err-UnknownLink-clause-refused : goal.returns-in-Err-UnknownLink-clause-refused
returns-in-Err-UnknownLink-clause-refused c =
    λ differ known.
    let first : AllDiffer (ids c.args.packages.items) × IsFirstUnknownLink c.args.packages.items c.in-Err-UnknownLink.package c.in-Err-UnknownLink.link = rw c.in-Err-UnknownLink.field-0-is at c.in-Err-UnknownLink.ensures.refused in
    absurd (unknown-link _ _ _ first.1.0 known)
