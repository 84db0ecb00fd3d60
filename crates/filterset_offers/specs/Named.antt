-- The names of a workspace.
use Rattle.std.specs.{Prelude.List, Prelude.filter, Prelude.map, Prelude.string_bytes, List.flat_map}
use Rattle.filterset_graph.specs.Packages.{Text}
use Rattle.filterset_offers.specs.{Workspaces.WorkspaceRow, declared.named.Named.Named}
use Rattle.filterset_offers.specs.declared.named.Named.TheVariants.{Binary, BinaryId, Package, Test}

-- the names of what is named so: of the packages of the workspace, of its test binaries, their ids, or the names of their tests
abbrev pub names_in : WorkspaceRow → Named → List Text
names_in w Package = map (λ p. string_bytes p.name) (filter (λ p. p.in_workspace) w.packages)
names_in w Binary = map (λ s. string_bytes s.binary_name) w.suites
names_in w BinaryId = map (λ s. s.binary_id) w.suites
names_in w Test = flat_map (λ s. s.tests.items) w.suites
