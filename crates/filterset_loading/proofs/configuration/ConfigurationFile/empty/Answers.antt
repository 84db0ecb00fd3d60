use Rattle.std.proofs.Common.{◌≡◌, ◌∙◌, List, [], Ok, Some, ap, map, string_bytes, sym}
use Rattle.toml.specs.{Data.Data, Data.no_members, Data.table, View.members_view, View.view}
use Rattle.toml.specs.declared.value.Value.{Table}
use Rattle.toml.proofs.{OnLiterals.toml_on_literals, Views.view-Table}
use Rattle.std.specs.Prelude.{codes}
use Rattle.filterset_sources.specs.Configurations.{IsConfiguration, all_filters, configured_rows, keys_of}
use Rattle.filterset_sources.specs.Sections.{members_under, sections_of}
use Rattle.filterset_sources.specs.declared.configuration.{Configuration.Configuration, ConfiguredFilterset.ConfiguredFilterset}
use Rattle.filterset_loading.proofs.configuration.ConfigurationFile.empty.Goals as goal

-- an empty table is the configuration of an empty text
empty_is : (c : Configuration) → view c.file ≡ table no_members → c.filtersets.items ≡ [] → c.groups.items ≡ [] → IsConfiguration [] c
unfolding toml_on_literals
empty_is c file filtersets groups = (
  ∣ ap Some (sym file) ∣₁,
  ap (λ (d : Data). all_filters (sections_of d)) file ∙ sym (ap (λ (rows : List ConfiguredFilterset). Ok (configured_rows rows)) filtersets),
  ap (map (λ s. string_bytes s)) groups ∙ sym (ap (λ (d : Data). keys_of (members_under (codes "test-groups") d)) file),
)

pub returns-clause-configuration : goal.returns-clause-configuration
returns-clause-configuration c =
    let file = view-Table c.new-4.result ∙ ap (λ es. table (members_view es)) c.new-4.ensures.empty in
    let made : Configuration = record { filtersets = c.new-2.result; groups = c.new-3.result; file = Table c.new-4.result } in
    empty_is made file c.new-2.ensures.items c.new-3.ensures.items
