use Rattle.std.proofs.Common.{◌≡◌, ◌++◌}
use Rattle.toml.specs.View.{members_view}
use Rattle.filterset_configuration.specs.Wrong.{name_values, value_rows}
use Rattle.filterset_configuration.proofs.walking.Walk.push_reserved.Given as goal

-- the names of the other members are left
abbrev pub invariant-loop-name : goal.invariant-loop-name
invariant-loop-name l = value_rows l.self.values.items ++ name_values l.key l.role (members_view l.name-iterator)
    ≡ value_rows l.initial.self.values.items ++ name_values l.key l.role (members_view l.initial.name-iterator)
