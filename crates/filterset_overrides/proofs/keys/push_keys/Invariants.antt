use Rattle.std.proofs.Common.{◌++◌, List, map, string_bytes, take}
use Rattle.filterset_overrides.specs.{Applying.Text, Giving.AreDistinctOf}
use Rattle.filterset_overrides.proofs.keys.push_keys.Given as goal

-- the keys so far were added
abbrev pub invariant-loop-setting : goal.invariant-loop-setting
invariant-loop-setting l =
    (all : List Text) → AreDistinctOf all (map (λ k. k.now) l.initial.keys.items)
    → AreDistinctOf (all ++ map string_bytes (take l.setting-index l.settings)) (map (λ k. k.now) l.keys.items)
