-- Characters that print as they are.
use Rattle.std.specs.Prelude.{◌≡◌, ◌<◌, ℕ, [], ◌∷◌}
use Rattle.filterset_matchers.specs.PrintedMatcher.{printed_char}

-- a character of one byte that prints as it is
abbrev pub IsPlain : ℕ → Type 0
IsPlain c = (c < 128) × (printed_char c ≡ c ∷ [])
