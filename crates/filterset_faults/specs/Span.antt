-- The two numbers of a span.
use Rattle.std.specs.Prelude.{◌≡◌, ℕ}
use Rattle.filterset_faults.specs.declared.span.SourceSpan.{SourceSpan}

abbrev pub offset_of : SourceSpan → ℕ
offset_of s = s.offset

abbrev pub length_of : SourceSpan → ℕ
length_of s = s.len

-- the span has the two numbers of the pair
abbrev pub IsSpanOf : ℕ × ℕ → SourceSpan → Type 0
IsSpanOf pair s = (s.offset ≡ pair.0) × (s.len ≡ pair.1)

-- the span of these two numbers
abbrev pub span : ℕ → ℕ → SourceSpan
span offset len = record { offset = offset; len = len }
