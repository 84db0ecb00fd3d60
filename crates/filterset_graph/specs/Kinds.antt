-- The texts of kinds.
use Rattle.std.specs.Prelude.{List, ℕ, string_bytes}
use Rattle.filterset_graph.specs.declared.binary.KindText.{KindText, TheVariants.Fixed, TheVariants.Owned}

-- the text of a kind
abbrev pub text_of : KindText → List ℕ
text_of (Fixed text) = text.now
text_of (Owned text) = string_bytes text
