-- Which sequences begin and end a colour.
use Rattle.std.specs.Prelude.{[], ◌∷◌, codes}
use Rattle.filterset_display.specs.declared.color.Color.{Color, TheVariants.Never, TheVariants.Always}
use Rattle.filterset_display.specs.declared.remark.Severity.{Severity, TheVariants.Error, TheVariants.Warning}
use Rattle.filterset_display.specs.Columns.{Text}

abbrev pub red : Text
red = 27 ∷ codes "[1;31m"

abbrev pub yellow : Text
yellow = 27 ∷ codes "[1;33m"

abbrev pub blue : Text
blue = 27 ∷ codes "[1;34m"

abbrev pub plain : Text
plain = 27 ∷ codes "[0m"

-- a sequence where drawings have colours, and nothing where they have none
abbrev pub painted : Color → Text → Text
painted Never sequence = []
painted Always sequence = sequence

-- the colour of errors, and that of warnings
abbrev pub mark_of : Severity → Text
mark_of Error = red
mark_of Warning = yellow
