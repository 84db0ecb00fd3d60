-- How overrides apply to a test, as text.
use Rattle.std.specs.Prelude.{ℕ, List, [], ◌∷◌, ◌++◌, String, codes, slice_get, string_bytes}
use Rattle.std.specs.{List.flat_map, Option.option_map_or, Str.Lines.lines, declared.alloc.Global.Global}
use Rattle.filterset_overrides.specs.{Applying.Text, declared.applying.Application.Application}
use Rattle.filterset_overrides.specs.declared.applying.Application.TheVariants.{Applies, NotPicked, OtherPlatform, UnknownPlatform}
use Rattle.filterset_overrides.specs.declared.applying.ExplainedOverride.{ExplainedOverride}
use Rattle.filterset_overrides.specs.declared.explaining.{ExplainedSetting.ExplainedSetting, Giver.Giver}
use Rattle.filterset_overrides.specs.declared.explaining.Giver.TheVariants.{Override, Unknown, Profile, Nextest}
use Rattle.filterset_overrides.specs.declared.explaining.TestOverrides.{TestOverrides}

abbrev pub application_text : Application → Text
application_text Applies = codes "applies"
application_text NotPicked = codes "does not apply: filter"
application_text OtherPlatform = codes "does not apply: platform"
application_text UnknownPlatform = codes "unknown: platform"

-- the line of an override
abbrev pub override_line : ExplainedOverride → Text
override_line e = e.asked.path.now ++ (codes ": " ++ (application_text e.application ++ codes "\n"))

abbrev pub giver_text : Giver → Text
giver_text (Override path) = path.now
giver_text (Unknown path) = codes "unknown: platform of " ++ path.now
giver_text (Profile name) = codes "profile." ++ name.now
giver_text Nextest = codes "nextest's default"

-- the line of a setting
abbrev pub setting_line : ExplainedSetting → Text
setting_line s = s.key.now ++ (codes ": " ++ (giver_text s.giver ++ codes "\n"))

-- a line, moved right by two blanks
abbrev pub indented_line : Text → Text
indented_line line = codes "  " ++ (line ++ codes "\n")

-- the lines of a text, each moved so
abbrev pub indented : Text → Text
indented text = flat_map indented_line (lines text)

-- the line of each override, and below it the lines of its reason, if there is one
abbrev pub override_lines : List ExplainedOverride → List Text → Text
override_lines [] reasons = []
override_lines (e ∷ es) [] = override_line e ++ override_lines es []
override_lines (e ∷ es) (reason ∷ reasons) = override_line e ++ (indented reason ++ override_lines es reasons)

-- the overrides with their reasons, and below them the settings, a line each
abbrev pub test_overrides_text : TestOverrides → List Text → Text
test_overrides_text explained reasons =
    override_lines explained.overrides.items reasons ++ flat_map setting_line explained.settings.items

-- The reason at a place, or none where there are not as many. Only contracts of private functions cite this.
abbrev pub reason_at : List (String Global) → ℕ → Text
reason_at reasons at = option_map_or string_bytes (slice_get reasons at) []
