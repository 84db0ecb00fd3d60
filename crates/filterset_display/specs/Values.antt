-- Values of messages: at paths of keys, and objects.
use Rattle.std.specs.Prelude.{ℕ, ℤ, List, [], ◌∷◌, Option, codes, option_and_then, option_map}
use Rattle.serde_json.specs.Data.{Data, Items, Members, object, member, no_members}
use Rattle.serde_json.specs.Find.{as_array, as_i64, as_number, as_str, as_u64, pointer}
use Rattle.filterset_display.specs.{Positions.Text, declared.positions.Position.Position, declared.positions.Range.Range}

-- the text at a path of keys, if it is one
abbrev pub text_at : Text → Data → Option Text
text_at path d = option_and_then as_str (pointer path d)

abbrev pub natural_at : Text → Data → Option ℕ
natural_at path d = option_and_then (λ e. option_and_then as_u64 (as_number e)) (pointer path d)

abbrev pub integer_at : Text → Data → Option ℤ
integer_at path d = option_and_then (λ e. option_and_then as_i64 (as_number e)) (pointer path d)

abbrev pub position_in : Data → Option Position
position_in d = option_and_then (λ line. option_map (λ character. record { line = line; character = character })
    (natural_at (codes "/character") d)) (natural_at (codes "/line") d)

abbrev pub position_at : Text → Data → Option Position
position_at path d = option_and_then position_in (pointer path d)

abbrev pub range_in : Data → Option Range
range_in d = option_and_then (λ start. option_map (λ end. record { start = start; end = end }) (position_at (codes "/end") d))
    (position_at (codes "/start") d)

unfoldable pub range_at : Text → Data → Option Range
range_at path d = option_and_then range_in (pointer path d)

abbrev pub array_at : Text → Data → Option Items
array_at path d = option_and_then as_array (pointer path d)

-- a name and its value
abbrev pub Pair : Type 0
Pair = Text × Data

abbrev pub members_with : List Pair → Members
members_with [] = no_members
members_with (pair ∷ pairs) = member pair.0 pair.1 (members_with pairs)

-- the object that has these names and values
abbrev pub object_of : List Pair → Data
object_of pairs = object (members_with pairs)
