-- Heads, as the code reads them.
use Rattle.std.specs.Prelude.{◌==◌, ◌≤◌, ◌+◌, ℕ, zero, suc, Option, None, Some, IfSome, drop, length, take, if◌then◌else◌}
use Rattle.std.specs.Option.{option_map_or}
use Rattle.filterset_display.specs.Frames.{Bytes, behind_line, line_len, most_of_head, most_of_message}
use Rattle.filterset_display.specs.declared.head.Head.{Head}
use Rattle.filterset_display.specs.declared.head.Head.TheVariants.{Partial, Malformed, Whole}

-- the head after an empty line, before which these bytes are
abbrev pub ended : ℕ → Option ℕ → Head
ended at None = Malformed
ended at (Some length) = Whole (at + 2) length

-- the head of which these bytes are read, in at most n lines
unfoldable pub head_from : ℕ → ℕ → Option ℕ → Bytes → Head
head_from zero at found text = Partial
head_from (suc n) at found text =
    option_map_or (λ len. if len == 0 then ended at found
    else option_map_or (λ now. head_from n (at + (len + 2)) now (drop (len + 2) text)) (behind_line found (take len text)) Malformed)
    (line_len text) Partial

-- the head at the front of a text
abbrev pub head_of : Bytes → Head
head_of text = head_from (suc (length text)) 0 None text

-- the head ends within a text of this length, and gives a length that is allowed
abbrev pub IsWithin : ℕ → Head → Type 0
IsWithin len (Whole head length) = (head ≤ len) × (length ≤ most_of_message)
IsWithin len Partial = Unit {0}
IsWithin len Malformed = Unit {0}

-- a length, if there is one, is allowed
abbrev pub IsBounded : Option ℕ → Type 0
IsBounded found = IfSome found (λ n. n ≤ most_of_message)

-- the part of a stream that can have a head
abbrev pub front : Bytes → Bytes
front stream = take most_of_head stream
