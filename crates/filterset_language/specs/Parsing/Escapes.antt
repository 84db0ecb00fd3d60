-- How an escape is read. Public contracts cite `Escape` instead.
use Rattle.std.specs.Prelude.{ℕ, ◌+◌, ◌*◌, List, [], ◌∷◌, nat_lt, ◌&&◌, ◌==◌, Option, Some, None, if◌then◌else◌}
use Rattle.std.specs.Option.{option_map, option_and_then}
use lib.Utf8.{scalar}
use Rattle.filterset_glob.specs.Signs.{sign, ◌∈◌}
use Rattle.filterset_grammar.specs.Text.{hex_value}
use Rattle.filterset_language.specs.declared.parsing.escapes.Escape.{Escape}

-- the character of an escape, and how many bytes it has after its backslash
abbrev pub seen_escape : Escape → ℕ × ℕ
seen_escape e = (e.character, e.len)

-- what a letter after a backslash stands for
abbrev pub letter_at : ℕ → Option ℕ
letter_at l =
    if l ∈ "n" then Some (sign "\n")
    else (if l ∈ "r" then Some (sign "\r")
    else (if l ∈ "t" then Some (sign "\t")
    else (if l ∈ "b" then Some 8
    else (if l ∈ "f" then Some 12
    else (if l ∈ "\\" then Some (sign "\\")
    else (if l ∈ "/" then Some (sign "/")
    else (if l ∈ ")" then Some (sign ")")
    else (if l ∈ "," then Some (sign ",")
    else None))))))))

abbrev pub digit_at : ℕ → Option ℕ
digit_at b = if nat_lt (hex_value b) 16 then Some (hex_value b) else None

-- the escape of so many digits with the number, where it names a character
abbrev pub named : ℕ → ℕ → Option (ℕ × ℕ)
named seen code = if seen == 0 then None else (if scalar code then Some (code, seen + 3) else None)

-- the rest of an escape after so many digits, which have the number
abbrev pub code_from : ℕ → ℕ → List ℕ → Option (ℕ × ℕ)
code_from seen code [] = None
code_from seen code (b ∷ t) =
    if b ∈ "}" then named seen code
    else (if seen == 6 then None
    else option_and_then (λ d. code_from (seen + 1) (16 * code + d) t) (digit_at b))

-- the character of an escape, and how many bytes it has after its backslash
abbrev pub escape_at : List ℕ → Option (ℕ × ℕ)
escape_at [] = None
escape_at (b ∷ []) = option_map (λ c. (c, 1)) (letter_at b)
escape_at (b ∷ c ∷ t) =
    if (b ∈ "u") && (c ∈ "{") then code_from 0 0 t else option_map (λ c. (c, 1)) (letter_at b)
