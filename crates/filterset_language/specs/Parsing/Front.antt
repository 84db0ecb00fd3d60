-- What a text begins with.
use Rattle.std.specs.Prelude.{ℕ, suc, Bool, List, [], ◌∷◌, length, ◌==◌, ◌&&◌, if◌then◌else◌}
use Rattle.std.specs.Str.{is_utf8, trim_start}
use Rattle.filterset_glob.specs.Signs.{◌∈◌}
use Rattle.filterset_language.specs.Parsing.Seam.{is_blank, is_line_end}

-- how many bytes the blank at the front has, or 0
abbrev pub blank_len : List ℕ → ℕ
blank_len [] = 0
blank_len (b ∷ []) = if is_blank b then 1 else 0
blank_len (b ∷ c ∷ t) = if is_blank b then 1 else (if is_line_end b c then 2 else 0)

-- how many bytes stand before the next `)`
abbrev pub close_len : List ℕ → ℕ
close_len [] = 0
close_len (b ∷ t) = if b ∈ ")" then 0 else suc (close_len t)

-- whether the text is white space alone
unfoldable pub is_white : List ℕ → Bool
is_white t = is_utf8 t && (length (trim_start t) == 0)
