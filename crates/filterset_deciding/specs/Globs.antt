-- Globs of literals.
use Rattle.std.specs.Prelude.{◌&&◌, Bool, true, false, List, [], ◌∷◌}
use Rattle.filterset_glob.specs.{Tokens.Token, Tokens.literal, Tokens.token_of, declared.token.GlobToken.GlobToken}

abbrev pub is_literal : Token → Bool
is_literal (literal c) = true
is_literal _ = false

abbrev pub are_literals : List GlobToken → Bool
are_literals [] = true
are_literals (token ∷ tokens) = is_literal (token_of token) && are_literals tokens
