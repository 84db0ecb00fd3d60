-- How a text ends that tokens match: in their last literal.
use Rattle.std.proofs.Common.{◌≡◌, ℕ, ◌<◌, List, [], ◌∷◌, ◌++◌, sym, ap, subst, ◌∙◌, append_assoc, append-nil, IsUtf8}
use Rattle.std.specs.Str.{chars}
use Rattle.std.proofs.lemmas.Str.{encodes-append, encodes-chars, encode_ascii}
use lib.Utf8.{encodes, encode}
use Rattle.filterset_glob.specs.declared.token.GlobToken.{GlobToken, Literal}
use Rattle.filterset_glob.specs.{Grammar.◌⊕◌, Matching.Matches}
use Rattle.filterset_glob.specs.Tokens.{Tokens, no_token, next_token, literal, tokens_of}
use Rattle.filterset_glob.proofs.Opened.{tokens_of-append}

-- the characters end in the literal
ends_in_literal : (front : Tokens) (c : ℕ) (t : List ℕ) → Matches (front ⊕ next_token (literal c) no_token) t → (start : List ℕ) × (t ≡ start ++ c ∷ [])
ends_in_literal no_token c t (piece, rest, is, (d, one, d_is), none) = ([], is ∙ ap (λ r. piece ++ r) none ∙ append-nil piece ∙ one ∙ ap (λ x. x ∷ []) d_is)
ends_in_literal (next_token a more) c t (piece, rest, is, _, ms) =
    let (start, rest_is) = ends_in_literal more c rest ms in
    (piece ++ start, is ∙ ap (λ r. piece ++ r) rest_is ∙ sym (append_assoc piece start (c ∷ [])))

-- and so do the bytes, where it is of ASCII
pub ends_in_byte : (front : List GlobToken) (c : ℕ) (bytes : List ℕ) → IsUtf8 bytes → c < 128 → Matches (tokens_of (front ++ Literal c ∷ [])) (chars bytes) → (start : List ℕ) × (bytes ≡ start ++ c ∷ [])
ends_in_byte front c bytes utf8 ascii m =
    let (start, is) = ends_in_literal (tokens_of front) c (chars bytes) (subst (λ (ts : Tokens). Matches ts (chars bytes)) (tokens_of-append front (Literal c ∷ [])) m) in
    (encodes start, sym (encodes-chars bytes utf8) ∙ ap encodes is ∙ encodes-append start (c ∷ []) ∙ ap (λ x. encodes start ++ x) (append-nil (encode c) ∙ encode_ascii c ascii))
