-- Literals of globs, and the texts that they stand in.
use Rattle.std.proofs.Common.{◌≡◌, ◌⊎◌, inl, inr, ℕ, List, [], ◌∷◌, ◌++◌, refl, sym, ap, subst, ◌∙◌, append_assoc, IsUtf8}
use Rattle.std.proofs.lemmas.{List.append-nil, Str.encodes-append, Str.encodes-chars}
use Rattle.std.specs.{Prelude.chars, Prelude.encode_utf8, Prelude.encode_utf8_all, Str.Iter.HasSubslice}
use Rattle.filterset_glob.specs.{declared.token.GlobToken.GlobToken, Glob.Glob, Grammar.GlobText}
use Rattle.filterset_glob.specs.Matching.{Matches, MatchesToken}
use Rattle.filterset_glob.specs.Tokens.{Tokens, literal, token_of, tokens_of}
use Rattle.filterset_glob.proofs.SpelledIsRead.{one_list}
use Rattle.filterset_matchers.specs.Literals.{StandsInEach, EndsEach}

-- the last of some tokens, after the others
last_matched : (tokens : List GlobToken) (token : GlobToken) (text : List ℕ) → Matches (tokens_of (tokens ++ token ∷ [])) text
    → (before : List ℕ) × (piece : List ℕ) × (text ≡ before ++ piece) × Matches (tokens_of tokens) before × MatchesToken (token_of token) piece
last_matched [] token text (piece, rest, is, m, none) = ([], piece, is ∙ ap (λ r. piece ++ r) none ∙ append-nil piece, refl, m)
last_matched (x ∷ xs) token text (piece, rest, is, m, ms) =
    let (before, own, same, front, last) = last_matched xs token rest ms in
    (piece ++ before, own, is ∙ ap (λ r. piece ++ r) same ∙ sym (append_assoc piece before own), (piece, before, refl, m, front), last)

-- before the first token nothing was run over
pub none_ends : (tokens : Tokens) → EndsEach tokens []
none_ends tokens text m = (text, [], sym (append-nil text), refl)

-- what each text ends in stands in it
pub ends_stands : (tokens : Tokens) (run : List ℕ) → EndsEach tokens run → StandsInEach tokens run
ends_stands tokens run ends text m =
    let (before, own, eq, bytes) = ends text m in
    (before, own, [], eq ∙ ap (λ x. before ++ x) (sym (append-nil own)), bytes)

-- a literal more
pub run_grows : (tokens : List GlobToken) (token : GlobToken) (c : ℕ) (run : List ℕ) → token_of token ≡ literal c
    → EndsEach (tokens_of tokens) run → EndsEach (tokens_of (tokens ++ token ∷ [])) (run ++ encode_utf8 c)
run_grows tokens token c run is ends text m =
    let (front, piece, same, matched, last) = last_matched tokens token text m in
    let (before, own, eq, bytes) = ends front matched in
    let (d, one, taken) = subst (λ k. MatchesToken k piece) is last in (
      before,
      own ++ c ∷ [],
      same ∙ ap (λ x. x ++ piece) eq ∙ append_assoc before own piece ∙ ap (λ x. before ++ (own ++ x)) (one ∙ ap (λ k. k ∷ []) taken),
      encodes-append own (c ∷ []) ∙ ap (λ x. x ++ encode_utf8_all (c ∷ [])) bytes ∙ ap (λ x. run ++ x) (append-nil (encode_utf8 c)),
    )

-- a token more
pub still_stands : (tokens : List GlobToken) (token : GlobToken) (run : List ℕ) → StandsInEach (tokens_of tokens) run → StandsInEach (tokens_of (tokens ++ token ∷ [])) run
still_stands tokens token run stands text m =
    let (front, piece, same, matched, last) = last_matched tokens token text m in
    let (before, own, after, eq, bytes) = stands front matched in (
      before,
      own,
      after ++ piece,
      same ∙ ap (λ x. x ++ piece) eq ∙ append_assoc before (own ++ after) piece ∙ ap (λ x. before ++ x) (append_assoc own after piece),
      bytes,
    )

-- so it stands in the bytes of each name that is matched
pub stands_in_name : (tokens : Tokens) (needle name : List ℕ) → IsUtf8 name → StandsInEach tokens needle → Matches tokens (chars name) → HasSubslice name needle
stands_in_name tokens needle name utf8 stands m =
    let (before, own, after, eq, bytes) = stands (chars name) m in (
      encode_utf8_all before,
      encode_utf8_all after,
      sym (encodes-chars name utf8) ∙ ap encode_utf8_all eq ∙ encodes-append before (own ++ after)
          ∙ ap (λ x. encode_utf8_all before ++ x) (encodes-append own after ∙ ap (λ x. x ++ encode_utf8_all after) bytes),
    )

-- where a run ends, the longer one of it and the longest one so far still stands in each text
pub longer_stands : (tokens : Tokens) (run longest kept : List ℕ) → EndsEach tokens run → StandsInEach tokens longest → (kept ≡ longest) ⊎ (kept ≡ run) → StandsInEach tokens kept
longer_stands tokens run longest kept ends stands (inl is) = subst (StandsInEach tokens) (sym is) stands
longer_stands tokens run longest kept ends stands (inr is) = subst (StandsInEach tokens) (sym is) (ends_stands tokens run ends)

-- globs of one text are the same
pub one_glob : (a b : Glob) → GlobText (chars a.text) a.tokens → GlobText (chars b.text) b.tokens → a.text ≡ b.text → a ≡ b
one_glob a b read other same =
    let tokens = one_list (chars b.text) a.tokens b.tokens (subst (λ t. GlobText (chars t) a.tokens) same read) other in
    λ i. record { text = same i; tokens = tokens i }
