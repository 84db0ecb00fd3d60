-- What sets of packages, and parts of texts, tell of each other.
use Rattle.std.proofs.Common.{◌≡◌, ◌↔◌, ◌<◌, ℕ, zero, suc, Bool, true, false, refl, sym, ◌∙◌, ap, subst, List, [], ◌∷◌, ◌++◌, length, get_or, append_assoc, inl, inr, ⊎_elim, arith, IsTrue}
use Rattle.std.specs.Prelude.{Contains, ◌⊎◌, Option, Some, None, if◌then◌else◌, chars, IfSome, IsUtf8, encode_utf8_all, not}
use Rattle.std.specs.{Bool.beq, Str.Iter.HasSubslice}
use Rattle.std.proofs.lemmas.{Bool.false≢true, Bool.and_parts, Str.encodes-chars}
use Rattle.filterset_glob.specs.Matching.{Matches, MatchesToken}
use Rattle.filterset_glob.specs.Tokens.{Token, literal, token_of, tokens_of}
use Rattle.filterset_glob.specs.declared.token.GlobToken.{GlobToken}
use Rattle.filterset_deciding.specs.{Globs.is_literal, Globs.are_literals, Known.IsKnown, Known.IsLiteralOf}
use Rattle.filterset_matchers.specs.Equality.{Compared, Equal, Contains as Contains', Glob, Regex, compared, same_compared, same_compared_Decides}
use Rattle.filterset_matchers.specs.{Matcher.Matcher, Matcher.MatchesName, Pattern.HasMatch}
use Rattle.filterset_matchers.specs.Matcher as matcher

first_or_later : {A : Type 0} (x y : A) (rest : List A) (k : ℕ) → k < length (y ∷ rest) → get_or (y ∷ rest) k x ≡ x → (y ≡ x) ⊎ Contains rest x
first_or_later x y rest zero lt e = inl e
first_or_later x y rest (suc k) lt e = inr (k, omega (arith, lt), e)

-- an element of a list is the first, or among the others
pub contains_cases : {A : Type 0} (x y : A) (rest : List A) → Contains (y ∷ rest) x → (y ≡ x) ⊎ Contains rest x
contains_cases x y rest h = first_or_later x y rest h.0 h.1 h.2

pub contains_none : {A : Type 0} (x : A) → Contains [] x → ⊥
contains_none x h = absurd (let lt : h.0 < 0 = h.1 in omega arith)

-- each element that was passed is so, and the others are left
abbrev pub PassedOrLeft : {A : Type 0} → (A → Type 0) → List A → List A → Type 0
PassedOrLeft {A} P all left = (x : A) → Contains all x → P x ⊎ Contains left x

pub passed_one : {A : Type 0} (P : A → Type 0) (all left rest : List A) (y : A) → left ≡ y ∷ rest → P y → PassedOrLeft P all left → PassedOrLeft P all rest
passed_one P all left rest y e p so_far x h =
    ⊎_elim (λ q. inl q) (λ is_left. ⊎_elim (λ same. inl (subst P same p)) (λ later. inr later) (contains_cases x y rest (subst (λ xs. Contains xs x) e is_left))) (so_far x h)

pub passed_all : {A : Type 0} (P : A → Type 0) (all left : List A) → left ≡ [] → PassedOrLeft P all left → (x : A) → Contains all x → P x
passed_all P all left e so_far x h =
    ⊎_elim (λ p. p) (λ is_left. absurd (contains_none x (subst (λ xs. Contains xs x) e is_left))) (so_far x h)

-- a part of a part is a part
pub part_of_part : (text part inner : List ℕ) → HasSubslice text part → HasSubslice part inner → HasSubslice text inner
part_of_part text part inner (a, b, e) (c, d, f) =
    (a ++ c, d ++ b, e ∙ ap (λ p. a ++ (p ++ b)) f ∙ regrouped a b c d inner)
  where
    regrouped : (a b c d x : List ℕ) → a ++ ((c ++ (x ++ d)) ++ b) ≡ (a ++ c) ++ (x ++ (d ++ b))
    regrouped a b c d x = simp append_assoc

-- what is kept only where a test passes
pub only_known : (is_so value : Bool) (r : Option Bool) (P : Type 0) → r ≡ (if is_so then Some value else None)
    → (is_so ≡ true → (IsTrue value ↔ P)) → IsKnown r P
only_known true value r P e known = subst (λ o. IsKnown o P) (sym e) (known refl)
only_known false value r P e known = subst (λ o. IsKnown o P) (sym e) tt

pub whole_has_part : (text part inner : List ℕ) (hit : Bool) → (IsTrue true ↔ HasSubslice text part) → (IsTrue hit ↔ HasSubslice part inner)
    → hit ≡ true → (IsTrue true ↔ HasSubslice text inner)
whole_has_part text part inner hit says hits h = (λ e. part_of_part text part inner (says.0 refl) (hits.0 h), λ x. refl)

pub part_misses_whole : (text part whole : List ℕ) (hit : Bool) → (IsTrue false ↔ HasSubslice text part) → (IsTrue hit ↔ HasSubslice whole part)
    → hit ≡ true → (IsTrue false ↔ HasSubslice text whole)
part_misses_whole text part whole hit says hits h =
    (λ e. absurd (false≢true e), λ has. says.1 (part_of_part text whole part has (hits.0 h)))

unequal : (hit value : Bool) → IsTrue (not (beq hit value)) → (P : Type 0) → (IsTrue hit ↔ P) → (IsTrue value ↔ P) → ⊥
unequal true true e P h k = false≢true e
unequal true false e P h k = false≢true (k.1 (h.0 refl))
unequal false true e P h k = false≢true (h.1 (k.0 refl))
unequal false false e P h k = false≢true e

-- a literal of which another matcher says otherwise is not the text
pub literal_refuted : (m n : Matcher) (only : List ℕ) (value hit : Bool) → IsLiteralOf n only → (IsTrue hit ↔ MatchesName m only)
    → IsTrue (not (beq hit value)) → (text : List ℕ) → IsUtf8 text → (IsTrue value ↔ MatchesName m text) → (IsTrue false ↔ MatchesName n text)
literal_refuted m n only value hit alone hits differ text utf8 says = (
  λ e. absurd (false≢true e),
  λ h.
      let same : text ≡ only = (alone text utf8).0 h in
      let own : IsTrue value ↔ MatchesName m only = (λ e. subst (MatchesName m) same (says.0 e), λ k. says.1 (subst (MatchesName m) (sym same) k)) in
      absurd (unequal hit value differ (MatchesName m only) hits own),
)

one_text : (token : Token) (p q : List ℕ) → is_literal token ≡ true → MatchesToken token p → MatchesToken token q → p ≡ q
one_text (literal c) p q e (d, is, same) (f, also, other) = is ∙ ap (λ x. x ∷ []) (same ∙ sym other) ∙ sym also
one_text _ p q e m n = absurd (false≢true e)

-- literals match one text alone
pub literals_match_one : (tokens : List GlobToken) (x y : List ℕ) → are_literals tokens ≡ true → Matches (tokens_of tokens) x → Matches (tokens_of tokens) y → x ≡ y
literals_match_one [] x y e m n = m ∙ sym n
literals_match_one (t ∷ tokens) x y e (p, rest, is, own, others) (q, left, also, same, more) =
    let parts = and_parts (is_literal (token_of t)) (are_literals tokens) e in
    is ∙ (λ i. one_text (token_of t) p q parts.0 own same i ++ literals_match_one tokens rest left parts.1 others more i) ∙ sym also

pub literal_glob : (tokens : List GlobToken) (own only : List ℕ) (implicit : Bool) → IsUtf8 only → are_literals tokens ≡ true
    → Matches (tokens_of tokens) (chars only) → IsLiteralOf (matcher.Glob own (tokens_of tokens) implicit) only
literal_glob tokens own only implicit is_text e m text utf8 = (
  λ h.
      let same = literals_match_one tokens (chars text) (chars only) e h m in
      sym (encodes-chars text utf8) ∙ ap encode_utf8_all same ∙ encodes-chars only is_text,
  λ same. subst (λ t. Matches (tokens_of tokens) (chars t)) (sym same) m,
)

-- what is compared of a matcher tells what it hits
abbrev MatchesCompared : Compared → List ℕ → Type 0
MatchesCompared (Equal value implicit) text = text ≡ value
MatchesCompared (Contains' value implicit) text = HasSubslice text value
MatchesCompared (Glob tokens) text = Matches tokens (chars text)
MatchesCompared (Regex pattern) text = HasMatch pattern text

matches_compared : (m : Matcher) (text : List ℕ) → MatchesName m text ≡ MatchesCompared (compared m) text
matches_compared (matcher.Equal value implicit) text = refl
matches_compared (matcher.Contains value implicit) text = refl
matches_compared (matcher.Glob own tokens implicit) text = refl
matches_compared (matcher.Regex pattern) text = refl

-- equal matchers hit the same texts
pub same_matches : (m n : Matcher) (text : List ℕ) → same_compared (compared m) (compared n) ≡ true → MatchesName m text ≡ MatchesName n text
same_matches m n text e =
    let same = (same_compared_Decides (compared m) (compared n)).0 e in
    matches_compared m text ∙ ap (λ k. MatchesCompared k text) same ∙ sym (matches_compared n text)

-- the two cannot be of one package
pub apart : (hit value : Bool) (P : Type 0) → beq hit value ≡ false → (IsTrue hit ↔ P) → (IsTrue value ↔ P) → ⊥
apart true true P e h k = false≢true (sym e)
apart true false P e h k = false≢true (k.1 (h.0 refl))
apart false true P e h k = false≢true (h.1 (k.0 refl))
apart false false P e h k = false≢true (sym e)

pub some_weaker : {X : Type 0} (o : Option X) (P Q : X → Type 0) → ((x : X) → P x → Q x) → IfSome o P → IfSome o Q
some_weaker None P Q f h = tt
some_weaker (Some x) P Q f h = f x h
