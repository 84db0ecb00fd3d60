-- When matchers are equal.
use Rattle.std.specs.Prelude.{◌≡◌, ℕ, ◌&&◌, Bool, true, false, List, refl}
use Rattle.std.specs.{Bool.Decides, Bool.beq, Str.bytes_eq}
use Rattle.std.specs.Cmp.{IsEquivalence, decided, on_equiv, booleans_Decides}
use Rattle.std.proofs.Common.{ap, subst}
use Rattle.std.proofs.lemmas.{Bool.and_parts, Bool.and_from, Bool.false≢true, Slice.Eq.bytes_eq-Decides}
use Rattle.filterset_glob.specs.Equality.{same_tokens, same_tokens_is, same_tokens_self}
use Rattle.filterset_glob.specs.Tokens.{Tokens}
use Rattle.filterset_matchers.specs.Matcher as matcher
use Rattle.filterset_matchers.specs.{Matcher.Matcher, Matchers.matcher_of, declared.matcher.NameMatcher.NameMatcher}

-- what of a matcher is compared: of a glob its tokens alone, whatever its text and its sign are, and of the others all
pub data Compared : Type 0 where
  Equal Contains : (value : List ℕ) (implicit : Bool) → Compared
  Glob : Tokens → Compared
  Regex : (pattern : List ℕ) → Compared

abbrev pub compared : Matcher → Compared
compared (matcher.Equal value implicit) = Equal value implicit
compared (matcher.Contains value implicit) = Contains value implicit
compared (matcher.Glob text tokens implicit) = Glob tokens
compared (matcher.Regex pattern) = Regex pattern

-- whether these are the same
abbrev pub same_compared : Compared → Compared → Bool
same_compared (Equal value implicit) (Equal other also) = bytes_eq value other && beq implicit also
same_compared (Contains value implicit) (Contains other also) = bytes_eq value other && beq implicit also
same_compared (Glob tokens) (Glob others) = same_tokens tokens others
same_compared (Regex pattern) (Regex other) = bytes_eq pattern other
same_compared _ _ = false

-- whether matchers are equal
abbrev pub same_matcher : NameMatcher → NameMatcher → Bool
same_matcher a b = same_compared (compared (matcher_of a)) (compared (matcher_of b))

same_value : (f : List ℕ → Bool → Compared) (value other : List ℕ) (implicit also : Bool)
    → (bytes_eq value other && beq implicit also) ≡ true
    → f value implicit ≡ f other also
same_value f value other implicit also e =
    let parts = and_parts (bytes_eq value other) (beq implicit also) e in
    λ i. f ((bytes_eq-Decides value other).0 parts.0 i) ((booleans_Decides implicit also).0 parts.1 i)

is_same : (a b : Compared) → same_compared a b ≡ true → a ≡ b
is_same (Equal value implicit) (Equal other also) e = same_value Equal value other implicit also e
is_same (Contains value implicit) (Contains other also) e = same_value Contains value other implicit also e
is_same (Glob tokens) (Glob others) e = ap Glob (same_tokens_is tokens others e)
is_same (Regex pattern) (Regex other) e = ap Regex ((bytes_eq-Decides pattern other).0 e)
is_same _ _ e = absurd (false≢true e)

same_self : (a : Compared) → same_compared a a ≡ true
same_self (Equal value implicit) =
    and_from (bytes_eq value value) (beq implicit implicit)
    ((bytes_eq-Decides value value).1 refl) ((booleans_Decides implicit implicit).1 refl)
same_self (Contains value implicit) =
    and_from (bytes_eq value value) (beq implicit implicit)
    ((bytes_eq-Decides value value).1 refl) ((booleans_Decides implicit implicit).1 refl)
same_self (Glob tokens) = same_tokens_self tokens
same_self (Regex pattern) = (bytes_eq-Decides pattern pattern).1 refl

-- so equality says exactly that these are the same
pub same_compared_Decides : (a b : Compared) → Decides (same_compared a b) (a ≡ b)
same_compared_Decides a b = (is_same a b, λ e. subst (λ c. same_compared a c ≡ true) e (same_self a))

pub same_matcher_equiv : IsEquivalence same_matcher
same_matcher_equiv =
    on_equiv (λ (m : NameMatcher). compared (matcher_of m)) (decided same_compared same_compared_Decides)
