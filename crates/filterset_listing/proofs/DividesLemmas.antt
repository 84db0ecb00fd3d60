-- Tests that are divided one after the other.
use Rattle.std.proofs.Common.{◌≡◌, ◌∙◌, List, [], ◌∷◌, ◌++◌, ap, append_assoc, refl, sym}
use Rattle.std.proofs.lemmas.List.{append-nil}
use Rattle.filterset_listing.specs.{Asking.Text, Comparing.Divides, Comparing.is_of, Groups.known_of, Listing.one_of}
use Rattle.filterset_listing.specs.declared.{comparing.Part.Part, groups.TestAnswer.TestAnswer}

-- one more test
pub Divides-push : (One Other : Text → TestAnswer → Type 0) (tests : List Text) (test : Text) (before after : Part → List Text) (x y : TestAnswer)
    → Divides One Other tests before → One test x → Other test y → ((part : Part) → after part ≡ before part ++ one_of (is_of part (known_of x) (known_of y)) test)
    → Divides One Other (tests ++ test ∷ []) after
Divides-push One Other [] test before after x y none one other adds = (
  x,
  y,
  λ part. [],
  one,
  other,
  λ part. adds part ∙ ap (λ ts. ts ++ one_of (is_of part (known_of x) (known_of y)) test) (none part) ∙ sym (append-nil (one_of (is_of part (known_of x) (known_of y)) test)),
  λ part. refl,
)
Divides-push One Other (first ∷ tests) test before after x y (a, b, rest, is_a, is_b, are, divides) one other adds = (
  a,
  b,
  λ part. rest part ++ one_of (is_of part (known_of x) (known_of y)) test,
  is_a,
  is_b,
  λ part. adds part ∙ ap (λ ts. ts ++ one_of (is_of part (known_of x) (known_of y)) test) (are part)
      ∙ append_assoc (one_of (is_of part (known_of a) (known_of b)) first) (rest part) (one_of (is_of part (known_of x) (known_of y)) test),
  Divides-push One Other tests test rest (λ part. rest part ++ one_of (is_of part (known_of x) (known_of y)) test) x y divides one other (λ part. refl),
)

module _ (A B C D : Text → TestAnswer → Type 0) (first : (test : Text) (answer : TestAnswer) → A test answer → B test answer) (second : (test : Text) (answer : TestAnswer) → C test answer → D test answer) where
  -- answers that give others divide the tests alike
  pub divides_alike : (tests : List Text) (parts : Part → List Text) → Divides A C tests parts → Divides B D tests parts
  divides_alike [] parts none = none
  divides_alike (test ∷ tests) parts (x, y, rest, one, other, are, divides) =
      (x, y, rest, first test x one, second test y other, are, divides_alike tests rest divides)
