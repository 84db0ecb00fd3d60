-- Searches for a text in other texts, each with a line break behind it.
use Rattle.std.proofs.Common.{eqb-true, ◌≡◌, ◌==◌, ◌++◌, ◌<◌, ◌↔◌, ◌⊎◌, ◌∙◌, inl, inr, ⊎_elim, ℕ, suc, zero, true, false, List, [], ◌∷◌, ap, arith, drop, length, length-append, refl, subst, sym, take}
use Rattle.std.specs.Prelude.{Any, Contains, None, Option, Some, is_some as holds}
use Rattle.std.specs.Str.Iter.{HasSubslice}
use Rattle.std.proofs.lemmas.{Bool.false≢true, Bool.or_parts, Bool.true≢false, Grind.same_number_lists}
use Rattle.std.proofs.lemmas.List.{append_assoc, get_or-drop, get_or-take, length-drop, length-take-le}
use Rattle.memchr.specs.Find.{FindsNeedle, OccursAt}
use Rattle.filterset_graph.specs.Packages.{Text}
use Rattle.filterset_matchers.specs.Substring.{StandsAt}
use Rattle.filterset_matchers.proofs.Substrings.{byte_of, somewhere_stands, stands_somewhere}
use Rattle.nextest_filtering.proofs.Members.{first, first_or_later, later, none_in}
use Rattle.filterset_offers.specs.Something.{has_line_break, lines_of}
use Rattle.filterset_offers.proofs.AnyLemmas.{any_of}

-- ---- what a search finds

has_occurring : (hay needle : Text) (k : ℕ) → OccursAt hay needle k → HasSubslice hay needle
has_occurring hay needle k occurs =
    let n = length needle in
    let part = take n (drop k hay) in
    let long : length part ≡ n = length-take-le n (drop k hay) (omega (arith, length-drop k hay, occurs.fits)) in
    let stands : StandsAt hay needle k = same_number_lists part needle long (λ i within.
    let small : i < n = omega (arith, within, long) in
    get_or-take n (drop k hay) i 0 small ∙ get_or-drop k hay i 0 ∙ occurs.reads i small) in
    stands_somewhere hay needle k stands

pub finds : (hay needle : Text) (found : Option ℕ) → FindsNeedle hay needle 0 found → (holds found ≡ true) ↔ HasSubslice hay needle
finds hay needle None nowhere = (
  (λ yes. absurd (false≢true yes)),
  (λ has. let (k, fits, stands) = somewhere_stands hay needle has in
      absurd (nowhere k (omega arith) (omega (arith, fits)) (record { fits = fits; reads = λ j within. byte_of hay needle k j stands within }))),
)
finds hay needle (Some k) is = ((λ yes. has_occurring hay needle k is.1), (λ has. refl))

-- ---- lines

-- a text without a line break that begins a line is within it
begins : (x needle rest behind : Text) → x ++ 10 ∷ behind ≡ needle ++ rest → has_line_break needle ≡ false → (more : Text) × (x ≡ needle ++ more)
begins x [] rest behind e none = (x, refl)
begins [] (c ∷ cs) rest behind e none =
    let same : c ≡ 10 = cc in
    let P : ℕ → Type 0 = λ b. has_line_break (b ∷ cs) ≡ false in
    absurd (true≢false (subst P same none))
begins (y ∷ ys) (c ∷ cs) rest behind e none =
    let tail : ys ++ 10 ∷ behind ≡ cs ++ rest = cc in
    let at = begins ys cs rest behind tail (or_parts (c == 10) (has_line_break cs) none).1 in
    (at.0, let same : ys ≡ cs ++ at.0 = at.1 in cc)

-- a text without a line break is within the first line, or behind it
splits : (x needle behind a b : Text) → x ++ 10 ∷ behind ≡ a ++ (needle ++ b) → has_line_break needle ≡ false → HasSubslice x needle ⊎ HasSubslice behind needle
splits x needle behind [] b e none = let at = begins x needle b behind e none in inl ([], at.0, at.1)
splits [] needle behind (c ∷ a) b e none = inr (a, b, let same : 10 ∷ behind ≡ c ∷ (a ++ (needle ++ b)) = e in cc)
splits (y ∷ ys) needle behind (c ∷ a) b e none =
    let tail : ys ++ 10 ∷ behind ≡ a ++ (needle ++ b) = cc in
    let head : y ≡ c = cc in
    ⊎_elim (λ has. inl (y ∷ has.0, has.1, ap (λ t. y ∷ t) has.2)) (λ has. inr has) (splits ys needle behind a b tail none)

-- the first line, and those behind it
first_line : (x : Text) (xs : List Text) → lines_of (x ∷ xs) ≡ x ++ 10 ∷ lines_of xs
first_line x xs = append_assoc x (10 ∷ []) (lines_of xs)

nothing_in : (c : ℕ) (cs : Text) → ¬ HasSubslice [] (c ∷ cs)
nothing_in c cs ([], b, e) = let same : [] ≡ c ∷ (cs ++ b) = e in absurd (cc)
nothing_in c cs (y ∷ a, b, e) = let same : [] ≡ y ∷ (a ++ (c ∷ cs ++ b)) = e in absurd (cc)

-- a text that is found in the lines is in one of them
within_one : (c : ℕ) (cs : Text) (texts : List Text) → has_line_break (c ∷ cs) ≡ false → HasSubslice (lines_of texts) (c ∷ cs) → Any (λ t. HasSubslice t (c ∷ cs)) texts
within_one c cs [] none has = absurd (nothing_in c cs has)
within_one c cs (x ∷ xs) none (a, b, e) =
    let is = λ (t : Text). HasSubslice t (c ∷ cs) in
    ⊎_elim (λ here. any_of is (x ∷ xs) x (first x xs) here)
    (λ rest. let any = within_one c cs xs none rest in any_of is (x ∷ xs) any.1 (later x xs any.1 (any.0, any.2, any.3)) any.4)
    (splits x (c ∷ cs) (lines_of xs) a b (sym (first_line x xs) ∙ e) none)

in_one : (needle : Text) (texts : List Text) → has_line_break needle ≡ false → 0 < length (lines_of texts) → HasSubslice (lines_of texts) needle → Any (λ t. HasSubslice t needle) texts
in_one needle [] none some has = absurd (omega (arith, some))
in_one [] (x ∷ xs) none some has = any_of (λ (t : Text). HasSubslice t []) (x ∷ xs) x (first x xs) ([], x, refl)
in_one (c ∷ cs) (x ∷ xs) none some has = within_one c cs (x ∷ xs) none has

-- what one of the texts contains is in the lines
in_lines : (needle : Text) (texts : List Text) (t : Text) → Contains texts t → HasSubslice t needle → HasSubslice (lines_of texts) needle
in_lines needle [] t has is = absurd (none_in t has)
in_lines needle (x ∷ xs) t has is =
    ⊎_elim
    (λ same. let (a, b, e) = is in
    (a, b ++ 10 ∷ lines_of xs, first_line x xs ∙ ap (λ s. s ++ 10 ∷ lines_of xs) (same ∙ e) ∙ append_assoc a (needle ++ b) (10 ∷ lines_of xs) ∙ ap (λ s. a ++ s) (append_assoc needle b (10 ∷ lines_of xs))))
    (λ rest. let (a, b, e) = in_lines needle xs t rest is in
    ((x ++ 10 ∷ []) ++ a, b, ap (λ s. (x ++ 10 ∷ []) ++ s) e ∙ sym (append_assoc (x ++ 10 ∷ []) a (needle ++ b))))
    (first_or_later x xs t has)

pub any_line : (needle : Text) (texts : List Text) → has_line_break needle ≡ false → 0 < length (lines_of texts) → HasSubslice (lines_of texts) needle ↔ Any (λ t. HasSubslice t needle) texts
any_line needle texts none some =
    ((λ has. in_one needle texts none some has), (λ any. in_lines needle texts any.1 (any.0, any.2, any.3) any.4))

-- without lines there are no texts
pub no_line : (P : Text → Type 0) (texts : List Text) → length (lines_of texts) ≡ 0 → ¬ Any P texts
no_line P [] empty any = none_in any.1 (any.0, any.2, any.3)
no_line P (x ∷ xs) empty any =
    absurd (omega (arith, ap length (first_line x xs), length-append x (10 ∷ lines_of xs), empty))

-- what a test of a length says
pub is_some : (n : ℕ) → (n == 0) ≡ false → 0 < n
is_some zero e = absurd (true≢false e)
is_some (suc n) e = omega arith

pub is_none : (n : ℕ) → (n == 0) ≡ true → n ≡ 0
is_none n e = eqb-true n 0 e
