-- Where words of a text are cut.
use Rattle.std.proofs.Common.{◌≡◌, ℕ, zero, suc, ◌+◌, ◌-◌, ◌<◌, ◌≤◌, true, List, length, get_or, reverse, arith, subst}
use Rattle.std.proofs.lemmas.{Bool.Decides.nat_tests, List.get_or-reverse}
use Rattle.std.proofs.lemmas.List.Sums.{prefix_len-le-length, prefix_len_passes, suffix_len-le-length}
use Rattle.std.proofs.lemmas.Str.{IsCharBoundary-after_ascii, IsCharBoundary-before_ascii, IsCharBoundary-end, IsCharBoundary-start}
use Rattle.std.specs.{List.prefix_len, List.suffix_len, Prelude.IsUtf8, Str.IsCharBoundary}
use Rattle.filterset_offers.specs.Gaps.{is_of}
use Rattle.filterset_offers.specs.declared.gaps.Word.{Word, TheVariants.Name, TheVariants.Plain}

-- the bytes of words are characters
is_of-ascii : (word : Word) (b : ℕ) → is_of word b ≡ true → b < 128
is_of-ascii Plain b is = grind (arith, nat_tests)
is_of-ascii Name b is = grind (arith, nat_tests)

-- a text may be cut behind the word at its front
pub boundary-front : (word : Word) (text : List ℕ) → IsUtf8 text → IsCharBoundary text (prefix_len (is_of word) text)
boundary-front word text utf8 = at (prefix_len (is_of word) text) (λ k lt. is_of-ascii word (get_or text k 0) (prefix_len_passes (is_of word) text k 0 lt))
    (prefix_len-le-length (is_of word) text)
  where
    at : (n : ℕ) → ((k : ℕ) → k < n → get_or text k 0 < 128) → n ≤ length text → IsCharBoundary text n
    at zero ascii within = IsCharBoundary-start text utf8
    at (suc n) ascii within =
        let e : n + 1 ≡ suc n = omega arith in
        subst (IsCharBoundary text) e (IsCharBoundary-after_ascii text n utf8 (omega arith) (ascii n (omega arith)))

-- a text may be cut before the word at its end
pub boundary-end : (word : Word) (text : List ℕ) → IsCharBoundary text (length text - suffix_len (is_of word) text)
boundary-end word text = at (suffix_len (is_of word) text)
    (λ m lt. is_of-ascii word (get_or (reverse text) m 0) (prefix_len_passes (is_of word) (reverse text) m 0 lt)) (suffix_len-le-length (is_of word) text)
  where
    at : (n : ℕ) → ((m : ℕ) → m < n → get_or (reverse text) m 0 < 128) → n ≤ length text → IsCharBoundary text (length text - n)
    at zero ascii within = let e : length text ≡ length text - 0 = omega arith in subst (IsCharBoundary text) e (IsCharBoundary-end text)
    at (suc m) ascii within =
        let same : get_or (reverse text) m 0 ≡ get_or text (length text - 1 - m) 0 = get_or-reverse text m 0 (omega arith) in
        let e : length text - 1 - m ≡ length text - suc m = omega arith in
        let P : ℕ → Type 0 = λ b. b < 128 in
        subst (IsCharBoundary text) e (IsCharBoundary-before_ascii text (length text - 1 - m) (omega arith) (subst P same (ascii m (omega arith))))
