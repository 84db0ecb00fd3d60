-- The loops of heads, a turn at a time.
use Rattle.std.proofs.Common.{◌≡◌, ℕ, zero, suc, ◌+◌, ◌-◌, ◌*◌, ◌<◌, ◌≤◌, true, false, cond, ◌==◌, ◌&&◌, nat_le, [], ◌∷◌, length, take, drop, get_or, Option, Some, None, option_map, refl, sym, ap, ◌∙◌, arith, add-one, inl, inr}
use Rattle.std.proofs.lemmas.{Bool.cases_Bool, Bool.Decides.nat_tests, List.at_drop_all}
use Rattle.std.specs.{Char.is_ascii_digit, Option.option_map_or}
use Rattle.filterset_display.specs.declared.head.Head.{Head, TheVariants.Partial, TheVariants.Malformed}
use Rattle.filterset_display.specs.Frames.{Bytes, allowed, behind_line, line_len, more_digits, most_of_message}
use Rattle.filterset_display.specs.Heads.{ended, head_from}

-- the rest of a line one byte later
pub line_len-turn : (text : Bytes) (at : ℕ) → at < length text
    → line_len (drop at text)
    ≡ cond ((get_or text at 0 == 13) && (get_or text (suc at) 0 == 10)) (Some 0) (option_map suc (line_len (drop (suc at) text)))
unfolding line_len
line_len-turn [] at h = absurd (omega arith)
line_len-turn (b ∷ bs) zero h = refl
line_len-turn (b ∷ bs) (suc at) h = line_len-turn bs at (omega arith)

pub line_len-end : line_len [] ≡ None
unfolding line_len
line_len-end = refl

-- the test of a line's end
pub ends-true : (a b : ℕ) → a ≡ 13 → b ≡ 10 → (a == 13) && (b == 10) ≡ true
ends-true a b ha hb = grind (arith, nat_tests)

pub ends-false : (a b : ℕ) → (a ≡ 13 → b ≡ 10 → ⊥) → (a == 13) && (b == 10) ≡ false
ends-false a b other = grind (arith, nat_tests)

-- what is found from a byte on, which is no end of a line, is found from the next byte on
pub line_len-next : (text : Bytes) (at : ℕ) → at < length text
    → (get_or text at 0 ≡ 13 → get_or text (at + 1) 0 ≡ 10 → ⊥)
    → line_len text ≡ option_map (λ k. at + k) (line_len (drop at text))
    → line_len text ≡ option_map (λ k. (at + 1) + k) (line_len (drop (at + 1) text))
line_len-next text at within other here =
    here ∙ ap (option_map (λ k. at + k)) (line_len-turn text at within ∙ rw (ends-false _ _ (rw add-one at other)) refl) ∙ moved (line_len (drop (suc at) text)) ∙ rw add-one refl
  where
    moved : (o : Option ℕ) → option_map (λ k. at + k) (option_map suc o) ≡ option_map (λ k. (at + 1) + k) o
    moved None = refl
    moved (Some k) = let e : at + suc k ≡ (at + 1) + k = omega arith in rw e refl

pub line_len-here : (text : Bytes) (at : ℕ) → at < length text
    → get_or text at 0 ≡ 13 → get_or text (at + 1) 0 ≡ 10
    → line_len text ≡ option_map (λ k. at + k) (line_len (drop at text))
    → Some at ≡ line_len text
line_len-here text at within this that here =
    let both : (get_or text at 0 == 13) && (get_or text (suc at) 0 == 10) ≡ true = ends-true _ _ this (rw add-one at that) in
    let turn : line_len (drop at text) ≡ Some 0 = line_len-turn text at within ∙ rw both refl in
    let sum : at + 0 ≡ at = omega arith in
    sym (here ∙ rw turn (rw sum refl))

-- the digits one byte later
pub more_digits-turn : (n : ℕ) (text : Bytes) (at : ℕ) → at < length text
    → more_digits n (drop at text)
    ≡ cond (is_ascii_digit (get_or text at 0)) (more_digits (10 * n + (get_or text at 0 - 48)) (drop (suc at) text)) None
unfolding more_digits
more_digits-turn n [] at h = absurd (omega arith)
more_digits-turn n (b ∷ bs) zero h = refl
more_digits-turn n (b ∷ bs) (suc at) h = more_digits-turn n bs at (omega arith)

pub more_digits-end : (n : ℕ) → more_digits n [] ≡ Some n
unfolding more_digits
more_digits-end n = refl

allowed-small : (n : ℕ) → n ≤ most_of_message → allowed (Some n) ≡ Some n
allowed-small n h = let small : nat_le n most_of_message ≡ true = grind (arith, nat_tests) in rw small refl

-- more digits make no smaller number
allowed-large : (n : ℕ) (text : Bytes) → most_of_message < n → allowed (more_digits n text) ≡ None
unfolding more_digits
allowed-large n [] h = let large : nat_le n most_of_message ≡ false = grind (arith, nat_tests) in rw large refl
allowed-large n (b ∷ bs) h = elim (cases_Bool (is_ascii_digit b)) [
  | inl is_digit ↦ rw is_digit (allowed-large (10 * n + (b - 48)) bs (omega arith))
  | inr other ↦ rw other refl
]

pub number-stop : (text : Bytes) (at n : ℕ) → at < length text → is_ascii_digit (get_or text at 0) ≡ false
    → more_digits n (drop at text) ≡ more_digits 0 text → None ≡ allowed (more_digits 0 text)
number-stop text at n within other read =
    let turn : more_digits n (drop at text) ≡ None = more_digits-turn n text at within ∙ rw other refl in
    sym (ap allowed (sym read ∙ turn))

pub number-next : (text : Bytes) (at n next : ℕ) → at < length text
    → is_ascii_digit (get_or text at 0) ≡ true → next ≡ 10 * n + (get_or text at 0 - 48)
    → more_digits n (drop at text) ≡ more_digits 0 text → more_digits next (drop (at + 1) text) ≡ more_digits 0 text
number-next text at n next within digit e read = rw (e, add-one) (sym (more_digits-turn n text at within ∙ rw digit refl) ∙ read)

pub number-large : (text rest : Bytes) (next : ℕ) → most_of_message < next → more_digits next rest ≡ more_digits 0 text
    → None ≡ allowed (more_digits 0 text)
number-large text rest next large read = sym (ap allowed (sym read) ∙ allowed-large next rest large)

pub number-done : (text : Bytes) (at n : ℕ) → length text ≤ at → n ≤ most_of_message
    → more_digits n (drop at text) ≡ more_digits 0 text → Some n ≡ allowed (more_digits 0 text)
number-done text at n over small read = sym (ap allowed (sym read ∙ at_drop_all (more_digits n) text at over ∙ more_digits-end n) ∙ allowed-small n small)

pub line_len-none : (text : Bytes) (at : ℕ) → length text ≤ at
    → line_len text ≡ option_map (λ k. at + k) (line_len (drop at text)) → None ≡ line_len text
line_len-none text at over here = sym (here ∙ ap (option_map (λ k. at + k)) (at_drop_all line_len text at over ∙ line_len-end))

-- a head whose next line does not end
pub head_from-partial : (n at : ℕ) (found : Option ℕ) (text : Bytes) → length text < n → line_len text ≡ None → head_from n at found text ≡ Partial
unfolding head_from
head_from-partial zero at found text h none = refl
head_from-partial (suc n) at found text h none = rw none refl

-- a head whose next line is empty
pub head_from-ended : (n at : ℕ) (found : Option ℕ) (text : Bytes) → length text < n → line_len text ≡ Some 0 → head_from n at found text ≡ ended at found
unfolding head_from
head_from-ended zero at found text h empty = absurd (omega arith)
head_from-ended (suc n) at found text h empty = rw empty refl

-- a head whose next line is a field, or is none
abbrev pub after_line : ℕ → ℕ → ℕ → Bytes → Option (Option ℕ) → Head
after_line n at len text now = option_map_or (λ found. head_from n (at + (len + 2)) found (drop (len + 2) text)) now Malformed

pub head_from-line : (n at len : ℕ) (found : Option ℕ) (text : Bytes) → line_len text ≡ Some len → 0 < len
    → head_from (suc n) at found text ≡ after_line n at len text (behind_line found (take len text))
unfolding head_from
head_from-line n at len found text here some = let more : (len == 0) ≡ false = grind (arith, nat_tests) in rw (here, more) refl

-- a line that is no field
pub read-fault : (n at len : ℕ) (found : Option ℕ) (text : Bytes) (head : Head) → length text < n → line_len text ≡ Some len → 0 < len
    → behind_line found (take len text) ≡ None → head ≡ head_from n at found text → Malformed ≡ head
read-fault zero at len found text head room here some none read = absurd (omega arith)
read-fault (suc n) at len found text head room here some none read =
    sym (read ∙ (head_from-line n at len found text here some ∙ rw none refl))

-- a line that is a field
pub read-field : (n at len : ℕ) (found now : Option ℕ) (text : Bytes) (head : Head) → length text < n → line_len text ≡ Some len → 0 < len
    → behind_line found (take len text) ≡ Some now → head ≡ head_from n at found text
    → (m : ℕ) × (length text ≤ m) × (head ≡ head_from m (at + (len + 2)) now (drop (len + 2) text))
read-field zero at len found now text head room here some is read = absurd (omega arith)
read-field (suc n) at len found now text head room here some is read =
    (n, omega arith, read ∙ (head_from-line n at len found text here some ∙ rw is refl))
