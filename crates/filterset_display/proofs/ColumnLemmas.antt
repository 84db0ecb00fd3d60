-- Widths of characters, and the columns of texts.
use Rattle.std.proofs.Common.{◌≡◌, ℕ, ◌+◌, ◌*◌, ◌<◌, ◌≤◌, Bool, true, false, cond, ◌&&◌, nat_le, nat_lt, List, [], ◌∷◌, ◌++◌, length, take, Option, Some, None, unwrap_or, refl, sym, ap, ◌∙◌, arith, ⊎_elim, zero-add, add-zero, append-nil, append_assoc, length-append}
use Rattle.std.specs.{Prelude.filter, Prelude.sum_by, Prelude.encode_utf8, Prelude.encode_utf8_all, List.enumerate_from}
use Rattle.std.proofs.Math.Bool.{and-false}
use Rattle.std.proofs.lemmas.Bool.{and_from, cases_lt, le-leb, le-ltb, lt-leb, lt-ltb, Decides.nat_tests}
use Rattle.std.proofs.lemmas.List.{length_push, take_at, Elements.filter-append, Sums.sum_by-append, Sums.sum_by-cons}
use Rattle.std.proofs.lemmas.Str.{encodes-append, length-encode, len_utf8_bounds}
use Rattle.unicode_width.specs.Width.{char_width}
use Rattle.unicode_width.proofs.Rules.{width_or_zero-le}
use Rattle.filterset_display.specs.Columns.{columns_of}

width_or_one : (o : Option ℕ) → unwrap_or o 0 ≤ 3 → unwrap_or o 1 ≤ 3
width_or_one None h = omega arith
width_or_one (Some w) h = h

ascii_width : (c : ℕ) → c < 128 → unwrap_or (char_width false c) 1 ≤ 1
unfolding char_width
ascii_width c h = grind (arith, nat_tests)

two_bytes : (c : ℕ) → 128 ≤ c → 2 ≤ length (encode_utf8 c)
two_bytes c h = grind (arith, nat_tests, length-encode c)

-- no character takes more columns than twice its bytes
pub width_bound : (c : ℕ) → unwrap_or (char_width false c) 1 ≤ 2 * length (encode_utf8 c)
width_bound c =
    ⊎_elim
    (λ (low : c < 128). omega (arith, ascii_width c low, length-encode c, (len_utf8_bounds c).0))
    (λ (high : 128 ≤ c). omega (arith, width_or_one (char_width false c) (width_or_zero-le false c), two_bytes c high))
    (cases_lt c 128)

-- characters with the bytes at which they begin, the first of them at this byte
abbrev pub placed : ℕ → List ℕ → List (ℕ × ℕ)
placed at [] = []
placed at (c ∷ cs) = (at, c) ∷ placed (at + length (encode_utf8 c)) cs

-- the columns of the characters that begin in a stretch, the first of them at this byte
abbrev pub within : ℕ → ℕ → ℕ → List ℕ → ℕ
within from to at cs = sum_by (λ p. columns_of p.1) (filter (λ p. nat_le from p.0 && nat_lt p.0 to) (placed at cs))

placed-append : (at : ℕ) (cs ds : List ℕ) → placed at (cs ++ ds) ≡ placed at cs ++ placed (at + length (encode_utf8_all cs)) ds
placed-append at [] ds = ap (λ n. placed n ds) (sym (add-zero at))
placed-append at (c ∷ cs) ds =
    let size : at + length (encode_utf8 c) + length (encode_utf8_all cs) ≡ at + length (encode_utf8_all (c ∷ cs)) =
    omega (arith, length-append (encode_utf8 c) (encode_utf8_all cs)) in
    ap (λ ps. (at, c) ∷ ps) (placed-append (at + length (encode_utf8 c)) cs ds ∙ ap (λ n. placed (at + length (encode_utf8 c)) cs ++ placed n ds) size)

within-one : (from to at c : ℕ) → within from to at (c ∷ []) ≡ cond (nat_le from at && nat_lt at to) (columns_of c) 0
within-one from to at c = by_test (nat_le from at && nat_lt at to)
  where
    by_test : (b : Bool) → sum_by (λ (p : ℕ × ℕ). columns_of p.1) (cond b ((at, c) ∷ []) []) ≡ cond b (columns_of c) 0
    by_test true = zero-add (columns_of c)
    by_test false = refl

-- one more character
pub within-push : (from to : ℕ) (cs : List ℕ) (c : ℕ) → within from to 0 (cs ++ c ∷ []) ≡ within from to 0 cs + cond (nat_le from (length (encode_utf8_all cs)) && nat_lt (length (encode_utf8_all cs)) to) (columns_of c) 0
within-push from to cs c =
    let n = length (encode_utf8_all cs) in
    let test = λ (p : ℕ × ℕ). nat_le from p.0 && nat_lt p.0 to in
    let width = λ (p : ℕ × ℕ). columns_of p.1 in
    ap (λ ps. sum_by width (filter test ps)) (placed-append 0 cs (c ∷ []))
    ∙ ap (sum_by width) (filter-append test (placed 0 cs) (placed (0 + n) (c ∷ [])))
    ∙ sum_by-append width (filter test (placed 0 cs)) (filter test (placed (0 + n) (c ∷ [])))
    ∙ ap (λ k. within from to 0 cs + within from to k (c ∷ [])) (zero-add n)
    ∙ ap (λ k. within from to 0 cs + k) (within-one from to n c)

-- a character that begins in the stretch, and one that does not
pub within-push_in : (from to : ℕ) (cs : List ℕ) (c at : ℕ) → at ≡ length (encode_utf8_all cs) → from ≤ at → at < to → within from to 0 (cs ++ c ∷ []) ≡ within from to 0 cs + columns_of c
within-push_in from to cs c at is low high =
    let n = length (encode_utf8_all cs) in
    let test : (nat_le from n && nat_lt n to) ≡ true = rw (sym is) (and_from (nat_le from at) (nat_lt at to) (le-leb from at low) (lt-ltb at to high)) in
    within-push from to cs c ∙ ap (λ b. within from to 0 cs + cond b (columns_of c) 0) test

pub within-push_before : (from to : ℕ) (cs : List ℕ) (c at : ℕ) → at ≡ length (encode_utf8_all cs) → at < from → within from to 0 (cs ++ c ∷ []) ≡ within from to 0 cs
within-push_before from to cs c at is before =
    let n = length (encode_utf8_all cs) in
    let test : nat_le from n ≡ false = rw (sym is) (lt-leb from at before) in
    within-push from to cs c ∙ ap (λ b. within from to 0 cs + cond (b && nat_lt n to) (columns_of c) 0) test ∙ add-zero (within from to 0 cs)

pub within-push_after : (from to : ℕ) (cs : List ℕ) (c at : ℕ) → at ≡ length (encode_utf8_all cs) → to ≤ at → within from to 0 (cs ++ c ∷ []) ≡ within from to 0 cs
within-push_after from to cs c at is after =
    let n = length (encode_utf8_all cs) in
    let test : nat_lt n to ≡ false = rw (sym is) (le-ltb at to after) in
    let both : (nat_le from n && nat_lt n to) ≡ false = ap (λ b. nat_le from n && b) test ∙ and-false (nat_le from n) in
    within-push from to cs c ∙ ap (λ b. within from to 0 cs + cond b (columns_of c) 0) both ∙ add-zero (within from to 0 cs)

-- the bytes of one more character
pub encodes-push : (cs : List ℕ) (c : ℕ) → length (encode_utf8_all (cs ++ c ∷ [])) ≡ length (encode_utf8_all cs) + length (encode_utf8 c)
encodes-push cs c = ap length (encodes-append cs (c ∷ []) ∙ ap (λ l. encode_utf8_all cs ++ l) (append-nil (encode_utf8 c))) ∙ length-append (encode_utf8_all cs) (encode_utf8 c)

-- ---- and these are the columns of the definition, which names each character by its index

-- the bytes before the character with this index
abbrev begins : List ℕ → ℕ → ℕ
begins cs index = length (encode_utf8_all (take index cs))

abbrev width : ℕ × ℕ → ℕ
width p = columns_of p.1

-- the columns of those of the characters `cs`, with their indices, that begin in a stretch of the characters `whole`
abbrev named : ℕ → ℕ → List ℕ → List (ℕ × ℕ) → ℕ
named from to whole cs = sum_by width (filter (λ p. nat_le from (begins whole p.0) && nat_lt (begins whole p.0) to) cs)

one_more : (c m n : ℕ) (ps qs : List (ℕ × ℕ)) (test : Bool) → sum_by width ps ≡ sum_by width qs → sum_by width (cond test ((m, c) ∷ ps) ps) ≡ sum_by width (cond test ((n, c) ∷ qs) qs)
one_more c m n ps qs true same = sum_by-cons width (m, c) ps ∙ ap (λ k. columns_of c + k) same ∙ sym (sum_by-cons width (n, c) qs)
one_more c m n ps qs false same = same

pub named-within : (from to : ℕ) (whole read cs : List ℕ) → whole ≡ read ++ cs → named from to whole (enumerate_from (length read) cs) ≡ within from to (length (encode_utf8_all read)) cs
named-within from to whole read [] cut = refl
named-within from to whole read (c ∷ cs) cut =
    let at = length (encode_utf8_all read) in
    let test = λ (n : ℕ). nat_le from n && nat_lt n to in
    let start : begins whole (length read) ≡ at = ap (λ t. length (encode_utf8_all t)) (ap (take (length read)) cut ∙ take_at read (c ∷ cs) (length read) refl) in
    let longer : whole ≡ (read ++ c ∷ []) ++ cs = cut ∙ sym (append_assoc read (c ∷ []) cs) in
    let others = filter (λ (p : ℕ × ℕ). test (begins whole p.0)) (enumerate_from (length read + 1) cs) in
    let placed_others = filter (λ (p : ℕ × ℕ). test p.0) (placed (at + length (encode_utf8 c)) cs) in
    let rest : sum_by width others ≡ sum_by width placed_others =
    ap (λ k. named from to whole (enumerate_from k cs)) (sym (length_push read c))
    ∙ named-within from to whole (read ++ c ∷ []) cs longer
    ∙ ap (λ k. within from to k cs) (encodes-push read c) in
    ap (λ n. sum_by width (cond (test n) ((length read, c) ∷ others) others)) start
    ∙ one_more c (length read) at others placed_others (test at) rest
