-- What is written of a message is its frame.
use Rattle.std.proofs.Common.{◌≡◌, ℕ, ◌+◌, ◌-◌, ◌*◌, ◌/◌, ◌%◌, ◌^◌, ◌<◌, ◌≤◌, true, false, ◌==◌, nat_lt, nat_le, [], ◌∷◌, ◌++◌, length, Some, None, codes, decimal, refl, sym, ap, ◌∙◌, arith, append_assoc, drop, length-append, take}
use Rattle.std.proofs.lemmas.{Bool.Decides.nat_tests, Fmt.decimal_by_steps, Fmt.length-decimal-le}
use Rattle.std.proofs.{Math.Seq.take-length, lemmas.List.drop_all}
use Rattle.std.specs.{Char.is_ascii_digit, List.prefix_len}
use Rattle.filterset_display.specs.Frames.{Bytes, IsFrame, IsHead, ReadsBack, behind_line, framed, is_blank, line_len, more_digits, most_of_head, most_of_message}
use Rattle.filterset_display.specs.Frames.IsHead.{end_of_head, next_line}
use Rattle.filterset_display.proofs.FrameLemmas.{one-frame}

abbrev AreDigits : Bytes → Type 0
AreDigits [] = Unit {0}
AreDigits (b ∷ bs) = (48 ≤ b) × (b ≤ 57) × AreDigits bs

is_digit : (b : ℕ) → 48 ≤ b → b ≤ 57 → is_ascii_digit b ≡ true
is_digit b low high = grind (arith, nat_tests)

-- ---- digits

digits-push : (ds : Bytes) (c : ℕ) → AreDigits ds → 48 ≤ c → c ≤ 57 → AreDigits (ds ++ c ∷ [])
digits-push [] c are low high = (low, high, tt)
digits-push (b ∷ bs) c (small, large, are) low high = (small, large, digits-push bs c are low high)

more_digits-push : (n v c : ℕ) (ds : Bytes) → 48 ≤ c → c ≤ 57 → more_digits n ds ≡ Some v
    → AreDigits ds → more_digits n (ds ++ c ∷ []) ≡ Some (10 * v + (c - 48))
unfolding more_digits
more_digits-push n v c [] low high read are = let same : n ≡ v = cc in rw (is_digit c low high) (ap (λ k. Some (10 * k + (c - 48))) same)
more_digits-push n v c (b ∷ bs) low high read (small, large, are) =
    let digit = is_digit b small large in
    rw digit (more_digits-push (10 * n + (b - 48)) v c bs low high (rw digit at read) are)

-- the digits are those of a number
abbrev AreOf : ℕ → Bytes → Type 0
AreOf n ds = AreDigits ds × (0 < length ds) × (more_digits 0 ds ≡ Some n)

one_digit : (n : ℕ) → n < 10 → AreOf n ((48 + n) ∷ [])
unfolding more_digits
one_digit n small =
    let low : 48 ≤ 48 + n = omega arith in
    let high : 48 + n ≤ 57 = omega arith in
    let same : 10 * 0 + (48 + n - 48) ≡ n = omega arith in
    ((low, high, tt), omega arith, rw (is_digit (48 + n) low high) (ap Some same))

more_digit : (n : ℕ) (ds : Bytes) → 10 ≤ n → AreOf (n / 10) ds → AreOf n (ds ++ ((48 + n % 10) ∷ []))
more_digit n ds large (are, some, read) =
    let low : 48 ≤ 48 + n % 10 = omega arith in
    let high : 48 + n % 10 ≤ 57 = omega arith in
    let same : 10 * (n / 10) + (48 + n % 10 - 48) ≡ n = omega arith in
    (digits-push ds (48 + n % 10) are low high, omega (arith, length-append ds ((48 + n % 10) ∷ [])), more_digits-push 0 (n / 10) (48 + n % 10) ds low high read are ∙ ap Some same)

decimal-digits : (n : ℕ) → n < 2 ^ 64 → AreOf n (decimal n)
decimal-digits n small = decimal_by_steps AreOf one_digit more_digit n small

-- ---- the line

-- bytes of which none is a carriage return
abbrev NoReturn : Bytes → Type 0
NoReturn [] = Unit {0}
NoReturn (b ∷ bs) = ((b == 13) ≡ false) × NoReturn bs

line_len-whole : (line rest : Bytes) → NoReturn line → line_len (line ++ 13 ∷ 10 ∷ rest) ≡ Some (length line)
unfolding line_len
line_len-whole [] rest none = refl
line_len-whole (b ∷ bs) rest (other, none) = rw (other, line_len-whole bs rest none) refl

digits-return : (ds : Bytes) → AreDigits ds → NoReturn ds
digits-return [] are = tt
digits-return (b ∷ bs) (low, high, are) = (grind (arith, nat_tests), digits-return bs are)

return-append : (xs ys : Bytes) → NoReturn xs → NoReturn ys → NoReturn (xs ++ ys)
return-append [] ys none later = later
return-append (b ∷ bs) ys (other, none) later = (other, return-append bs ys none later)

digits-prefix : (ds : Bytes) → AreDigits ds → prefix_len is_ascii_digit ds ≡ length ds
digits-prefix [] are = refl
digits-prefix (b ∷ bs) (low, high, are) = rw (is_digit b low high, digits-prefix bs are) (omega arith)

field-line : (ds : Bytes) (n : ℕ) → AreOf n ds → n ≤ most_of_message → behind_line None (codes "Content-Length: " ++ ds) ≡ Some (Some n)
field-line [] n (are, some, read) small = absurd (omega arith)
field-line (d ∷ ds) n ((low, high, are), some, read) small =
    let full : nat_lt 14 (length (codes "Content-Length: " ++ d ∷ ds)) ≡ true = grind (arith, nat_tests) in
    let ink : is_blank d ≡ false = grind (arith, nat_tests) in
    let more : (length (d ∷ ds) == 0) ≡ false = grind (arith, nat_tests) in
    let fits : nat_le n most_of_message ≡ true = grind (arith, nat_tests) in
    rw (full, ink, digits-prefix (d ∷ ds) (low, high, are), more, drop_all (length (d ∷ ds)) (d ∷ ds) (omega arith), take-length (d ∷ ds), read, fits) refl

pub written-back : (message : Bytes) → length message ≤ most_of_message → ReadsBack (framed message) message
written-back message small =
    let n = length message in
    let of = decimal-digits n (omega arith) in
    let line = codes "Content-Length: " ++ decimal n in
    let none : NoReturn line = return-append (codes "Content-Length: ") (decimal n) (refl, (refl, (refl, (refl, (refl, (refl, (refl, (refl, (refl, (refl, (refl, (refl, (refl, (refl, (refl, (refl, tt)))))))))))))))) (digits-return (decimal n) of.0) in
    let head = line ++ 13 ∷ 10 ∷ (13 ∷ 10 ∷ []) in
    let is : IsHead None head n = next_line line (13 ∷ 10 ∷ []) (line_len-whole line (13 ∷ 10 ∷ []) none) (field-line (decimal n) n of small) end_of_head in
    let digits : length (decimal n) ≤ 10 = length-decimal-le 10 n (omega arith) (omega arith) (omega arith) in
    let prefix : length (codes "Content-Length: ") ≡ 16 = refl in
    let size : length head ≤ most_of_head = omega (arith, length-append line (13 ∷ 10 ∷ 13 ∷ 10 ∷ []), length-append (codes "Content-Length: ") (decimal n)) in
    let frame : IsFrame (framed message) message = (head, is, size, append_assoc_frame (codes "Content-Length: ") (decimal n) message) in
    (frame, λ other found more rest other_is e. one-frame (framed message) message other found more rest frame other_is e)
  where
    append_assoc_frame : (xs ds message : Bytes) → xs ++ (ds ++ (13 ∷ 10 ∷ 13 ∷ 10 ∷ message)) ≡ ((xs ++ ds) ++ 13 ∷ 10 ∷ 13 ∷ 10 ∷ []) ++ message
    append_assoc_frame xs ds message = sym (append_assoc (xs ++ ds) (13 ∷ 10 ∷ 13 ∷ 10 ∷ []) message ∙ append_assoc xs ds (13 ∷ 10 ∷ 13 ∷ 10 ∷ message))
