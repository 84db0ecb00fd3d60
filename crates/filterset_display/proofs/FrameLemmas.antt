-- Frames are what the reader of heads finds.
use Rattle.std.proofs.Common.{◌≡◌, ℕ, zero, suc, ◌+◌, ◌-◌, ◌<◌, ◌≤◌, false, ◌==◌, ◌&&◌, [], ◌∷◌, ◌++◌, length, take, drop, get_or, Option, Some, None, option_map, refl, sym, ap, ◌∙◌, subst, inl, inr, arith, append_assoc, length-append}
use Rattle.std.proofs.Math.Seq.{take-add, take-append-add, drop-append-add, drop-append_seam, take-append_seam}
use Rattle.std.proofs.lemmas.Bool.{cases_Bool, cases_lt, Decides.nat_tests}
use Rattle.std.proofs.lemmas.List.{take-append-le, drop-append-le, length-drop, length-take-le, take-take, take_all, take-append-drop}
use Rattle.std.specs.{List.slice_range, Option.option_map_or}
use Rattle.filterset_display.proofs.HeadLemmas.{head_from-line}
use Rattle.filterset_display.specs.Frames.{Bytes, IsFrame, IsHead, IsMalformed, IsPartial, MayCome, behind_line, line_len, most_of_head}
use Rattle.filterset_display.specs.Frames.IsHead.{end_of_head, next_line}
use Rattle.filterset_display.specs.{Heads.ended, Heads.front, Heads.head_from, Heads.head_of, declared.head.Head.Head}
use Rattle.filterset_display.specs.declared.head.Head.TheVariants.{Partial, Malformed, Whole}

suc-some : (o : Option ℕ) (len : ℕ) → option_map suc o ≡ Some len → (k : ℕ) × (o ≡ Some k) × (suc k ≡ len)
suc-some None len h = absurd (cc)
suc-some (Some k) len h = (k, refl, cc)

-- ---- the first line

-- a line break that is found is found with more behind it
pub line_len-append : (text more : Bytes) (len : ℕ) → line_len text ≡ Some len
    → (len + 2 ≤ length text) × (line_len (text ++ more) ≡ Some len)
unfolding line_len
line_len-append [] more len h = absurd (cc)
line_len-append (b ∷ []) more len h = elim (cases_Bool (b == 13)) [
  | inl is_end ↦ absurd (let e : None ≡ Some len = rw is_end at h in cc)
  | inr other ↦ absurd (let e : None ≡ Some len = rw other at h in cc)
]
line_len-append (b ∷ d ∷ bs) more len h = elim (cases_Bool ((b == 13) && (d == 10))) [
  | inl is_end ↦ let e : Some 0 ≡ Some len = rw is_end at h in let z : 0 ≡ len = cc in (omega arith, rw is_end (ap Some z))
  | inr other ↦
      let (k, found, next) = suc-some (line_len (d ∷ bs)) len (rw other at h) in
      let (within, same) = line_len-append (d ∷ bs) more k found in
      (omega arith, rw (other, same) (ap Some next))
]

-- a text is its first line, a line break, and the rest
abbrev IsSplit : Bytes → Bytes → ℕ → Type 0
IsSplit rest text len =
    (text ≡ take len text ++ 13 ∷ 10 ∷ drop (len + 2) text) × (line_len (take len text ++ 13 ∷ 10 ∷ rest) ≡ Some len)

not_here : (b d k : ℕ) (bs rest : Bytes) → (b == 13) && (d == 10) ≡ false
    → (b == 13) && (get_or (take k (d ∷ bs) ++ 13 ∷ 10 ∷ rest) 0 0 == 10) ≡ false
not_here b d zero bs rest other = elim (cases_Bool (b == 13)) [ inl is ↦ rw is refl | inr is ↦ rw is refl ]
not_here b d (suc k) bs rest other = other

pub line_len-split : (rest text : Bytes) (len : ℕ) → line_len text ≡ Some len → IsSplit rest text len
unfolding line_len
line_len-split rest [] len h = absurd (cc)
line_len-split rest (b ∷ []) len h = elim (cases_Bool (b == 13)) [
  | inl is_end ↦ absurd (let e : None ≡ Some len = rw is_end at h in cc)
  | inr other ↦ absurd (let e : None ≡ Some len = rw other at h in cc)
]
line_len-split rest (b ∷ d ∷ bs) len h = elim (cases_Bool ((b == 13) && (d == 10))) [
  | inl is_end ↦
      let e : Some 0 ≡ Some len = rw is_end at h in
      let z : 0 ≡ len = cc in
      let first : b ≡ 13 = grind (arith, nat_tests) in
      let second : d ≡ 10 = grind (arith, nat_tests) in
      let P : ℕ → Type 0 = λ k. IsSplit rest (b ∷ d ∷ bs) k in
      subst P z (ap (λ x. x ∷ d ∷ bs) first ∙ ap (λ x. 13 ∷ x ∷ bs) second, refl)
  | inr other ↦
      let (k, found, next) = suc-some (line_len (d ∷ bs)) len (rw other at h) in
      let (same, line) = line_len-split rest (d ∷ bs) k found in
      let P : ℕ → Type 0 = λ k. IsSplit rest (b ∷ d ∷ bs) k in
      let two : suc k + 2 ≡ suc (k + 2) = omega arith in
      subst P next (rw two (ap (λ t. b ∷ t) same), rw (not_here b d k bs rest other, line) refl)
]

-- ---- a head that is found is a head

take-past : (line rest : Bytes) (n k : ℕ) → length line ≡ n → take (n + 2 + k) (line ++ 13 ∷ 10 ∷ rest) ≡ line ++ 13 ∷ 10 ∷ take k rest
take-past line rest n k size =
    let e : n + 2 + k ≡ length line + suc (suc k) = omega arith in
    rw e (take-append-add line (13 ∷ 10 ∷ rest) (suc (suc k)))

abbrev Sound : ℕ → ℕ → ℕ → Option ℕ → Bytes → Type 0
Sound h l at found text = (k : ℕ) × (h ≡ at + k) × (k ≤ length text) × IsHead found (take k text) l

sound_end : (h l at : ℕ) (found : Option ℕ) (text : Bytes) → line_len text ≡ Some 0 → ended at found ≡ Whole h l → Sound h l at found text
sound_end h l at None text here is = absurd (cc)
sound_end h l at (Some n) text here is =
    let (split, line) = line_len-split [] text 0 here in
    let within = (line_len-append text [] 0 here).0 in
    let place : at + 2 ≡ h = cc in
    let same : n ≡ l = cc in
    let P : Bytes → Type 0 = λ t. IsHead (Some n) t l in
    let Q : ℕ → Type 0 = λ m. IsHead (Some n) (13 ∷ 10 ∷ []) m in
    (2, sym place, omega arith, subst P (sym (ap (take 2) split)) (subst Q same end_of_head))

sound_line : (h l at len : ℕ) (found : Option ℕ) (text : Bytes) (here : Option ℕ → Bytes → Head) → line_len text ≡ Some len
    → ((now : Option ℕ) (rest : Bytes) → here now rest ≡ Whole h l → Sound h l (at + (len + 2)) now rest)
    → (o : Option (Option ℕ)) → behind_line found (take len text) ≡ o
    → option_map_or (λ now. here now (drop (len + 2) text)) o Malformed ≡ Whole h l → Sound h l at found text
sound_line h l at len found text here found_line later None is read = absurd (cc)
sound_line h l at len found text here found_line later (Some now) is read =
    let rest = drop (len + 2) text in
    let (k, place, within, head) = later now rest read in
    let (room, _) = line_len-append text [] len found_line in
    let size : length (take len text) ≡ len = length-take-le len text (omega arith) in
    let left : length rest ≡ length text - (len + 2) = length-drop (len + 2) text in
    let (split, line) = line_len-split (take k rest) text len found_line in
    let whole : take (len + 2 + k) text ≡ take len text ++ 13 ∷ 10 ∷ take k rest =
    ap (take (len + 2 + k)) split ∙ take-past (take len text) rest len k size in
    let P : Bytes → Type 0 = λ t. IsHead found t l in
    (len + 2 + k, omega arith, omega arith, subst P (sym whole) (next_line (take len text) (take k rest) (line ∙ ap Some (sym size)) is head))

sound_lines : (h l n at : ℕ) (found : Option ℕ) (text : Bytes)
    → ((len : ℕ) (now : Option ℕ) (rest : Bytes) → head_from n (at + (len + 2)) now rest ≡ Whole h l → Sound h l (at + (len + 2)) now rest)
    → (o : Option ℕ) → line_len text ≡ o → head_from (suc n) at found text ≡ Whole h l → Sound h l at found text
unfolding head_from
sound_lines h l n at found text later None is whole = absurd (let e : Partial ≡ Whole h l = rw is at whole in cc)
sound_lines h l n at found text later (Some len) is whole = elim (cases_Bool (len == 0)) [
  | inl empty ↦
      sound_end h l at found text (is ∙ ap Some (grind (arith, nat_tests))) (rw (is, empty) at whole)
  | inr full ↦
      sound_line h l at len found text (head_from n (at + (len + 2))) is (later len) (behind_line found (take len text)) refl (rw (is, full) at whole)
]

pub head_from-sound : (n at : ℕ) (found : Option ℕ) (text : Bytes) (h l : ℕ) → head_from n at found text ≡ Whole h l → Sound h l at found text
unfolding head_from
head_from-sound zero at found text h l whole = absurd (cc)
head_from-sound (suc n) at found text h l whole =
    sound_lines h l n at found text (λ len now rest read. head_from-sound n (at + (len + 2)) now rest h l read) (line_len text) refl whole

-- ---- a head is found

not_empty : (found now : Option ℕ) (line : Bytes) → behind_line found line ≡ Some now → 0 < length line
not_empty found now [] is = absurd (cc)
not_empty found now (b ∷ bs) is = omega arith

pub head_from-complete : {found : Option ℕ} {head : Bytes} {l : ℕ} → IsHead found head l → (n at : ℕ) (more : Bytes) → length head < n
    → head_from n at found (head ++ more) ≡ Whole (at + length head) l
unfolding head_from line_len
head_from-complete end_of_head zero at more room = absurd (omega arith)
head_from-complete end_of_head (suc n) at more room = refl
head_from-complete (next_line line rest break is later) zero at more room = absurd (omega arith)
head_from-complete {found} {head} {l} (next_line {now = now} line rest break is later) (suc n) at more room =
    let text = (line ++ 13 ∷ 10 ∷ rest) ++ more in
    let same : text ≡ line ++ 13 ∷ 10 ∷ (rest ++ more) = append_assoc line (13 ∷ 10 ∷ rest) more in
    let here : line_len text ≡ Some (length line) = (line_len-append (line ++ 13 ∷ 10 ∷ rest) more (length line) break).1 in
    let front : take (length line) text ≡ line = ap (take (length line)) same ∙ take-append_seam line (13 ∷ 10 ∷ (rest ++ more)) in
    let back : drop (length line + 2) text ≡ rest ++ more = ap (drop (length line + 2)) same ∙ drop-append-add line (13 ∷ 10 ∷ (rest ++ more)) 2 in
    let size : length (line ++ 13 ∷ 10 ∷ rest) ≡ length line + (2 + length rest) = omega (arith, length-append line (13 ∷ 10 ∷ rest)) in
    let ends : head_from n (at + (length line + 2)) now (rest ++ more) ≡ Whole (at + (length line + 2) + length rest) l =
    head_from-complete later n (at + (length line + 2)) more (omega arith) in
    head_from-line n at (length line) found text here (not_empty found now line is) ∙ rw (front, is, back) (ends ∙ ap (λ k. Whole k l) (omega arith))

-- ---- what is found stays found

by_field : (len : ℕ) (o : Head) (text more : Bytes) (found : Option ℕ) (here there : Option ℕ → Bytes → Head) → len + 2 ≤ length text
    → ((now : Option ℕ) (rest : Bytes) → here now rest ≡ o → there now (rest ++ more) ≡ o)
    → (p : Option (Option ℕ)) → behind_line found (take len text) ≡ p
    → option_map_or (λ now. here now (drop (len + 2) text)) p Malformed ≡ o
    → option_map_or (λ now. there now (drop (len + 2) (text ++ more))) (behind_line found (take len (text ++ more))) Malformed ≡ o
by_field len o text more found here there within later None is read = rw (take-append-le len text more (omega arith), is) read
by_field len o text more found here there within later (Some now) is read =
    rw (take-append-le len text more (omega arith), is, drop-append-le (len + 2) text more within) (later now (drop (len + 2) text) read)

by_line : (o : Head) (n m at : ℕ) (found : Option ℕ) (text more : Bytes) → (o ≡ Partial → ⊥)
    → ((len : ℕ) (now : Option ℕ) (rest : Bytes) → head_from n (at + (len + 2)) now rest ≡ o → head_from m (at + (len + 2)) now (rest ++ more) ≡ o)
    → (p : Option ℕ) → line_len text ≡ p → head_from (suc n) at found text ≡ o
    → head_from (suc m) at found (text ++ more) ≡ o
unfolding head_from
by_line o n m at found text more known later None is whole = absurd (known (sym (let e : Partial ≡ o = rw is at whole in e)))
by_line o n m at found text more known later (Some len) is whole =
    let (within, same) = line_len-append text more len is in
    elim (cases_Bool (len == 0)) [
      | inl empty ↦ rw (same, empty) (rw (is, empty) at whole)
      | inr full ↦
          rw (same, full) (by_field len o text more found (head_from n (at + (len + 2))) (head_from m (at + (len + 2))) within (later len) (behind_line found (take len text)) refl (rw (is, full) at whole))
    ]

head_from-append : (n m at : ℕ) (found : Option ℕ) (text more : Bytes) (o : Head) → n ≤ m → (o ≡ Partial → ⊥)
    → head_from n at found text ≡ o → head_from m at found (text ++ more) ≡ o
unfolding head_from
head_from-append zero m at found text more o room known is = absurd (known (sym is))
head_from-append (suc n) zero at found text more o room known is = absurd (omega arith)
head_from-append (suc n) (suc m) at found text more o room known is =
    by_line o n m at found text more known (λ len now rest read. head_from-append n m (at + (len + 2)) now rest more o (omega arith) known read) (line_len text) refl is

head_of-append : (text more : Bytes) (o : Head) → (o ≡ Partial → ⊥) → head_of text ≡ o → head_of (text ++ more) ≡ o
head_of-append text more o known is = head_from-append (suc (length text)) (suc (length (text ++ more))) 0 None text more o (omega (arith, length-append text more)) known is

-- ---- frames at the front of a stream

take-past_all : (n : ℕ) (xs ys : Bytes) → length xs ≤ n → take n (xs ++ ys) ≡ xs ++ take (n - length xs) ys
take-past_all n xs ys fits = let e : n ≡ length xs + (n - length xs) = omega arith in ap (λ k. take k (xs ++ ys)) e ∙ take-append-add xs ys (n - length xs)

pub front-whole : (stream head rest : Bytes) (l : ℕ) → IsHead None head l → length head ≤ most_of_head → stream ≡ head ++ rest
    → head_of (front stream) ≡ Whole (length head) l
front-whole stream head rest l is small e =
    let more = take (most_of_head - length head) rest in
    let room : length head < suc (length (head ++ more)) = omega (arith, length-append head more) in
    ap head_of (ap front e ∙ take-past_all most_of_head head rest small) ∙ (head_from-complete is (suc (length (head ++ more))) 0 more room ∙ ap (λ k. Whole k l) (omega arith))

-- a message at the front is at the front of what the head is read from
frame-whole : (stream frame message rest : Bytes) → IsFrame frame message → stream ≡ frame ++ rest
    → (h : ℕ) × (head_of (front stream) ≡ Whole h (length message)) × (h + length message ≤ length stream)
frame-whole stream frame message rest (head, is, small, e) at_front =
    let all : stream ≡ head ++ (message ++ rest) = at_front ∙ (ap (λ f. f ++ rest) e ∙ append_assoc head message rest) in
    let size : length stream ≡ length head + length (message ++ rest) = ap length all ∙ length-append head (message ++ rest) in
    let more : length (message ++ rest) ≡ length message + length rest = length-append message rest in
    (length head, front-whole stream head (message ++ rest) (length message) is small all, omega arith)

pub no_head : (stream : Bytes) → head_of (front stream) ≡ Partial → IsPartial stream
no_head stream none frame message rest is e =
    let (h, whole, fits) = frame-whole stream frame message rest is e in
    let same : Partial ≡ Whole h (length message) = sym none ∙ whole in
    cc

pub too_short : (stream : Bytes) (h l : ℕ) → head_of (front stream) ≡ Whole h l → length stream - h < l → IsPartial stream
too_short stream h l found short frame message rest is e =
    let (k, whole, fits) = frame-whole stream frame message rest is e in
    let same : Whole h l ≡ Whole k (length message) = sym found ∙ whole in
    let head : h ≡ k = cc in
    let length : l ≡ length message = cc in
    omega arith

pub no_message : (stream : Bytes) → head_of (front stream) ≡ Malformed → IsMalformed stream
no_message stream none more frame message rest is e =
    let (h, whole, fits) = frame-whole (stream ++ more) frame message rest is e in
    elim (cases_lt (length stream) most_of_head) [
      | inl less ↦
          let still : head_of (stream ++ take (most_of_head - length stream) more) ≡ Malformed =
          head_of-append stream (take (most_of_head - length stream) more) Malformed (λ e. cc) (ap head_of (sym (take_all most_of_head stream (omega arith))) ∙ none) in
          let same : Malformed ≡ Whole h (length message) = sym still ∙ (ap head_of (sym (take-past_all most_of_head stream more (omega arith))) ∙ whole) in
          cc
      | inr enough ↦
          let same : Malformed ≡ Whole h (length message) = sym none ∙ (ap head_of (sym (take-append-le most_of_head stream more enough)) ∙ whole) in
          cc
    ]

pub no_end : (stream : Bytes) → head_of (front stream) ≡ Partial → most_of_head ≤ length stream → IsMalformed stream
no_end stream none enough more frame message rest is e =
    let (h, whole, fits) = frame-whole (stream ++ more) frame message rest is e in
    let same : Partial ≡ Whole h (length message) = sym none ∙ (ap head_of (sym (take-append-le most_of_head stream more enough)) ∙ whole) in
    cc

front-length : (stream : Bytes) → (length (front stream) ≤ length stream) × (length (front stream) ≤ most_of_head)
front-length stream = elim (cases_lt (length stream) most_of_head) [
  | inl less ↦ let same = ap length (take_all most_of_head stream (omega arith)) in (omega arith, omega arith)
  | inr enough ↦ let size = length-take-le most_of_head stream enough in (omega arith, omega arith)
]

pub front-within : (stream : Bytes) (h : ℕ) (text : Bytes) → text ≡ front stream → h ≤ length text → h ≤ length stream
front-within stream h text is within = let size = front-length stream in let same = ap length is in omega arith

pub message-found : (stream : Bytes) (h l : ℕ) → head_of (front stream) ≡ Whole h l → l ≤ length stream - h → h ≤ length stream
    → IsFrame (take (h + l) stream) (slice_range stream h (h + l))
message-found stream h l found room fits =
    let (k, place, within, head) = head_from-sound (suc (length (front stream))) 0 None (front stream) h l found in
    let same : k ≡ h = omega arith in
    let small : length (front stream) ≤ most_of_head = (front-length stream).1 in
    let start : take k (front stream) ≡ take h stream = ap (λ n. take n (front stream)) same ∙ take-take h most_of_head stream (omega arith) in
    let start_size : length (take h stream) ≡ h = length-take-le h stream fits in
    let message : slice_range stream h (h + l) ≡ take l (drop h stream) = ap (λ n. take n (drop h stream)) (let e : h + l - h ≡ l = omega arith in e) in
    let rest_size : length (drop h stream) ≡ length stream - h = length-drop h stream in
    let size : length (slice_range stream h (h + l)) ≡ l = ap length message ∙ length-take-le l (drop h stream) (omega arith) in
    let P : Bytes → Type 0 = λ t. IsHead None t (length (slice_range stream h (h + l))) in
    let Q : ℕ → Type 0 = λ n. IsHead None (take k (front stream)) n in
    (take h stream, subst P start (subst Q (sym size) head), omega arith, take-add h l stream ∙ ap (λ t. take h stream ++ t) (sym message))

-- a head has come, but not all of its message
pub message-coming : (stream : Bytes) (h l : ℕ) → head_of (front stream) ≡ Whole h l → length stream - h < l → h ≤ length stream → MayCome stream
message-coming stream h l found short fits =
    let (k, place, within, head) = head_from-sound (suc (length (front stream))) 0 None (front stream) h l found in
    let same : k ≡ h = omega arith in
    let small : length (front stream) ≤ most_of_head = (front-length stream).1 in
    let start : take k (front stream) ≡ take h stream = ap (λ n. take n (front stream)) same ∙ take-take h most_of_head stream (omega arith) in
    let start_size : length (take h stream) ≡ h = length-take-le h stream fits in
    let rest_size : length (drop h stream) ≡ length stream - h = length-drop h stream in
    let P : Bytes → Type 0 = λ t. IsHead None t l in
    inr (take h stream, drop h stream, l, subst P start head, omega arith, sym (take-append-drop h stream), omega arith)

-- ---- one stream has one message at its front

pub same_split : (xs ys front back : Bytes) → xs ++ front ≡ ys ++ back → length xs ≡ length ys → (xs ≡ ys) × (front ≡ back)
same_split xs ys front back e size = (
  sym (take-append_seam xs front) ∙ (ap (take (length xs)) e ∙ (ap (λ n. take n (ys ++ back)) size ∙ take-append_seam ys back)),
  sym (drop-append_seam xs front) ∙ (ap (drop (length xs)) e ∙ (ap (λ n. drop n (ys ++ back)) size ∙ drop-append_seam ys back)),
)

pub one-frame : (frame message other found more rest : Bytes) → IsFrame frame message → IsFrame other found
    → frame ++ more ≡ other ++ rest → (found ≡ message) × (rest ≡ more)
one-frame frame message other found more rest (head, is, small, e) (head', is', small', e') same =
    let stream = frame ++ more in
    let one : stream ≡ head ++ (message ++ more) = ap (λ f. f ++ more) e ∙ append_assoc head message more in
    let two : stream ≡ head' ++ (found ++ rest) = same ∙ (ap (λ f. f ++ rest) e' ∙ append_assoc head' found rest) in
    let whole : Whole (length head) (length message) ≡ Whole (length head') (length found) =
    sym (front-whole stream head (message ++ more) (length message) is small one) ∙ front-whole stream head' (found ++ rest) (length found) is' small' two in
    let (_, behind) = same_split head head' (message ++ more) (found ++ rest) (sym one ∙ two) cc in
    let (messages, rests) = same_split message found more rest behind cc in
    (sym messages, sym rests)

-- the message at the front was taken
pub taken-frame : (stream seen message rest : Bytes) (from to : ℕ) → seen ≡ stream
    → (from ≤ to) × (to ≤ length seen) × IsFrame (take to seen) (slice_range seen from to)
    → message ≡ slice_range stream from to → rest ≡ drop to stream → (frame : Bytes) × IsFrame frame message × (stream ≡ frame ++ rest)
taken-frame stream seen message rest from to same is is_message is_rest =
    let P : Bytes → Type 0 = λ s. (from ≤ to) × (to ≤ length s) × IsFrame (take to s) (slice_range s from to) in
    let Q : Bytes → Type 0 = λ m. IsFrame (take to stream) m in
    let R : Bytes → Type 0 = λ r. stream ≡ take to stream ++ r in
    (take to stream, subst Q (sym is_message) (subst P same is).2, subst R (sym is_rest) (sym (take-append-drop to stream)))
