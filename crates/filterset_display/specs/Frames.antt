-- Messages on a stream, as the protocol frames them: a head of lines, the empty one last, and as many bytes as the head says.
use Rattle.std.specs.Prelude.{◌≡◌, ◌≤◌, ◌<◌, ◌==◌, ◌&&◌, ◌||◌, ◌⊎◌, ◌+◌, ◌*◌, ◌-◌, ◌++◌, ℕ, suc, Bool, List, [], ◌∷◌, Option, None, Some, codes, decimal, drop, is_some, length, nat_le, nat_lt, option_and_then, option_map, position, slice_index, slice_range, take, if◌then◌else◌}
use Rattle.std.specs.{Char.is_ascii_digit, List.prefix_len, Str.str_eq_ignore_ascii_case}
use Rattle.filterset_display.specs.declared.frames.Next as next

abbrev pub Bytes : Type 0
Bytes = List ℕ

-- how many bytes a head has at most: 8 KiB
abbrev pub most_of_head : ℕ
most_of_head = 8192

-- how many bytes a message has at most: 64 MiB
abbrev pub most_of_message : ℕ
most_of_message = 67108864

-- how many bytes are before the first line break: a carriage return and a line feed
unfoldable pub line_len : Bytes → Option ℕ
line_len [] = None
line_len (b ∷ bs) = if b == 13 && slice_index bs 0 == 10 then Some 0 else option_map suc (line_len bs)

abbrev pub is_blank : ℕ → Bool
is_blank b = b == 32 || b == 9

-- the number that digits write after the digits of a number
unfoldable pub more_digits : ℕ → Bytes → Option ℕ
more_digits n [] = Some n
more_digits n (b ∷ bs) = if is_ascii_digit b then more_digits (10 * n + (b - 48)) bs else None

-- the number, if a message may be so long
abbrev pub allowed : Option ℕ → Option ℕ
allowed number = option_and_then (λ n. if nat_le n most_of_message then Some n else None) number

-- the length that a field's value gives: digits between blanks
abbrev pub length_in : Bytes → Option ℕ
length_in value =
    let text = drop (prefix_len is_blank value) value in
    let count = prefix_len is_ascii_digit text in
    let behind = drop count text in
    if count == 0 || nat_lt (prefix_len is_blank behind) (length behind) then None else allowed (more_digits 0 (take count text))

-- What is known of the message's length after a field, if `found` was known before it. One field alone gives the length: that
-- with this name, in any case.
abbrev pub behind_field : Option ℕ → Bytes → Bytes → Option (Option ℕ)
behind_field found name value =
    if str_eq_ignore_ascii_case name (codes "content-length")
    then (if is_some found then None else option_map Some (length_in value))
    else Some found

-- the same after a line, which is a name, a colon and a value
abbrev pub behind_line : Option ℕ → Bytes → Option (Option ℕ)
behind_line found line =
    option_and_then (λ at. behind_field found (take at line) (drop (at + 1) line)) (position (λ b. b == 58) line)

-- the rest of a head, at whose end this length is known, if `found` is known before it
pub data IsHead : Option ℕ → Bytes → ℕ → Type 0 where
  end_of_head : {n : ℕ} → IsHead (Some n) (13 ∷ 10 ∷ []) n
  next_line : {found now : Option ℕ} (line rest : Bytes) {n : ℕ} → line_len (line ++ 13 ∷ 10 ∷ rest) ≡ Some (length line)
      → behind_line found line ≡ Some now → IsHead now rest n → IsHead found (line ++ 13 ∷ 10 ∷ rest) n

-- the bytes are a message with its head
abbrev pub IsFrame : Bytes → Bytes → Type 0
IsFrame frame message =
    (head : Bytes) × IsHead None head (length message) × (length head ≤ most_of_head) × (frame ≡ head ++ message)

-- no message has come whole
abbrev pub IsPartial : Bytes → Type 0
IsPartial stream = (frame message rest : Bytes) → IsFrame frame message → stream ≡ frame ++ rest → ⊥

-- no message begins the stream, however it goes on
abbrev pub IsMalformed : Bytes → Type 0
IsMalformed stream = (more : Bytes) → IsPartial (stream ++ more)

-- a message may still come: less has come than a head may have, or a head has come, but not all of its message
abbrev pub MayCome : Bytes → Type 0
MayCome stream =
    (length stream < most_of_head)
    ⊎ ((head : Bytes) × (rest : Bytes) × (size : ℕ) × IsHead None head size × (length head ≤ most_of_head)
    × (stream ≡ head ++ rest) × (length rest < size))

-- no message has come whole, and one may still come
abbrev pub Waits : Bytes → Type 0
Waits stream = IsPartial stream × MayCome stream

-- what is at the front of a stream
abbrev pub IsNext : Bytes → next.Next → Type 0
IsNext stream next.TheVariants.Partial = Waits stream
IsNext stream next.TheVariants.Malformed = IsMalformed stream
IsNext stream (next.TheVariants.Message from to) =
    (from ≤ to) × (to ≤ length stream) × IsFrame (take to stream) (slice_range stream from to)

-- the frame that is written of a message
abbrev pub framed : Bytes → Bytes
framed message = codes "Content-Length: " ++ (decimal (length message) ++ (13 ∷ 10 ∷ 13 ∷ 10 ∷ message))

-- a stream that begins with the frame begins with this message, with no other, and then goes on as it did after the frame
abbrev pub ReadsBack : Bytes → Bytes → Type 0
ReadsBack frame message =
    IsFrame frame message × ((other found more rest : Bytes) → IsFrame other found → frame ++ more ≡ other ++ rest
    → (found ≡ message) × (rest ≡ more))
