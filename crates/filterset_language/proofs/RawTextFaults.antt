-- The faults of raw texts and bodies stand.
use Rattle.std.proofs.Common.{◌≡◌, ℕ, ◌+◌, ◌-◌, ◌≤◌, List, [], ◌∷◌, ◌++◌, length, take, drop, false, Some, None, refl, sym, ap, ◌∙◌, subst, arith, length-drop, length-append, IsUtf8, IsCharBoundary}
use Rattle.std.specs.Prelude.{min}
use Rattle.std.proofs.lemmas.List.{drop_at, take_at}
use Rattle.std.proofs.lemmas.Str.{IsUtf8-from_is_utf8, IsCharBoundary-from_drop, IsCharBoundary-from_rest}
use Rattle.filterset_faults.specs.{Span.span, Faults.span_of, declared.error.ParseSingleError.ParseSingleError}
use Rattle.filterset_faults.specs.declared.error.ParseSingleError.TheVariants.{InvalidString, InvalidEscapeCharacter, ExpectedCloseRegex}
use Rattle.filterset_language.specs.Parsing.{Position.position_of, Position.after, Escapes.escape_at}
use Rattle.filterset_language.specs.Faults.{EndsText, ClosesArgument, EndsBetween, FaultSays}
use Rattle.filterset_language.specs.{Parsing.Recovery.Found, Parsing.Recovery.is_unread, declared.parsing.input.Input.Input}
use Rattle.filterset_language.proofs.{StepsTakeText.Takes, StepsTakeText.after_takes, EscapeReading.no_escape}

-- the end of a text
pub size : (i : Input) → i.offset + length i.rest.now ≡ length i.text.now
size i = let e = ap length i.seam.onward in let w = i.seam.within in omega (arith, length-drop i.offset i.text.now)

-- an input begins between two characters
pub begins_here : (i : Input) → IsCharBoundary i.text.now i.offset
begins_here i = IsCharBoundary-from_drop i.text.now i.offset i.seam.within (subst IsUtf8 (sym i.seam.onward) (IsUtf8-from_is_utf8 i.rest.now i.seam.utf8))

-- what runs to the end ends there
pub rest_ends : (i : Input) → IsCharBoundary i.text.now (i.offset + length i.rest.now)
rest_ends i = let e = size i in (omega (arith, e), λ lt. absurd (omega (arith, e, lt)))

-- what is cut off before another input ends before a character
pub piece_ends : (i e : Input) (w : List ℕ) → i.rest.now ≡ w ++ e.rest.now → e.offset ≡ i.offset + length w → IsCharBoundary i.text.now (i.offset + (e.offset - i.offset))
piece_ends i e w parts offset =
    let at : length w ≡ e.offset - i.offset = omega (arith, offset) in
    let left : drop (length w) i.rest.now ≡ e.rest.now = ap (drop (length w)) parts ∙ drop_at w e.rest.now (length w) refl in
    let within : length w ≤ length i.rest.now = let n = ap length parts in omega (arith, n, length-append w e.rest.now) in
    let inner : IsCharBoundary i.rest.now (length w) = IsCharBoundary-from_drop i.rest.now (length w) within (subst IsUtf8 (sym left) (IsUtf8-from_is_utf8 e.rest.now e.seam.utf8)) in
    let own : IsCharBoundary (drop i.offset i.text.now) (length w) = subst (λ (t : List ℕ). IsCharBoundary t (length w)) (sym i.seam.onward) inner in
    subst (λ (k : ℕ). IsCharBoundary i.text.now (i.offset + k)) at (IsCharBoundary-from_rest i.text.now i.offset (length w) i.seam.within own)

-- the piece between two positions
pub piece_is : (a b : Input) (w : List ℕ) → Takes (position_of a) w (position_of b) → take (b.offset - a.offset) (drop a.offset a.text.now) ≡ w
piece_is a b w takes =
    let n : b.offset - a.offset ≡ length w = omega (arith, takes.offset) in
    ap (λ (k : ℕ). take k (drop a.offset a.text.now)) n ∙ ap (take (length w)) (a.seam.onward ∙ takes.parts) ∙ take_at w b.rest.now (length w) refl

-- ---- faults stand whose spans begin and end between two characters

found_at : (i : Input) (len : ℕ) (fault : ParseSingleError) → span_of fault ≡ Some (span i.offset len) → is_unread fault ≡ false → len ≤ length i.rest.now
    → EndsBetween i.text.now fault → FaultSays i.text.now fault → Found i.text.now fault
found_at i len fault is inside le ends there = record {
  stands = record { within = rw is (let e = size i in omega arith); begins = rw is (begins_here i); ends = ends; there = there };
  inside = inside;
}

-- a fault at a position
pub point_found : (i : Input) (fault : ParseSingleError) → span_of fault ≡ Some (span i.offset 0) → is_unread fault ≡ false → (IsCharBoundary i.text.now (i.offset + 0) → EndsBetween i.text.now fault)
    → FaultSays i.text.now fault → Found i.text.now fault
point_found i fault is inside ends there =
    let e : i.offset ≡ i.offset + 0 = omega arith in
    found_at i 0 fault is inside (omega arith) (ends (subst (λ (k : ℕ). IsCharBoundary i.text.now k) e (begins_here i))) there

-- a fault of the piece between two positions
pub piece_found : (i e : Input) (w : List ℕ) (fault : ParseSingleError) → span_of fault ≡ Some (span i.offset (e.offset - i.offset)) → is_unread fault ≡ false → Takes (position_of i) w (position_of e)
    → (IsCharBoundary i.text.now (i.offset + (e.offset - i.offset)) → EndsBetween i.text.now fault) → FaultSays i.text.now fault → Found i.text.now fault
piece_found i e w fault is inside takes ends there =
    found_at i (e.offset - i.offset) fault is inside (omega (arith, takes.offset, ap length takes.parts, length-append w e.rest.now)) (ends (piece_ends i e w takes.parts takes.offset)) there

-- a fault of all that is left
pub rest_found : (i : Input) (fault : ParseSingleError) → span_of fault ≡ Some (span i.offset (length i.rest.now)) → is_unread fault ≡ false
    → (IsCharBoundary i.text.now (i.offset + length i.rest.now) → EndsBetween i.text.now fault) → FaultSays i.text.now fault → Found i.text.now fault
rest_found i fault is inside ends there = found_at i (length i.rest.now) fault is inside (omega arith) (ends (rest_ends i)) there

pub unescaped_found : (i b : Input) → Some (position_of b) ≡ after (92 ∷ []) (position_of i) → None ≡ escape_at b.rest.now → Found i.text.now (InvalidEscapeCharacter (span i.offset (min 2 (length i.rest.now - 1))))
unescaped_found i b stands none =
    let t = after_takes (92 ∷ []) (position_of i) (position_of b) (sym stands) in
    let n : length i.rest.now - 1 ≡ length b.rest.now = let e = ap length t.parts in omega (arith, e) in
    found_at i _ (InvalidEscapeCharacter (span i.offset (min 2 (length i.rest.now - 1)))) refl refl (let f = ap length t.parts in omega (arith, f)) tt
    (b.rest.now, i.seam.onward ∙ t.parts, no_escape b.rest.now (sym none), ap (min 2) n)

pub empty_found : (i : Input) → EndsText i.rest.now → Found i.text.now (InvalidString (span i.offset 0))
empty_found i ends = point_found i (InvalidString (span i.offset 0)) refl refl (λ h. h) (refl, subst EndsText (sym i.seam.onward) ends)

pub unclosed_found : (i : Input) → ClosesArgument i.rest.now → Found i.text.now (ExpectedCloseRegex (span i.offset 0))
unclosed_found i closes = point_found i (ExpectedCloseRegex (span i.offset 0)) refl refl (λ h. h) (refl, subst ClosesArgument (sym i.seam.onward) closes)
