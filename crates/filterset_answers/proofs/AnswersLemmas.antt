-- Answers that are made piece by piece.
use Rattle.std.proofs.Common.{◌≡◌, ◌≢◌, ℕ, suc, Bool, add-zero, arith, ◌+◌, ◌<◌, ◌≤◌, List, [], ◌∷◌, ◌++◌, length, map, take, ◌∙◌, sym, ap, subst, append_assoc, refl, true, false}
use Rattle.std.proofs.Math.Dec.{eqb-suc-zero}
use Rattle.std.proofs.lemmas.List.{append-nil, length-map, length-take-le}
use Rattle.std.specs.Prelude.{◌==◌, if◌then◌else◌}
use Rattle.filterset_display.specs.{Columns.Text, Remarks.RemarkRow, Remarks.fault_remark, declared.remark.Form.Form}
use Rattle.filterset_faults.specs.declared.error.ParseSingleError.{ParseSingleError}
use Rattle.filterset_answers.specs.Answers.{FaultsOf, no_texts, next_text, TextFaults, has_some}
use Rattle.filterset_entries.specs.Checked.{TextRow}
use mir.Val.{bool_byte}

-- one if so, and else none
abbrev pub one_if : Bool → ℕ
one_if true = 1
one_if false = 0

-- a text with faults counts as one
counted_one : (faults : List RemarkRow) → (if length faults == 0 then 0 else 1) ≡ one_if (has_some faults)
counted_one [] = refl
counted_one (fault ∷ faults) = ap (λ b. if b then 0 else 1) (eqb-suc-zero (length faults))

-- the faults of one more text
pub FaultsOf-push : (Has : TextRow → List RemarkRow → Type 0) (form : Form) (n : ℕ) (rows : List TextRow) (row : TextRow) (faulty : ℕ) (has : Bool) (pieces piece : Text)
    → FaultsOf Has form n rows faulty pieces → TextFaults Has form (n + length rows) row has piece
    → FaultsOf Has form n (rows ++ row ∷ []) (faulty + one_if has) (pieces ++ piece)
FaultsOf-push Has form n [] row faulty has pieces piece no_texts is =
    let (faults, are, some, written) = rw add-zero at is in
    let one : (if length faults == 0 then 0 else 1) ≡ one_if has = counted_one faults ∙ ap one_if (sym some) in
    let alone : FaultsOf Has form n (row ∷ []) ((if length faults == 0 then 0 else 1) + 0) (piece ++ []) = next_text are written no_texts in
    let counted : (if length faults == 0 then 0 else 1) + 0 ≡ 0 + one_if has = omega (arith, one) in
    subst (λ count. FaultsOf Has form n (row ∷ []) count piece) counted (subst (FaultsOf Has form n (row ∷ []) ((if length faults == 0 then 0 else 1) + 0)) (append-nil piece) alone)
FaultsOf-push Has form n rows row faulty has pieces piece (next_text {others} {row = u} {rows = us} {faults} {front} {rest} is_first written are) is =
    let first : ℕ = if length faults == 0 then 0 else 1 in
    let shifted : n + length (u ∷ us) ≡ suc n + length us = omega arith in
    let further : TextFaults Has form (suc n + length us) row has piece = rw shifted at is in
    let longer : FaultsOf Has form n (u ∷ (us ++ row ∷ [])) (first + (others + one_if has)) (front ++ (rest ++ piece)) = next_text is_first written (FaultsOf-push Has form (suc n) us row others has rest piece are further) in
    let counted : first + (others + one_if has) ≡ (first + others) + one_if has = omega arith in
    subst (λ count. FaultsOf Has form n (u ∷ (us ++ row ∷ [])) count ((front ++ rest) ++ piece)) counted
    (subst (FaultsOf Has form n (u ∷ (us ++ row ∷ [])) (first + (others + one_if has))) (sym (append_assoc front rest piece)) longer)

-- the number of the next text
pub next_number : {A B : Type 0} (f : A → B) (xs : List A) (i : ℕ) → i < length xs → 1 + length (map f (take i xs)) ≡ i + 1
next_number f xs i lt = omega (arith, length-map (take i xs) f, length-take-le i xs (omega arith))

-- there are some where there are not none
pub some_is : (faults : List ParseSingleError) → faults ≢ [] → true ≡ has_some (map fault_remark faults)
some_is [] none = absurd (none refl)
some_is (fault ∷ faults) some = refl

-- a truth value as a number
pub number_of : (b : Bool) → bool_byte b ≡ one_if b
number_of true = refl
number_of false = refl

-- a truth value is 0 or 1
pub one_if-le : (b : Bool) → one_if b ≤ 1
one_if-le true = omega arith
one_if-le false = omega arith
