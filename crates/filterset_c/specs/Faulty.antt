-- The faults that a handle holds.
use Rattle.std.specs.Prelude.{◌≡◌, ◌++◌, ℕ, List, [], Option, None, Some, codes, drop, length, min, option_map, slice_get, suc, take, unwrap_or, zero}
use Rattle.filterset_faults.specs.Faults.{code_of, span_of, label_of, help_of}
use Rattle.filterset_faults.specs.{Span.offset_of, Span.length_of, declared.error.ParseSingleError.ParseSingleError}
use Rattle.filterset_c.specs.declared.{faults.Span.Span, object.Object.Object, object.Object.TheVariants.Refused}
use Rattle.filterset_c.specs.declared.object.Refusal.{Refusal, TheVariants.Faults, TheVariants.TooDeep}

-- a text that nests too deeply has one fault
abbrev pub count_of : Refusal → ℕ
count_of (Faults refused) = length refused.errors.items
count_of (TooDeep place) = 1

abbrev pub fault_count : Option Object → ℕ
fault_count (Some (Refused refusal)) = count_of refusal
fault_count _ = 0

-- the span of a fault in bytes of its text; a fault without one has an empty span at 0
abbrev pub IsSpanOfFault : List ParseSingleError → ℕ → Span → Type 0
IsSpanOfFault faults index span =
    (fault : ParseSingleError) × (slice_get faults index ≡ Some fault)
    × (span.offset ≡ unwrap_or (option_map offset_of (span_of fault)) 0)
    × (span.length ≡ unwrap_or (option_map length_of (span_of fault)) 0)

abbrev pub IsSpanOf : Refusal → ℕ → Span → Type 0
IsSpanOf (Faults refused) index span = IsSpanOfFault refused.errors.items index span
IsSpanOf (TooDeep place) index span = (index ≡ 0) × (span ≡ place)

abbrev pub IsSpanAt : Option Object → ℕ → Span → Type 0
IsSpanAt (Some (Refused refusal)) index span = IsSpanOf refusal index span
IsSpanAt _ index span = ⊥

-- the text of a fault that has this number; a fault without one has an empty text
abbrev pub fault_text : ParseSingleError → ℕ → Option (List ℕ)
fault_text fault zero = Some (code_of fault)
fault_text fault (suc zero) = Some (unwrap_or (label_of fault) [])
fault_text fault (suc (suc zero)) = Some (unwrap_or (help_of fault) [])
fault_text fault _ = None

-- the same of the fault that a text nests too deeply
abbrev pub deep_text : ℕ → Option (List ℕ)
deep_text zero = Some (codes "NestedTooDeeply")
deep_text (suc zero) = Some (codes "more levels of parentheses and negations than the limit")
deep_text (suc (suc zero)) = Some []
deep_text _ = None

abbrev pub IsTextOfFault : List ParseSingleError → ℕ → ℕ → List ℕ → Type 0
IsTextOfFault faults index part text =
    (fault : ParseSingleError) × (slice_get faults index ≡ Some fault) × (fault_text fault part ≡ Some text)

abbrev pub IsTextOf : Refusal → ℕ → ℕ → List ℕ → Type 0
IsTextOf (Faults refused) index part text = IsTextOfFault refused.errors.items index part text
IsTextOf (TooDeep place) index part text = (index ≡ 0) × (deep_text part ≡ Some text)

abbrev pub IsTextAt : Option Object → ℕ → ℕ → List ℕ → Type 0
IsTextAt (Some (Refused refusal)) index part text = IsTextOf refusal index part text
IsTextAt _ index part text = ⊥

-- as much of the text as there is room for, and what was after it
abbrev pub written : List ℕ → List ℕ → List ℕ
written text room = take (min (length text) (length room)) text ++ drop (min (length text) (length room)) room
