-- Texts with edits that mend them.
use Rattle.std.specs.Prelude.{◌≡◌, ◌⊎◌, ◌-◌, ◌&&◌, ◌∷◌, [], ℕ, Bool, true, false, List, Option, None, length, nat_le, nat_lt, not}
use Rattle.std.specs.{Bool.then_some, List.list_any, Option.option_map_or}
use Rattle.filterset_server.specs.Edits.{AreEditsOf, EditRow, edited}
use Rattle.filterset_display.specs.Positions.{Text}
use Rattle.filterset_faults.specs.{Faults.span_of, Span.offset_of}
use Rattle.filterset_faults.specs.declared.{error.ParseSingleError.ParseSingleError, span.SourceSpan.SourceSpan}
use Rattle.filterset_grammar.specs.Tree.{Tree}
use Rattle.filterset_language.specs.Parsed.{IsUnreadWith}
use Rattle.filterset_rewriting.specs.{Nesting.Depth.IsTooDeep, Nesting.Depth.most_levels, Reading.IsRead}

-- the fault begins in a stretch of this length from an offset on
abbrev pub begins_in : ℕ → ℕ → ParseSingleError → Bool
begins_in from len fault =
    option_map_or (λ s. nat_le from (offset_of s) && nat_lt (offset_of s - from) len) (span_of fault) false

-- whether the text reads as a tree, or none of its faults begins in the stretch; it does not if it nests too deeply
abbrev pub IsClear : Text → ℕ → ℕ → Bool → Type 0
IsClear text from len clear = ((e : Tree SourceSpan) × IsRead text e × (clear ≡ true))
    ⊎ ((faults : List ParseSingleError) × IsUnreadWith text faults × (clear ≡ not (list_any (begins_in from len) faults)))
    ⊎ ((place : ℕ) × IsTooDeep most_levels text place × (clear ≡ false))

-- The text with the edit, in which no fault begins in what the edit wrote. None if one does, or if the edit does not begin and
-- end between characters.
abbrev pub IsMending : Text → EditRow → Option Text → Type 0
IsMending text edit o = let edits = edit ∷ [] in ((¬ AreEditsOf text edits) × (o ≡ None))
    ⊎ (AreEditsOf text edits × ((clear : Bool) × IsClear (edited text edits) edit.at.from (length edit.text) clear
    × (o ≡ then_some clear (edited text edits))))
