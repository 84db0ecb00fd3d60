-- Changes of documents.
use Rattle.std.specs.Prelude.{◌≡◌, ◌++◌, ℕ, List, [], ◌∷◌, MatchOption, drop, max, string_bytes, take}
use Rattle.filterset_display.specs.Positions.{IsOffset, Text}
use Rattle.filterset_display.specs.declared.{edits.Change.Change, positions.Encoding.Encoding, positions.Range.Range}

-- The text is the old one with this text in place of what is between the positions of a range. An end before the start counts
-- as the start.
abbrev pub IsReplaced : Encoding → Text → Range → Text → Text → Type 0
IsReplaced encoding old range text new =
    (from : ℕ) × (to : ℕ) × IsOffset encoding old range.start from × IsOffset encoding old range.end to
    × (new ≡ take from old ++ (text ++ drop (max from to) old))

-- the text is the old one with a change, which replaces a range or the whole
abbrev pub IsChanged : Encoding → Text → Change → Text → Type 0
IsChanged encoding old change new =
    MatchOption change.range (new ≡ string_bytes change.text)
    (λ range. IsReplaced encoding old range (string_bytes change.text) new)

-- each change is one of the text that the changes before it gave
abbrev pub AreChanged : Encoding → Text → List Change → Text → Type 0
AreChanged encoding old [] new = new ≡ old
AreChanged encoding old (change ∷ changes) new =
    (mid : Text) × IsChanged encoding old change mid × AreChanged encoding mid changes new
