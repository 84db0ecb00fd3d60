-- Which candidates stand where they are put.
use Rattle.std.specs.Prelude.{◌≡◌, ◌-◌, ◌++◌, ◌==◌, ◌&&◌, ℕ, Bool, true, false, List, [], MatchBool, length, not, replicate, slice_index, if◌then◌else◌}
use Rattle.std.specs.List.{count_by, starts_with}
use Rattle.filterset_display.specs.Positions.{Text}
use Rattle.filterset_faults.specs.{Span.offset_of, declared.kind.FiltersetKind.FiltersetKind}
use Rattle.filterset_documents.specs.Filtersets.{OfTree}
use Rattle.filterset_offers.specs.Sieves.{Sieves}
use Rattle.filterset_offers.specs.{Candidates.Row, Gaps.GapRow, Gaps.gap_at, Gaps.gap_row, Gaps.is_of, Marks.shows}
use Rattle.filterset_offers.specs.declared.candidates.Mark.{Mark}
use Rattle.filterset_offers.specs.declared.candidates.Mark.TheVariants.{Begins, Precedes, Inside, Names}
use Rattle.filterset_offers.specs.declared.{gaps.Word.TheVariants.Name, gaps.Word.TheVariants.Plain, standing.Gaps.Gaps}

-- ---- a candidate in place of a word

-- the words at an offset of a text: that of the language's bytes, and that of the bytes of names
pub record GapRows : Type 0 where
  pub word : GapRow
  pub name : GapRow

abbrev pub gap_rows : Gaps → GapRows
gap_rows gaps = record { word = gap_row gaps.word; name = gap_row gaps.name }

abbrev pub gaps_at : Text → ℕ → GapRows
gaps_at text offset = record { word = gap_at (is_of Plain) text offset; name = gap_at (is_of Name) text offset }

-- values of arguments replace names, and others words of the language
abbrev pub replaced : Mark → GapRows → GapRow
replaced (Begins far) gaps = gaps.word
replaced (Precedes far) gaps = gaps.word
replaced (Inside owner) gaps = gaps.name
replaced (Names what) gaps = gaps.name

abbrev pub gap_for : Row → GapRows → GapRow
gap_for row gaps = replaced row.mark gaps

-- an opening parenthesis follows the word
abbrev pub is_called : GapRow → Bool
is_called gap = slice_index gap.behind 0 == 40

-- what is put after the name of a candidate: no parenthesis where one follows
abbrev pub tail_in : Row → GapRow → Text
tail_in row gap = if is_called gap then [] else row.tail

-- what follows both where the candidate is tried: nothing where its argument follows
abbrev pub sample_in : Row → GapRow → Text
sample_in row gap = if is_called gap && not (length row.tail == 0) then [] else row.sample

-- what is put in place of the word
abbrev pub inserted : Row → GapRow → Text
inserted row gap = row.label ++ tail_in row gap

-- the text with a candidate in place of the word, and with this after it
abbrev pub text_with : Row → GapRow → Text → Text
text_with row gap behind = gap.before ++ (row.label ++ (tail_in row gap ++ (sample_in row gap ++ behind)))

-- ---- standing

-- whether the text with the candidate in place of the word reads as a tree which shows that the candidate stands where it may
abbrev pub Stands : FiltersetKind → Row → GapRow → Text → Bool → Type 0
Stands kind row gap behind =
    OfTree (text_with row gap behind) (λ e answer. answer ≡ shows kind row (offset_of gap.at) e) false

-- ---- what is after the word

-- as many closing parentheses as a text has more opening ones
abbrev pub closing : Text → Text
closing text = replicate (count_by (λ b. b == 40) text - count_by (λ b. b == 41) text) 41

-- what a candidate is tried with: the rest of the text, or what closes the text before the word
abbrev pub behind_of : Bool → GapRow → Text
behind_of is_closed gap = if is_closed then closing gap.before else gap.behind

-- the name of the candidate begins with what is typed
abbrev pub is_begun : Row → GapRow → Bool
is_begun row gap = starts_with (λ a b. a == b) row.label gap.typed

-- whether it does, and the candidate stands in its place
abbrev pub Fits : FiltersetKind → GapRows → Bool → Row → Bool → Type 0
Fits kind gaps is_closed row answer = let gap = gap_for row gaps in
    MatchBool (is_begun row gap) (Stands kind row gap (behind_of is_closed gap) answer) (answer ≡ false)

-- ---- offers

-- the candidates that fit
abbrev pub AreFitting : FiltersetKind → GapRows → Bool → List Row → List Row → Type 0
AreFitting kind gaps is_closed rows found =
    Sieves (λ row. Fits kind gaps is_closed row true) (λ row. Fits kind gaps is_closed row false) rows found

-- What is offered: the candidates that fit with the rest of the text. If none does, the rest has a fault of its own, and those are
-- offered that fit without it, with the text closed after them.
abbrev pub AreOffered : FiltersetKind → GapRows → List Row → List Row → Type 0
AreOffered kind gaps rows found =
    (whole : List Row) × AreFitting kind gaps false rows whole
    × MatchBool (length whole == 0) (AreFitting kind gaps true rows found) (found ≡ whole)
