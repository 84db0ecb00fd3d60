-- The word at an offset of a text, which what is offered replaces.
use Rattle.std.specs.Prelude.{ℕ, ◌+◌, ◌-◌, Bool, drop, length, nat_le, take}
use Rattle.std.specs.List.{prefix_len, suffix_len}
use Rattle.filterset_entries.specs.Placements.{TextSpot, line, literal}
use Rattle.filterset_display.specs.Positions.{Text}
use Rattle.filterset_faults.specs.{Span.span, declared.span.SourceSpan.SourceSpan}
use Rattle.filterset_configuration.specs.declared.stretch.Stretch.{Stretch}
use Rattle.filterset_offers.specs.Candidates.{is_name_byte, is_word_byte}
use Rattle.filterset_offers.specs.declared.gaps.{Gap.Gap, Word.Word, Word.TheVariants.Name, Word.TheVariants.Plain}

-- a text before a word, the part of the word that is typed, which is before the cursor, where the word is, and the text after it
pub record GapRow : Type 0 where
  pub before : Text
  pub typed : Text
  pub behind : Text
  pub at : SourceSpan

abbrev pub gap_row : Gap → GapRow
gap_row gap = record { before = gap.before.now; typed = gap.typed.now; behind = gap.behind.now; at = gap.at }

abbrev pub is_of : Word → ℕ → Bool
is_of Plain b = is_word_byte b
is_of Name b = is_name_byte b

-- the word of such bytes at an offset of a text: as many as are before it without a gap, and after it
abbrev pub gap_at : (ℕ → Bool) → Text → ℕ → GapRow
gap_at is text offset =
    let front = take offset text in
    let from = length front - suffix_len is front in
    let more = prefix_len is (drop offset text) in
    record {
      before = take from front;
      typed = drop from front;
      behind = drop more (drop offset text);
      at = span (length (take from front)) (length (drop from front) + more);
    }

-- what a byte was read from ends before an offset of the file
abbrev pub is_before : ℕ → Stretch → Bool
is_before offset origin = nat_le origin.to offset

-- how many bytes of a text at this spot of a file are read from what is before an offset of the file
abbrev pub text_offset : TextSpot → ℕ → ℕ
text_offset (literal place) offset = prefix_len (is_before offset) place.origins.items
text_offset (line stretch) offset = offset - stretch.from
