-- A string of a file, by the content between its delimiters.
use Rattle.std.proofs.Common.{◌≡◌, ℕ, ◌+◌, Bool, true, false, cond, ◌&&◌, ◌||◌, ◌==◌, Some, length, drop, get_or, get_or-drop, refl, sym, ap, ◌∙◌, subst, inl, inr, Vec}
use Rattle.std.specs.declared.alloc.Global.{Global}
use Rattle.std.proofs.lemmas.{Bool.cases_Bool, List.drop-drop}
use Rattle.toml_parser.specs.{Lexical.first, Strings.body, Strings.one_line, Strings.quoted, Strings.trim_newline}
use Rattle.filterset_json.specs.Shape.{Text}
use Rattle.filterset_configuration.specs.{declared.stretch.Stretch.Stretch, Pieces.IsReadFrom}
use Rattle.filterset_configuration.specs.Strings.{IsPlaceOf, delimiter_of, is_multi_line, opening_length}

trim_by_tests : (lf crlf : Bool) (string : Text)
    → cond lf (drop 1 (drop 3 string)) (cond (lf || crlf) (drop 2 (drop 3 string)) (drop 3 string)) ≡ drop (cond lf 4 (cond crlf 5 3)) string
trim_by_tests true crlf string = drop-drop 1 3 string
trim_by_tests false true string = drop-drop 2 3 string
trim_by_tests false false string = refl

trimmed : (string : Text)
    → trim_newline (drop 3 string) ≡ drop (cond (get_or string 3 0 == 10) 4 (cond (get_or string 3 0 == 13 && get_or string 4 0 == 10) 5 3)) string
trimmed string =
    rw (get_or-drop 3 string 0 0, get_or-drop 3 string 1 0)
    (trim_by_tests (get_or string 3 0 == 10) (get_or string 3 0 == 13 && get_or string 4 0 == 10) string)

quoted-body : (string : Text) → quoted string ≡ body (first string) (is_multi_line string) (length string) (drop (opening_length string) string)
unfolding quoted one_line
quoted-body string = elim (cases_Bool (is_multi_line string)) [
  | inl three ↦ rw three (ap (body (first string) true (length string)) (trimmed string))
  | inr one ↦ rw one refl
]

-- what is read between the delimiters makes a place
pub place-from : (file text string : Text) (literal : Stretch) (origins : Vec Stretch Global) (end behind : ℕ)
    → string ≡ drop literal.from file → behind + literal.to ≡ length file
    → ((after : Text) × (quoted string ≡ Some (text, after)) × (length after ≡ behind))
    → ((n : ℕ) (after : Text) → body (first string) (is_multi_line string) n (drop (literal.from + opening_length string) file) ≡ Some (text, after)
    → IsReadFrom (delimiter_of string) file after end (literal.from + opening_length string) text origins.items)
    → IsPlaceOf file text (record { literal = literal; origins = origins; end = end })
place-from file text string literal origins end behind is all reads content =
    let (after, read, count) = reads in
    let start : drop (opening_length string) string ≡ drop (literal.from + opening_length string) file =
    ap (drop (opening_length string)) is ∙ drop-drop (opening_length string) literal.from file in
    let inside = content (length string) after
    (ap (body (first string) (is_multi_line string) (length string)) (sym start) ∙ sym (quoted-body string) ∙ read) in
    let P : Text → Type 0 = λ s. quoted s ≡ Some (text, after) in (
      delimiter_of string,
      literal.from + opening_length string,
      after,
      subst P is read,
      ap (λ n. n + literal.to) count ∙ all,
      inside,
    )
