-- The rows of texts that are numbered one after the other, and what else is made piece by piece.
use Rattle.std.proofs.Common.{◌≡◌, ℕ, ◌+◌, ◌<◌, arith, List, [], ◌∷◌, ◌++◌, length, map, take, get_or, ◌∙◌, sym, ap, refl, Option, None, Some, subst, false, String, Global, string_bytes}
use Rattle.std.proofs.lemmas.List.{map-append, length-map, length-take-le, take_more, Elements.filter_map-append}
use Rattle.std.specs.{List.enumerate_from, List.filter_map, Prelude.option_map, Prelude.option_to_list, Prelude.unwrap_or, Borrow.Bor}
use Rattle.filterset_display.specs.{Columns.Text, Json.number_data, Json.text_data, Json.RemarkData, Remarks.RemarkRow}
use Rattle.filterset_display.specs.declared.source.FileSpan.{FileSpan}
use Rattle.filterset_faults.specs.declared.kind.FiltersetKind.{FiltersetKind}
use Rattle.filterset_faults.specs.declared.parse_errors.FiltersetParseErrors.{FiltersetParseErrors}
use Rattle.filterset_entries.specs.{Checked.TextRow, Checked.text_row, declared.text.TextEntry.TextEntry}
use Rattle.filterset_entries.specs.Entries.{default_row, given_row, numbered_row, numbered_rows}
use Rattle.serde_json.specs.{Data.Data, Written.has_float}
use Rattle.filterset_graph.specs.declared.package.PackageMetadata.{PackageMetadata}
use Rattle.nextest_filtering.specs.Compiling.{IsRefusalOf, IsRefusedWith}
use Rattle.nextest_filtering.specs.declared.filterset.ParseRefusal.{ParseRefusal, TheVariants.Faults}
use Rattle.nextest_filtering.specs.declared.compile.context.KnownGroups.{KnownGroups}
pub use Rattle.filterset_sources.proofs.TestLemmas.{AllZip-push}

-- one more element, with the number behind those of the others
enumerate_from-push : {A : Type 0} (n : ℕ) (xs : List A) (x : A)
    → enumerate_from n (xs ++ x ∷ []) ≡ enumerate_from n xs ++ (n + length xs, x) ∷ []
enumerate_from-push n [] x =
    let same : n ≡ n + 0 = omega arith in ap (λ k. (k, x) ∷ []) same
enumerate_from-push {A} n (y ∷ ys) x =
    let same : (n + 1) + length ys ≡ n + length (y ∷ ys) = omega arith in
    ap (λ zs. (n, y) ∷ zs) (enumerate_from-push (n + 1) ys x ∙ ap (λ k. enumerate_from (n + 1) ys ++ (k, x) ∷ []) same)

-- the row of one more text
pub numbered_rows-push : (word : Text) (kind : FiltersetKind) (texts : List Text) (text : Text)
    → numbered_rows word kind (texts ++ text ∷ []) ≡ numbered_rows word kind texts ++ numbered_row word kind (1 + length texts) text ∷ []
numbered_rows-push word kind texts text =
    let row : ℕ × Text → TextRow = λ (numbered : ℕ × Text). numbered_row word kind numbered.0 numbered.1 in
    ap (map row) (enumerate_from-push 1 texts text) ∙ map-append row (enumerate_from 1 texts) ((1 + length texts, text) ∷ [])

-- the entry of one more text
pub numbered_entry : (word : Text) (kind : FiltersetKind) (texts : List Text) (entries : List TextEntry) (number : ℕ) (text : Text) (entry : TextEntry)
    → map text_row entries ≡ numbered_rows word kind texts → number ≡ 1 + length texts → text_row entry ≡ numbered_row word kind number text
    → map text_row (entries ++ entry ∷ []) ≡ numbered_rows word kind (texts ++ text ∷ [])
numbered_entry word kind texts entries number text entry are next is =
    map-append text_row entries (entry ∷ [])
    ∙ ap (λ rows. rows ++ text_row entry ∷ []) are
    ∙ ap (λ row. numbered_rows word kind texts ++ row ∷ []) (is ∙ ap (λ n. numbered_row word kind n text) next)
    ∙ sym (numbered_rows-push word kind texts text)

-- the entry of the next of given texts
pub given_entry : (word : Text) (kind : FiltersetKind) (texts : List (Bor Text)) (i : ℕ) (d : Bor Text) (entries : List TextEntry) (entry : TextEntry) → i < length texts
    → map text_row entries ≡ numbered_rows word kind (map (λ (t : Bor Text). t.now) (take i texts))
    → text_row entry ≡ numbered_row word kind (i + 1) (get_or texts i d).now
    → map text_row (entries ++ entry ∷ []) ≡ numbered_rows word kind (map (λ (t : Bor Text). t.now) (take (i + 1) texts))
given_entry word kind texts i d entries entry lt are is =
    let next : i + 1 ≡ 1 + length (map (λ (t : Bor Text). t.now) (take i texts)) = omega (arith, length-map (take i texts) (λ (t : Bor Text). t.now), length-take-le i texts (omega arith)) in
    rw (take_more texts i d lt, map-append (λ (t : Bor Text). t.now) (take i texts) (get_or texts i d ∷ []))
    (numbered_entry word kind (map (λ (t : Bor Text). t.now) (take i texts)) entries (i + 1) (get_or texts i d).now entry are next is)

-- the entry of the next element, of which there is a row by its number
pub next_entry : {A : Type 0} (row : ℕ × A → TextRow) (xs : List A) (i : ℕ) (x : A) (entries : List TextEntry) (entry : TextEntry)
    → i < length xs → get_or xs i x ≡ x → map text_row entries ≡ map row (enumerate_from 0 (take i xs)) → text_row entry ≡ row (i, x)
    → map text_row (entries ++ entry ∷ []) ≡ map row (enumerate_from 0 (take (i + 1) xs))
next_entry {A} row xs i x entries entry lt at are is =
    let before = take i xs in
    let count : i ≡ 0 + length before = omega (arith, length-take-le i xs (omega arith)) in
    map-append text_row entries (entry ∷ [])
    ∙ ap (λ rows. rows ++ text_row entry ∷ []) are
    ∙ ap (λ one. map row (enumerate_from 0 before) ++ one ∷ []) (is ∙ ap (λ n. row (n, x)) count)
    ∙ sym (ap (map row) (enumerate_from-push 0 before x) ∙ map-append row (enumerate_from 0 before) ((0 + length before, x) ∷ []))
    ∙ ap (λ ys. map row (enumerate_from 0 ys)) (sym (take_more xs i x lt ∙ ap (λ y. before ++ y ∷ []) at))

-- the row of one element, if it has one
one_row : {X : Type 0} (row : X → Option TextRow) (x : X) (o : Option TextEntry) → option_map text_row o ≡ row x
    → map text_row (option_to_list o) ≡ filter_map row (x ∷ [])
one_row row x None is = rw (sym is) refl
one_row row x (Some entry) is = rw (sym is) refl

-- the rows of elements with the next one, of which there may be a row
pub next_row : {A : Type 0} (row : ℕ × A → Option TextRow) (xs : List A) (i : ℕ) (x : A) → i < length xs → get_or xs i x ≡ x
    → filter_map row (enumerate_from 0 (take i xs)) ++ filter_map row ((i, x) ∷ []) ≡ filter_map row (enumerate_from 0 (take (i + 1) xs))
next_row {A} row xs i x lt at =
    let before = take i xs in
    let count : i ≡ 0 + length before = omega (arith, length-take-le i xs (omega arith)) in
    ap (λ n. filter_map row (enumerate_from 0 before) ++ filter_map row ((n, x) ∷ [])) count
    ∙ sym (filter_map-append row (enumerate_from 0 before) ((0 + length before, x) ∷ []))
    ∙ sym (ap (filter_map row) (enumerate_from-push 0 before x))
    ∙ ap (λ ys. filter_map row (enumerate_from 0 ys)) (sym (take_more xs i x lt ∙ ap (λ y. before ++ y ∷ []) at))

-- the entries with that of the next element, of which there may be a row
pub next_entries : {A : Type 0} (row : ℕ × A → Option TextRow) (xs : List A) (i : ℕ) (x : A) (entries new : List TextEntry) (o : Option TextEntry)
    → i < length xs → get_or xs i x ≡ x → map text_row entries ≡ filter_map row (enumerate_from 0 (take i xs)) → option_map text_row o ≡ row (i, x)
    → new ≡ entries ++ option_to_list o → map text_row new ≡ filter_map row (enumerate_from 0 (take (i + 1) xs))
next_entries row xs i x entries new o lt at are is made =
    ap (map text_row) made ∙ map-append text_row entries (option_to_list o) ∙ ap (λ rows. rows ++ map text_row (option_to_list o)) are
    ∙ ap (λ rows. filter_map row (enumerate_from 0 (take i xs)) ++ rows) (one_row row (i, x) o is) ∙ next_row row xs i x lt at

-- the rows of one element more
pub rows_more : {A B : Type 0} (f : A → B) (xs : List A) (i : ℕ) (x : A) → i < length xs → get_or xs i x ≡ x
    → map f (take (i + 1) xs) ≡ map f (take i xs) ++ f x ∷ []
rows_more f xs i x lt at =
    ap (map f) (take_more xs i x lt ∙ ap (λ y. take i xs ++ y ∷ []) at) ∙ map-append f (take i xs) (x ∷ [])

-- one more element of a list
pub one_more : {A : Type 0} (xs : List A) (i : ℕ) (x : A) → i < length xs → get_or xs i x ≡ x → take (i + 1) xs ≡ take i xs ++ x ∷ []
one_more xs i x lt at = take_more xs i x lt ∙ ap (λ y. take i xs ++ y ∷ []) at

-- the object of a remark has no number with a fraction
number_data-has_float : (n : Option ℕ) → has_float (number_data n) ≡ false
number_data-has_float None = refl
number_data-has_float (Some n) = refl

text_data-has_float : (t : Option Text) → has_float (text_data t) ≡ false
text_data-has_float None = refl
text_data-has_float (Some t) = refl

pub remark_has_no_float : (origin text : Text) (part : Option FileSpan) (number : Option ℕ) (remark : RemarkRow) (d : Data)
    → RemarkData origin text part number remark d → has_float d ≡ false
remark_has_no_float origin text part number remark d (here, there, at, in_file, is) =
    ap has_float is
    ∙ simp (number_data-has_float, text_data-has_float) refl

-- the row of the default filter that is given, or else of the other text
pub row_given : (given : Option (Bor Text)) (all : Bor Text) → default_row (unwrap_or given all).now ≡ unwrap_or (given_row given) (default_row all.now)
row_given (Some text) all = refl
row_given None all = refl

-- the faults of a refusal are ones that refuse the text
pub refusal_faults : (input : String Global) (text : Text) (kind : FiltersetKind) (packages : List PackageMetadata) (groups : KnownGroups) (refusal : ParseRefusal) (refused : FiltersetParseErrors)
    → string_bytes input ≡ text → IsRefusalOf input kind packages groups refusal → refusal ≡ Faults refused
    → IsRefusedWith text kind packages groups refused.errors.items
refusal_faults input text kind packages groups refusal refused same is e =
    let both = subst (IsRefusalOf input kind packages groups) e is in
    subst (λ t. IsRefusedWith t kind packages groups refused.errors.items) same both.1
