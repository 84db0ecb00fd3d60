-- Filtersets that have the texts that they get.
use Rattle.std.proofs.Common.{◌≡◌, ℕ, Bool, true, false, Global, Option, None, Some, refl, arith, ◌+◌, ◌<◌, ◌∙◌, ◌++◌, ◌∷◌, [], List, String, ap, drop, get_or, length, map, nat_eq, option_map, string_bytes, subst, sym, take}
use Rattle.std.proofs.lemmas.{Bool.false≢true, List.drop_more, List.map-append}
use Rattle.std.proofs.lemmas.Slice.Eq.{bytes_eq-Decides, slice_eq-Decides}
use Rattle.std.specs.Bool.{Decides, OnFalse, OnTrue}
use Rattle.std.specs.{Borrow.Bor, Cmp.Derive.Mapped.pointwise-map, Cmp.Lexicographic.pointwise}
use Rattle.std.specs.{Prelude.Vec, Prelude.is_none, Prelude.is_some, Prelude.not, Str.bytes_eq}
use Rattle.filterset_entries.specs.{Checked.TextRow, Entries.line_rows, Entries.rows_in}
use Rattle.filterset_entries.specs.declared.entries.ConfiguredTexts.{ConfiguredTexts}
use Rattle.filterset_display.specs.declared.source.Source.{Source}
use Rattle.filterset_faults.specs.declared.kind.FiltersetKind.TheVariants as kinds
use Rattle.filterset_configuration.specs.declared.places.Places.{Places}
use Rattle.filterset_sources.specs.declared.configuration.ConfiguredFilterset.{ConfiguredFilterset}
use Rattle.filterset_server.specs.Becoming.{AreRewritten, IsRewritten}
use Rattle.filterset_documents.specs.Contents.{AreRowsOf}
use Rattle.filterset_documents.specs.Filtersets.{AreTexts}
use Rattle.filterset_documents.specs.declared.content.Filtersets.TheVariants.{Configured, Lines}
use Rattle.filterset_documents.proofs.JoinLemmas.{rows_more}
use Rattle.filterset_display.specs.Positions.{Text}

abbrev pub bytes_of : String Global → Text
bytes_of s = string_bytes s

abbrev pub now_of : Bor Text → Text
now_of t = t.now

-- a test of two lists of texts decides whether they are the same
pub texts_decide : (xs ys : List (Bor Text)) (r : Bool) → r ≡ pointwise (λ (x y : Bor Text). pointwise nat_eq x.now y.now) xs ys
    → Decides r (map now_of xs ≡ map now_of ys)
texts_decide xs ys r is =
    let same : r ≡ pointwise bytes_eq (map now_of xs) (map now_of ys) = is ∙ sym (pointwise-map now_of bytes_eq xs ys) in
    slice_eq-Decides bytes_eq-Decides (map now_of xs) (map now_of ys) r same

-- the text of the next element
pub text_next : {A B C : Type 0} (f : A → C) (g : B → C) (xs : List A) (i : ℕ) (x : A) (ys : List B) (y : B)
    → i < length xs → get_or xs i x ≡ x → map g ys ≡ map f (take i xs) → g y ≡ f x
    → map g (ys ++ y ∷ []) ≡ map f (take (i + 1) xs)
text_next f g xs i x ys y lt at are is =
    map-append g ys (y ∷ []) ∙ ap (λ zs. zs ++ g y ∷ []) are ∙ ap (λ z. map f (take i xs) ++ z ∷ []) is ∙ sym (rows_more f xs i x lt at)

-- a fact, of which the first part holds, is decided by a test of the second
pub decides_both : (b : Bool) (P Q : Type 0) → P → OnTrue b Q → OnFalse b (¬ Q) → Decides b (P × Q)
decides_both true P Q p is not = (λ e. (p, is), λ both. refl)
decides_both false P Q p is not = (λ e. absurd (false≢true e), λ both. absurd (not both.1))

-- it does not hold if the first part does not
pub decides_neither : (P Q : Type 0) → ¬ P → Decides false (P × Q)
decides_neither P Q not = (λ e. absurd (false≢true e), λ both. absurd (not both.0))

-- whether there is nothing, of what is seen as something else
pub none_seen : {A B : Type 0} (f : A → B) (o : Option A) (r : Bool) → is_some o ≡ not r → r ≡ is_none (option_map f o)
none_seen f None true e = refl
none_seen f None false e = absurd (false≢true e)
none_seen f (Some x) true e = absurd (false≢true (sym e))
none_seen f (Some x) false e = refl

-- what elements are seen as, from a position on
pub rows_next : {A B : Type 0} (f : A → B) (xs : List A) (i : ℕ) (x : A) → i < length xs → get_or xs i x ≡ x
    → map f (drop i xs) ≡ f x ∷ map f (drop (i + 1) xs)
rows_next f xs i x lt at = ap (map f) (drop_more xs i x lt ∙ ap (λ y. y ∷ drop (i + 1) xs) at)

-- the same of elements that are copied
pub texts_next : (texts : List (Bor Text)) (i : ℕ) (d : Bor Text) → i < length texts
    → map now_of (drop i texts) ≡ now_of (get_or texts i d) ∷ map now_of (drop (i + 1) texts)
texts_next texts i d lt = ap (map now_of) (drop_more texts i d lt)

-- filtersets and others with the same texts are as many
pub rewritten_long : (rows : List TextRow) (texts : List Text) (others : List TextRow) → AreRewritten rows texts others
    → length rows ≡ length others
rewritten_long [] [] [] are = refl
rewritten_long [] [] (o ∷ others) are = absurd are
rewritten_long [] (t ∷ texts) others are = absurd are
rewritten_long (r ∷ rows) [] others are = absurd are
rewritten_long (r ∷ rows) (t ∷ texts) [] are = absurd are
rewritten_long (r ∷ rows) (t ∷ texts) (o ∷ others) are = omega (arith, rewritten_long rows texts others are.1)

-- the first filterset is the other one with its text, and so on
pub rewritten_first : (rows more : List TextRow) (texts news : List Text) (others rest : List TextRow) (row : TextRow) (new : Text) (other : TextRow)
    → rows ≡ row ∷ more → texts ≡ new ∷ news → others ≡ other ∷ rest → AreRewritten rows texts others
    → IsRewritten row new other × AreRewritten more news rest
rewritten_first rows more texts news others rest row new other row_is new_is other_is are =
    let P : List TextRow → Type 0 = λ rs. AreRewritten rs texts others in
    let Q : List Text → Type 0 = λ ts. AreRewritten (row ∷ more) ts others in
    let R : List TextRow → Type 0 = λ os. AreRewritten (row ∷ more) (new ∷ news) os in
    subst R other_is (subst Q new_is (subst P row_is are))

-- so the first one is not
pub rewritten_unlike : (rows more : List TextRow) (texts news : List Text) (others rest : List TextRow) (row : TextRow) (new : Text) (other : TextRow)
    → ¬ IsRewritten row new other → rows ≡ row ∷ more → texts ≡ new ∷ news → others ≡ other ∷ rest → ¬ AreRewritten rows texts others
rewritten_unlike rows more texts news others rest row new other unlike row_is new_is other_is =
    λ are. let all = rewritten_first rows more texts news others rest row new other row_is new_is other_is are in unlike all.0

-- the filtersets after the first one are
pub rewritten_rest : (rows more : List TextRow) (texts news : List Text) (others rest : List TextRow) (row : TextRow) (new : Text) (other : TextRow)
    → IsRewritten row new other → rows ≡ row ∷ more → texts ≡ new ∷ news → others ≡ other ∷ rest → AreRewritten rows texts others
    → AreRewritten more news rest
rewritten_rest rows more texts news others rest row new other same row_is new_is other_is are =
    let all = rewritten_first rows more texts news others rest row new other row_is new_is other_is are in all.1

pub rewritten_more : (rows more : List TextRow) (texts news : List Text) (others rest : List TextRow) (row : TextRow) (new : Text) (other : TextRow)
    → IsRewritten row new other → rows ≡ row ∷ more → texts ≡ new ∷ news → others ≡ other ∷ rest → AreRewritten more news rest
    → AreRewritten rows texts others
rewritten_more rows more texts news others rest row new other same row_is new_is other_is are =
    let P : List TextRow → Type 0 = λ rs. AreRewritten rs texts others in
    let Q : List Text → Type 0 = λ ts. AreRewritten (row ∷ more) ts others in
    let R : List TextRow → Type 0 = λ os. AreRewritten (row ∷ more) (new ∷ news) os in
    subst P (sym row_is) (subst Q (sym new_is) (subst R (sym other_is) (same, are)))

-- none are left
pub rewritten_none : (rows : List TextRow) (texts : List Text) (others : List TextRow) → rows ≡ [] → texts ≡ [] → others ≡ []
    → AreRewritten rows texts others
rewritten_none rows texts others no_rows no_texts no_others =
    let P : List TextRow → Type 0 = λ rs. AreRewritten rs texts others in
    let Q : List Text → Type 0 = λ ts. AreRewritten [] ts others in
    let R : List TextRow → Type 0 = λ os. AreRewritten [] [] os in
    subst P (sym no_rows) (subst Q (sym no_texts) (subst R (sym no_others) tt))
