-- Lists of values, one after the other.
use Rattle.std.proofs.Common.{◌≡◌, ℕ, ◌+◌, ◌<◌, ◌≤◌, List, [], ◌∷◌, ◌++◌, length, map, drop, get_or, Option, None, Some, option_map, option_and_then, refl, sym, ap, ◌∙◌, append_assoc}
use Rattle.std.specs.Option.{unwrap_or}
use Rattle.std.proofs.lemmas.List.{append-nil, at_drop_all, at_drop_more, map_push}
use Rattle.serde_json.specs.{Find.as_str, View.items_view, View.view, declared.value.Value.Value}
use Rattle.filterset_display.specs.declared.{edits.Change.Change, positions.Encoding.Encoding}
use Rattle.filterset_display.specs.Messages.{ChangeRow, change_in, change_row, changes_in, encoding_named, first_known}

-- ---- encodings

first-turn : (values : List Value) (i : ℕ) (value : Value) → i < length values → value ≡ get_or values i value
    → first_known (items_view (drop i values))
    ≡ unwrap_or (option_and_then encoding_named (as_str (view value))) (first_known (items_view (drop (i + 1) values)))
first-turn values i value within is =
    at_drop_more (λ vs. first_known (items_view vs)) values i value within
    ∙ ap (λ v. unwrap_or (option_and_then encoding_named (as_str (view v))) (first_known (items_view (drop (i + 1) values)))) (sym is)

pub first-found : (values : List Value) (i : ℕ) (value : Value) (encoding : Encoding) → i < length values → value ≡ get_or values i value
    → option_and_then encoding_named (as_str (view value)) ≡ Some encoding
    → first_known (items_view (drop i values)) ≡ first_known (items_view values) → encoding ≡ first_known (items_view values)
first-found values i value encoding within is known same =
    sym (ap (λ o. unwrap_or o (first_known (items_view (drop (i + 1) values)))) known) ∙ (sym (first-turn values i value within is) ∙ same)

pub first-next : (values : List Value) (i : ℕ) (value : Value) → i < length values → value ≡ get_or values i value
    → option_and_then encoding_named (as_str (view value)) ≡ None
    → first_known (items_view (drop i values)) ≡ first_known (items_view values)
    → first_known (items_view (drop (i + 1) values)) ≡ first_known (items_view values)
first-next values i value within is unknown same =
    sym (ap (λ o. unwrap_or o (first_known (items_view (drop (i + 1) values)))) unknown) ∙ (sym (first-turn values i value within is) ∙ same)

pub first-none : (values : List Value) (i : ℕ) → length values ≤ i → first_known (items_view (drop i values)) ≡ first_known (items_view values)
    → first_known (items_view []) ≡ first_known (items_view values)
first-none values i over same = sym (at_drop_all (λ vs. first_known (items_view vs)) values i over) ∙ same

-- ---- changes

-- the changes of the values are these, and then those of the values from i on
abbrev pub Read : List Value → ℕ → List Change → Type 0
Read values i before =
    changes_in (items_view values) ≡ option_map (λ cs. map change_row before ++ cs) (changes_in (items_view (drop i values)))

pub changes-none : (values : List Value) (before : List Change) → before ≡ [] → Read values 0 before
changes-none values before none = same (changes_in (items_view values)) ∙ ap (λ t. option_map (λ cs. map change_row t ++ cs) (changes_in (items_view values))) (sym none)
  where
    same : (o : Option (List ChangeRow)) → o ≡ option_map (λ cs. cs) o
    same None = refl
    same (Some cs) = refl

changes-turn : (values : List Value) (i : ℕ) (value : Value) → i < length values → value ≡ get_or values i value
    → changes_in (items_view (drop i values))
    ≡ option_and_then (λ c. option_map (λ cs. c ∷ cs) (changes_in (items_view (drop (i + 1) values)))) (change_in (view value))
changes-turn values i value within is =
    at_drop_more (λ vs. changes_in (items_view vs)) values i value within
    ∙ ap (λ v. option_and_then (λ c. option_map (λ cs. c ∷ cs) (changes_in (items_view (drop (i + 1) values)))) (change_in (view v))) (sym is)

pub changes-wrong : (values : List Value) (i : ℕ) (value : Value) (before : List Change) → i < length values → value ≡ get_or values i value
    → change_in (view value) ≡ None → Read values i before → changes_in (items_view values) ≡ None
changes-wrong values i value before within is wrong read =
    let none : changes_in (items_view (drop i values)) ≡ None =
    changes-turn values i value within is ∙ ap (option_and_then (λ c. option_map (λ cs. c ∷ cs) (changes_in (items_view (drop (i + 1) values))))) wrong in
    read ∙ ap (option_map (λ cs. map change_row before ++ cs)) none

one_more : (before : List ChangeRow) (c : ChangeRow) (o : Option (List ChangeRow))
    → option_map (λ cs. before ++ cs) (option_map (λ cs. c ∷ cs) o) ≡ option_map (λ cs. (before ++ c ∷ []) ++ cs) o
one_more before c None = refl
one_more before c (Some cs) = ap Some (sym (append_assoc before (c ∷ []) cs))

pub changes-next : (values : List Value) (i : ℕ) (value : Value) (before after : List Change) (change : Change) → i < length values
    → value ≡ get_or values i value → change_in (view value) ≡ Some (change_row change) → after ≡ before ++ change ∷ []
    → Read values i before → Read values (i + 1) after
changes-next values i value before after change within is found pushed read =
    let rest = changes_in (items_view (drop (i + 1) values)) in
    let here : changes_in (items_view (drop i values)) ≡ option_map (λ cs. change_row change ∷ cs) rest =
    changes-turn values i value within is ∙ ap (option_and_then (λ c. option_map (λ cs. c ∷ cs) rest)) found in
    let rows : map change_row after ≡ map change_row before ++ change_row change ∷ [] = ap (map change_row) pushed ∙ map_push change_row before change in
    read ∙ (ap (option_map (λ cs. map change_row before ++ cs)) here
    ∙ (one_more (map change_row before) (change_row change) rest ∙ ap (λ t. option_map (λ cs. t ++ cs) rest) (sym rows)))

pub changes-all : (values : List Value) (i : ℕ) (before : List Change) → length values ≤ i → Read values i before
    → changes_in (items_view values) ≡ Some (map change_row before)
changes-all values i before over read =
    read ∙ (ap (option_map (λ cs. map change_row before ++ cs)) (at_drop_all (λ vs. changes_in (items_view vs)) values i over)
    ∙ ap Some (append-nil (map change_row before)))
