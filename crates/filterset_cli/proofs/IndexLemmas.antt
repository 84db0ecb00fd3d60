-- The steps that make an index of items by texts of theirs.
use Rattle.std.proofs.Common.{◌≡◌, ◌<◌, ◌+◌, ◌∙◌, ◌++◌, ◌∷◌, [], ℕ, Bool, true, false, cond, List, Option, None, Some, is_some, length, get_or, take, sym, ap, refl}
use Rattle.std.specs.{Prelude.option_map, Borrow.Bor, BTreeMap.BTreeMap, List.find, Map.update, Option.option_or}
use Rattle.std.specs.Str.{bytes_eq}
use Rattle.std.proofs.lemmas.{List.take_more, List.Folds.find-append, Slice.Eq.bytes_eq-Decides}
use Rattle.filterset_json.specs.Shape.{Text}
use Rattle.filterset_cli.specs.Index.{IsIndexOf, entry_at}

module _ {A V : Type 0} (text_of : A → Text) (item_of : V → A) where
  -- the first item with a text, among one more
  first_more : (items : List A) (i : ℕ) (item : A) (text : Text) → i < length items → get_or items i item ≡ item →
      find (λ (x : A). bytes_eq (text_of x) text) (take (i + 1) items)
      ≡ option_or (find (λ (x : A). bytes_eq (text_of x) text) (take i items)) (cond (bytes_eq (text_of item) text) (Some item) None)
  first_more items i item text lt at =
      let test = λ (x : A). bytes_eq (text_of x) text in
      ap (find test) (take_more items i item lt ∙ ap (λ (x : A). take i items ++ x ∷ []) at) ∙ find-append test (take i items) (item ∷ [])

  -- what was found first stays
  found_stays : (found : Option A) (equal : Bool) (item : A) → (equal ≡ true → is_some found ≡ true) →
      found ≡ option_or found (cond equal (Some item) None)
  found_stays (Some x) equal item there = refl
  found_stays None true item there = let e : false ≡ true = there refl in cc
  found_stays None false item there = refl

  -- what is found where nothing was
  found_now : (found : Option A) (old : Option V) (equal : Bool) (entry : V) (item : A) → item_of entry ≡ item →
      option_map item_of old ≡ found → (equal ≡ true → found ≡ None) →
      option_map item_of (cond equal (Some entry) old) ≡ option_or found (cond equal (Some item) None)
  found_now found old true entry item is before none = rw (none refl) (ap Some is)
  found_now None old false entry item is before none = before
  found_now (Some x) old false entry item is before none = before

  mapped_none : (o : Option V) → is_some o ≡ false → option_map item_of o ≡ None
  mapped_none None is_none = refl
  mapped_none (Some v) is_none = cc

  mapped_some : (o : Option V) → is_some o ≡ true → is_some (option_map item_of o) ≡ true
  mapped_some None is_there = cc
  mapped_some (Some v) is_there = refl

  -- a text that is there keeps its item
  pub index_kept : (items : List A) (i : ℕ) (item : A) (index : BTreeMap (Bor Text) V) → i < length items → get_or items i item ≡ item →
      is_some (entry_at index (text_of item)) ≡ true → IsIndexOf text_of item_of (take i items) index → IsIndexOf text_of item_of (take (i + 1) items) index
  index_kept items i item index lt at there is text =
      let found = find (λ (x : A). bytes_eq (text_of x) text) (take i items) in
      let stays = found_stays found (bytes_eq (text_of item) text) item (λ equal.
      let same : text_of item ≡ text = (bytes_eq-Decides (text_of item) text).0 equal in
      ap is_some (sym (is text)) ∙ ap (λ (t : Text). is_some (option_map item_of (entry_at index t))) (sym same) ∙ mapped_some (entry_at index (text_of item)) there) in
      is text ∙ stays ∙ sym (first_more items i item text lt at)

  -- a text that is not there gets this item
  pub index_added : (items : List A) (i : ℕ) (item : A) (entry : V) (old new : BTreeMap (Bor Text) V) → i < length items →
      get_or items i item ≡ item → item_of entry ≡ item → is_some (entry_at old (text_of item)) ≡ false →
      ((text : Text) → entry_at new text ≡ update bytes_eq (entry_at old) (text_of item) (Some entry) text) → IsIndexOf text_of item_of (take i items) old → IsIndexOf text_of item_of (take (i + 1) items) new
  index_added items i item entry old new lt at is_entry absent updates is text =
      let found = find (λ (x : A). bytes_eq (text_of x) text) (take i items) in
      let now = found_now found (entry_at old text) (bytes_eq (text_of item) text) entry item is_entry (is text) (λ equal.
      let same : text_of item ≡ text = (bytes_eq-Decides (text_of item) text).0 equal in
      sym (is text) ∙ ap (λ (t : Text). option_map item_of (entry_at old t)) (sym same) ∙ mapped_none (entry_at old (text_of item)) absent) in
      ap (option_map item_of) (updates text) ∙ now ∙ sym (first_more items i item text lt at)
