-- Columns that are answered item by item.
use Rattle.std.proofs.Common.{◌≡◌, ◌↔◌, ◌+◌, ◌<◌, ℕ, zero, suc, [], ◌∷◌, Bool, true, false, ◌&&◌, ◌||◌, ◌==◌, IsTrue, List, length, not, refl, sym, ap, subst, ◌∙◌, ◌≤◌, ⊎_elim, inl, inr, arith, All, Bor, IfSome, None, Option, Some}
use Rattle.std.proofs.Math.Bool.{or-false}
use Rattle.std.proofs.lemmas.{Bool.cases_eq, Bool.cases_lt, Bool.eq-eqb, Bool.ne_eqb, List.get_or_read}
use Rattle.std.proofs.lemmas.{List.Elements.All-get_or, List.Folds.list_any_at, Slice.Eq.bytes_eq-Decides}
use Rattle.std.specs.{List.list_any, Slice.IsItemAt, Str.bytes_eq}
use Rattle.filterset_record.specs.Bits.{bit_of}
use Rattle.filterset_record.specs.Columns.{answer_of, Answered, AnsweredWhere, IsAt}
use Rattle.filterset_record.specs.{Searching.AnsweredSoFar, declared.column.Column.Column}
use Rattle.filterset_expression.specs.Connectives.{Connects, Decides, connected}
use Rattle.filterset_expression.specs.declared.logic.Connective.{Connective}
use Rattle.filterset_expression.specs.declared.logic.Connective.TheVariants.{Conjunction, Disjunction, ExclusiveDisjunction}
use Rattle.filterset_expression.proofs.Connectives.{connected_decides}

-- one item is at a position
one_item : {A : Type 0} (items : List A) (n : ℕ) (x y : A) → IsAt items n x → IsAt items n y → x ≡ y
one_item items n x y at other = get_or_read items n x at.0 (sym at.1) y ∙ other.1

-- one item more
pub more_answered : {A : Type 0} (old new : List ℕ) (items : List A) (holds : ℕ → A → Type 0) (n : ℕ) (item : A) (answer : Bool)
    → AnsweredSoFar old items holds n → IsAt items n item → (IsTrue answer ↔ holds n item)
    → ((i : ℕ) → bit_of new i ≡ ((i == n) && answer || bit_of old i)) → AnsweredSoFar new items holds (n + 1)
more_answered old new items holds n item answer before at says put = record {
  answered = λ i x below here. elim (cases_eq i n) [
    | inl same ↦
        let e : x ≡ item = one_item items n x item (subst (λ k. IsAt items k x) same here) at in
        let bit : bit_of new i ≡ answer = put i ∙ rw (eq-eqb i n same, before.open_ones i (omega (arith, same))) (or-false answer) in
        rw (bit, e, same) says
    | inr other ↦
        let bit : bit_of new i ≡ bit_of old i = put i ∙ rw (ne_eqb i n other) refl in
        rw bit (before.answered i x (omega (arith, below, other)) here)
  ];
  open_ones = λ i above.
      let other : i ≡ n → ⊥ = λ e. omega (arith, above, e) in
      put i ∙ rw (ne_eqb i n other) (before.open_ones i (omega (arith, above)));
}

-- items for which nothing holds are answered by bits that are not set
pub passed_over : {A : Type 0} (bits : List ℕ) (items : List A) (holds : ℕ → A → Type 0) (n m : ℕ) → n ≤ m
    → AnsweredSoFar bits items holds n
    → ((i : ℕ) (item : A) → n ≤ i → i < m → IsAt items i item → ¬ holds i item) → AnsweredSoFar bits items holds m
passed_over bits items holds n m below before none = record {
  answered = λ i x within here. ⊎_elim
      (λ early. before.answered i x early here)
      (λ later. (λ yes. absurd (let clash : false ≡ true = sym (before.open_ones i later) ∙ yes in cc), λ held. absurd (none i x later within here held)))
      (cases_lt i n);
  open_ones = λ i above. before.open_ones i (omega (arith, below, above));
}

-- equal texts
pub equal_texts : (xs ys : List ℕ) → IsTrue (bytes_eq xs ys) ↔ (xs ≡ ys)
equal_texts xs ys = bytes_eq-Decides xs ys

-- ---- whole columns

-- answers hold of what is alike
pub answered_alike : {A : Type 0} (column : Column) (items : List A) (P Q : A → Type 0) → ((item : A) → P item ↔ Q item)
    → Answered column items P → Answered column items Q
answered_alike column items P Q alike before = record {
  counted = before.counted;
  each = λ i item at.
      let own = before.each i item at in
      let same = alike item in
      (λ yes. same.0 (own.0 yes), λ held. own.1 (same.1 held));
}

-- there is an item at each position
pub some_item : {A : Type 0} (items : List A) (i : ℕ) → i < length items → (item : A) × IsAt items i item
some_item [] i within = absurd (omega (arith, within))
some_item (x ∷ items) zero within = (x, (within, refl))
some_item (x ∷ items) (suc i) within =
    let rest = some_item items i (omega (arith, within)) in
    (rest.0, (within, rest.1.1))

-- no item is as `p` says where none is found
pub none_found : {A : Type 0} (p : A → Bool) (items : List A) (i : ℕ) (item : A) → list_any p items ≡ false → IsAt items i item → p item ≡ true → ⊥
none_found p items i item none at is =
    let there : list_any p items ≡ true = list_any_at p items i item at.0 (ap p at.1 ∙ is) in
    let clash : false ≡ true = sym none ∙ there in cc

-- what holds of all items holds of one that is looked up
pub item_of_all : {X : Type 0} (P : X → Type 0) (xs : List X) (i : ℕ) (found : Option (Bor X)) → IsItemAt xs i found → All P xs → IfSome found (λ x. P x.now)
item_of_all P xs i None is all = tt
item_of_all P xs i (Some x) is all = subst P (sym is.1) (All-get_or P xs i x.now is.3.0 all)

-- ---- connectives

negated_answer : (a : Bool) (P : Type 0) → (IsTrue a ↔ P) → IsTrue (not a) ↔ (¬ P)
negated_answer true P own = (λ no. absurd (let clash : false ≡ true = no in cc), λ none. absurd (none (own.0 refl)))
negated_answer false P own = (λ yes held. let clash : false ≡ true = own.1 held in cc, λ none. refl)

-- the right operand's answer is needed only where the left one does not decide the connective
needed_answer : (c : Connective) (a b : Bool) (P Q : Type 0) → (IsTrue a ↔ P) → ((¬ Decides true false c a) → IsTrue b ↔ Q)
    → IsTrue (connected c a b) ↔ Connects c P Q
needed_answer Conjunction false b P Q own other = (λ yes. absurd (let clash : false ≡ true = yes in cc), λ held. own.1 held.0)
needed_answer Disjunction true b P Q own other = (λ yes. inl (own.0 refl), λ held. refl)
needed_answer Conjunction true b P Q own other = connected_decides Conjunction true b P Q own (other (λ is. let clash : true ≡ false = is in cc))
needed_answer Disjunction false b P Q own other = connected_decides Disjunction false b P Q own (other (λ is. let clash : false ≡ true = is in cc))
needed_answer ExclusiveDisjunction a b P Q own other = connected_decides ExclusiveDisjunction a b P Q own (other (λ is. is))

-- the negated answers
pub all_negated : {A : Type 0} (wanted old new : Column) (items : List A) (P : A → Type 0) → new.len ≡ old.len
    → ((i : ℕ) → i < old.len → answer_of new i ≡ not (answer_of old i)) → AnsweredWhere wanted old items P
    → AnsweredWhere wanted new items (λ item. ¬ P item)
all_negated wanted old new items P len negated own = record {
  counted = len ∙ own.counted;
  each = λ i item at asked.
      let within : i < old.len = omega (arith, at.0, own.counted) in
      rw (negated i within) (negated_answer (answer_of old i) (P item) (own.each i item at asked));
}

-- the answers of both operands, where the right one is answered where it is needed
pub both_combined : {A : Type 0} (c : Connective) (wanted narrowed left right column : Column) (items : List A) (P Q : A → Type 0)
    → column.len ≡ left.len → ((i : ℕ) → i < left.len → answer_of column i ≡ connected c (answer_of left i) (answer_of right i))
    → wanted.len ≡ length items
    → ((i : ℕ) → i < wanted.len → IsTrue (answer_of wanted i) → (¬ Decides true false c (answer_of left i)) → IsTrue (answer_of narrowed i))
    → AnsweredWhere wanted left items P → AnsweredWhere narrowed right items Q
    → AnsweredWhere wanted column items (λ item. Connects c (P item) (Q item))
both_combined c wanted narrowed left right column items P Q len combined counted least own other = record {
  counted = len ∙ own.counted;
  each = λ i item at asked.
      let within : i < left.len = omega (arith, at.0, own.counted) in
      rw (combined i within) (needed_answer c (answer_of left i) (answer_of right i) (P item) (Q item) (own.each i item at asked) (λ open_one. other.each i item at (least i (omega (arith, at.0, counted)) asked open_one)));
}
