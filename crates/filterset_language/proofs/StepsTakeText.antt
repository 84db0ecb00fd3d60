-- Steps that took a piece of a text.
use Rattle.std.proofs.Common.{◌≡◌, ℕ, ◌+◌, Bool, true, false, cond, eqb, List, [], ◌∷◌, ◌++◌, length, Option, Some, None, refl, sym, ap, ◌∙◌, subst, arith, append_assoc, length-append, inl, inr, ⊎_elim, ◌⊎◌}
use Rattle.std.proofs.lemmas.Bool.Decides.{eqb_tells}
use Rattle.std.specs.{Option.option_map, Option.option_and_then, Prelude.codes, Prelude.◌&&◌, Prelude.◌||◌}
pub use Rattle.std.proofs.lemmas.Option.{same_Some as is_some}
use Rattle.filterset_language.specs.Parsing.Front.{blank_len}
use Rattle.filterset_language.specs.Parsing.Position.{Position, position, skip_from, after, after_word, behind, if_ends}
use Rattle.filterset_language.specs.Parsing.Words.{choose, with, not_at, joiner_at, or_at, first_byte, named, either, name_at, name_text}
use Rattle.filterset_language.specs.Faults.{InvalidAnd, ampersands, capital_and, InvalidOr, pipes, capital_or}
use Rattle.filterset_language.specs.{declared.parsing.names.PredicateName.PredicateName, Parsing.Descent.◌>>=◌}
use Rattle.filterset_grammar.specs.Grammar.{not_text, join_text, or_text, not_ends, join_ends, or_ends}
use Rattle.filterset_grammar.specs.Text.{ends_word, Blanks, no_blank, space, newline, return_newline}
use Rattle.filterset_grammar.specs.declared.operators.AndOperator.TheVariants.{LiteralAnd, Ampersand}
use Rattle.filterset_grammar.specs.declared.operators.{DifferenceOperator.TheVariants.Minus, Joiner.Joiner}
use Rattle.filterset_grammar.specs.declared.operators.Joiner.TheVariants.{Both, Without, ExactlyOne}
use Rattle.filterset_grammar.specs.declared.operators.NotOperator.{NotOperator}
use Rattle.filterset_grammar.specs.declared.operators.NotOperator.TheVariants.{LiteralNot, Exclamation}
use Rattle.filterset_grammar.specs.declared.operators.OrOperator.{OrOperator}
use Rattle.filterset_grammar.specs.declared.operators.OrOperator.TheVariants.{LiteralOr, Pipe, Plus}
use Rattle.filterset_grammar.specs.declared.operators.SymmetricDifferenceOperator.TheVariants.{Caret}
use Rattle.filterset_grammar.specs.declared.predicate.Predicate.TheVariants as matching
use Rattle.filterset_language.specs.declared.parsing.names.PredicateName.TheVariants as names

-- ---- steps that gave something

pub bind_is : {A B : Type 0} (r : Option A) (f : A → Option B) (y : B) → (r >>= f) ≡ Some y → (x : A) × (r ≡ Some x) × (f x ≡ Some y)
bind_is (Some x) f y e = (x, refl, e)
bind_is None f y e = absurd cc

pub choose_is : {A B : Type 0} (o : Option A) (f : A → Option B) (d : Option B) (y : B) → choose o f d ≡ Some y → ((x : A) × (o ≡ Some x) × (f x ≡ Some y)) ⊎ ((o ≡ None) × (d ≡ Some y))
choose_is (Some x) f d y e = inl (x, refl, e)
choose_is None f d y e = inr (refl, e)

-- the text between two positions
pub record Takes (p : Position) (t : List ℕ) (q : Position) : Type 0 where
  pub parts : p.rest ≡ t ++ q.rest
  pub offset : q.at ≡ p.at + length t

pub Takes-then : (p q r : Position) (t u : List ℕ) → Takes p t q → Takes q u r → Takes p (t ++ u) r
Takes-then p q r t u a b = record {
  parts = a.parts ∙ ap (λ (x : List ℕ). t ++ x) b.parts ∙ sym (append_assoc t u r.rest);
  offset = omega (arith, a.offset, b.offset, length-append t u);
}

-- the blanks between a position and the one after them
pub record Skipped (p q : Position) : Type 0 where
  pub blanks : List ℕ
  pub are : Blanks blanks
  pub takes : Takes p blanks q
  pub stop : blank_len q.rest ≡ 0

pub blank_front : (b : ℕ) (t : List ℕ) → (eqb b 32 || eqb b 10) ≡ true → Blanks t → Blanks (b ∷ t)
blank_front b t e r =
    ⊎_elim
    (λ a. subst (λ (x : ℕ). Blanks (x ∷ t)) (sym a.1) (space r))
    (λ a. ⊎_elim (λ d. subst (λ (x : ℕ). Blanks (x ∷ t)) (sym d.1) (newline r)) (λ d. absurd (let f : false ≡ true = rw (a.0, d.0) at e in cc)) (eqb_tells b 10))
    (eqb_tells b 32)

pub return_front : (b c : ℕ) (t : List ℕ) → (eqb b 13 && eqb c 10) ≡ true → Blanks t → Blanks (b ∷ c ∷ t)
return_front b c t e r =
    ⊎_elim
    (λ a. ⊎_elim (λ d. subst (λ (y : ℕ). Blanks (b ∷ y ∷ t)) (sym d.1) (subst (λ (x : ℕ). Blanks (x ∷ 10 ∷ t)) (sym a.1) (return_newline r))) (λ d. absurd (let f : false ≡ true = rw (a.0, d.0) at e in cc)) (eqb_tells c 10))
    (λ a. absurd (let f : false ≡ true = rw a.0 at e in cc))
    (eqb_tells b 13)

pub stays : (at : ℕ) (t : List ℕ) → blank_len t ≡ 0 → Skipped (position at t) (position at t)
stays at t e = record { blanks = []; are = no_blank; takes = record { parts = refl; offset = omega arith }; stop = e }

pub skip_one : (b at : ℕ) (v : Bool) → (eqb b 32 || eqb b 10) ≡ v → Skipped (position at (b ∷ [])) (cond v (position (at + 1) []) (position at (b ∷ [])))
skip_one b at true e = record { blanks = b ∷ []; are = blank_front b [] e no_blank; takes = record { parts = refl; offset = refl }; stop = refl }
skip_one b at false e = stays at (b ∷ []) (rw e refl)

pub skip_two : (b c : ℕ) (t : List ℕ) (at : ℕ) (v w : Bool) → (eqb b 32 || eqb b 10) ≡ v → (eqb b 13 && eqb c 10) ≡ w → (q r : Position) → Skipped (position (at + 1) (c ∷ t)) q → Skipped (position (at + 2) t) r
    → Skipped (position at (b ∷ c ∷ t)) (cond v q (cond w r (position at (b ∷ c ∷ t))))
skip_two b c t at true w e f q r hq hr = record {
  blanks = b ∷ hq.blanks;
  are = blank_front b hq.blanks e hq.are;
  takes = record { parts = ap (λ (x : List ℕ). b ∷ x) hq.takes.parts; offset = omega (arith, hq.takes.offset) };
  stop = hq.stop;
}
skip_two b c t at false true e f q r hq hr = record {
  blanks = b ∷ c ∷ hr.blanks;
  are = return_front b c hr.blanks f hr.are;
  takes = record { parts = ap (λ (x : List ℕ). b ∷ c ∷ x) hr.takes.parts; offset = omega (arith, hr.takes.offset) };
  stop = hr.stop;
}
skip_two b c t at false false e f q r hq hr = stays at (b ∷ c ∷ t) (rw (e, f) refl)

pub skip_takes : (t : List ℕ) (at : ℕ) → Skipped (position at t) (skip_from at t)
skip_takes [] at = stays at [] refl
skip_takes (b ∷ []) at = skip_one b at _ refl
skip_takes (b ∷ c ∷ t) at = skip_two b c t at _ _ refl refl _ _ (skip_takes (c ∷ t) (at + 1)) (skip_takes t (at + 2))

pub behind_takes : (w t u : List ℕ) → behind w t ≡ Some u → t ≡ w ++ u
behind_takes [] t u e = is_some t u e
behind_takes (w ∷ ws) [] u e = absurd cc
behind_takes (w ∷ ws) (b ∷ t) u e =
    ⊎_elim
    (λ yes. let f : behind ws t ≡ Some u = rw yes.0 at e in let g : w ≡ b = yes.1 in let h = behind_takes ws t u f in cc)
    (λ no. let f : None ≡ Some u = rw no.0 at e in absurd cc)
    (eqb_tells w b)

pub after_takes : (w : List ℕ) (p q : Position) → after w p ≡ Some q → Takes p w q
after_takes w p q e = from (behind w p.rest) refl e
  where
    from : (o : Option (List ℕ)) → behind w p.rest ≡ o → option_map (λ (t : List ℕ). position (p.at + length w) t) o ≡ Some q → Takes p w q
    from None h e = absurd cc
    from (Some u) h e =
        let same : position (p.at + length w) u ≡ q = is_some _ _ e in
        subst (λ (x : Position). Takes p w x) same (record { parts = behind_takes w p.rest u h; offset = refl })

pub if_ends_is : (p q : Position) → if_ends p ≡ Some q → (p ≡ q) × (ends_word q.rest ≡ true)
if_ends_is p q e = from (ends_word p.rest) refl e
  where
    from : (v : Bool) → ends_word p.rest ≡ v → cond v (Some p) None ≡ Some q → (p ≡ q) × (ends_word q.rest ≡ true)
    from true h e = let same : p ≡ q = is_some p q e in (same, rw (← same) h)
    from false h e = absurd cc

pub word_takes : (w : List ℕ) (p q : Position) → after_word w p ≡ Some q → Takes p w q × (ends_word q.rest ≡ true)
word_takes w p q e = from (after w p) refl e
  where
    from : (o : Option Position) → after w p ≡ o → option_and_then if_ends o ≡ Some q → Takes p w q × (ends_word q.rest ≡ true)
    from None h e = absurd cc
    from (Some r) h e = let s = if_ends_is r q e in (subst (λ (x : Position). Takes p w x) s.0 (after_takes w p r h), s.1)

-- what holds of the first choice, where it is there, and of the others holds of what is chosen
choose_takes : {X : Type 0} (P : X × Position → Type 0) (o : Option Position) (x : X) (d : Option (X × Position)) → ((q : Position) → o ≡ Some q → P (x, q)) → ((y : X × Position) → d ≡ Some y → P y)
    → (y : X × Position) → choose o (with x) d ≡ Some y → P y
choose_takes P (Some q) x d first others y e = subst P (is_some (x, q) y e) (first q refl)
choose_takes P None x d first others y e = others y e

-- the last choice
last_takes : {X : Type 0} (P : X × Position → Type 0) (o : Option Position) (x : X) → ((q : Position) → o ≡ Some q → P (x, q)) → (y : X × Position) → choose o (with x) None ≡ Some y → P y
last_takes P o x first y e = choose_takes P o x None first (λ z none. absurd cc) y e

pub not_takes : (p : Position) (x : NotOperator × Position) → not_at p ≡ Some x → Takes p (not_text x.0) x.1 × not_ends x.0 x.1.rest
not_takes p x e =
    let P : NotOperator × Position → Type 0 = λ y. Takes p (not_text y.0) y.1 × not_ends y.0 y.1.rest in
    choose_takes P (after_word (codes "not") p) LiteralNot _ (word_takes (codes "not") p)
    (last_takes P (after (codes "!") p) Exclamation (λ q is. (after_takes (codes "!") p q is, tt))) x e

-- an operator of the level of `and`, and what stands after it
unfoldable pub JoinerTaken : Position → Option Joiner × Position → Type 0
JoinerTaken p (None, q) = (w : List ℕ) × InvalidAnd w × Takes p w q
JoinerTaken p (Some op, q) = Takes p (join_text op) q × join_ends op q.rest

pub joiner_takes : (p : Position) (x : Option Joiner × Position) → joiner_at p ≡ Some x → JoinerTaken p x
unfolding JoinerTaken
joiner_takes p x e =
    let P : Option Joiner × Position → Type 0 = λ y. JoinerTaken p y in
    choose_takes P (after (codes "&&") p) None _ (λ q is. (codes "&&", ampersands, after_takes (codes "&&") p q is))
    (choose_takes P (after_word (codes "AND") p) None _ (λ q is. (codes "AND", capital_and, (word_takes (codes "AND") p q is).0))
    (choose_takes P (after_word (codes "and") p) (Some (Both LiteralAnd)) _ (word_takes (codes "and") p)
    (choose_takes P (after (codes "&") p) (Some (Both Ampersand)) _ (λ q is. (after_takes (codes "&") p q is, tt))
    (choose_takes P (after (codes "-") p) (Some (Without Minus)) _ (λ q is. (after_takes (codes "-") p q is, tt))
    (last_takes P (after (codes "^") p) (Some (ExactlyOne Caret)) (λ q is. (after_takes (codes "^") p q is, tt))))))) x e

-- an operator of the level of `or`, and what stands after it
unfoldable pub OrTaken : Position → Option OrOperator × Position → Type 0
OrTaken p (None, q) = (w : List ℕ) × InvalidOr w × Takes p w q
OrTaken p (Some op, q) = Takes p (or_text op) q × or_ends op q.rest

pub or_takes : (p : Position) (x : Option OrOperator × Position) → or_at p ≡ Some x → OrTaken p x
unfolding OrTaken
or_takes p x e =
    let P : Option OrOperator × Position → Type 0 = λ y. OrTaken p y in
    choose_takes P (after (codes "||") p) None _ (λ q is. (codes "||", pipes, after_takes (codes "||") p q is))
    (choose_takes P (after_word (codes "OR") p) None _ (λ q is. (codes "OR", capital_or, (word_takes (codes "OR") p q is).0))
    (choose_takes P (after_word (codes "or") p) (Some LiteralOr) _ (word_takes (codes "or") p)
    (choose_takes P (after (codes "|") p) (Some Pipe) _ (λ q is. (after_takes (codes "|") p q is, tt))
    (last_takes P (after (codes "+") p) (Some Plus) (λ q is. (after_takes (codes "+") p q is, tt)))))) x e

-- ---- predicates' names

-- what was read as a name stands there
abbrev NameTaken : Position → PredicateName × Position → Type 0
NameTaken p y = Takes p (name_text y.0) y.1

named_takes : (n : PredicateName) (p : Position) (x : PredicateName × Position) → named (name_text n) n p ≡ Some x → NameTaken p x
named_takes n p = last_takes (NameTaken p) (after (name_text n) p) n (after_takes (name_text n) p)

either_takes : (n m : PredicateName) (p : Position) (x : PredicateName × Position) → either (name_text n) n (name_text m) m p ≡ Some x → NameTaken p x
either_takes n m p = choose_takes (NameTaken p) (after (name_text n) p) n _ (after_takes (name_text n) p) (named_takes m p)

-- one of two readings
one_of : {A : Type 0} (P : A → Type 0) (v : Bool) (a b : Option A) → ((x : A) → a ≡ Some x → P x) → ((x : A) → b ≡ Some x → P x) → (x : A) → cond v a b ≡ Some x → P x
one_of P true a b first second x e = first x e
one_of P false a b first second x e = second x e

pub name_takes : (p : Position) (x : PredicateName × Position) → name_at p ≡ Some x → NameTaken p x
name_takes p x e =
    let b = first_byte p.rest in
    let P : PredicateName × Position → Type 0 = NameTaken p in
    one_of P (eqb b 97) _ _ (named_takes names.All p)
    (one_of P (eqb b 98) _ _ (either_takes (names.Matching matching.BinaryId) (names.Matching matching.Binary) p)
    (one_of P (eqb b 100) _ _ (either_takes (names.Matching matching.Deps) names.Default p)
    (one_of P (eqb b 103) _ _ (named_takes (names.Matching matching.Group) p)
    (one_of P (eqb b 107) _ _ (named_takes (names.Matching matching.Kind) p)
    (one_of P (eqb b 110) _ _ (named_takes names.None p)
    (one_of P (eqb b 112) _ _ (either_takes (names.Matching matching.Package) names.Platform p)
    (one_of P (eqb b 114) _ _ (named_takes (names.Matching matching.Rdeps) p)
    (one_of P (eqb b 116) _ _ (named_takes (names.Matching matching.Test) p) (λ x none. absurd cc))))))))) x e

pub word_after : (w : List ℕ) (p q : Position) → after_word w p ≡ Some q → after w p ≡ Some q
word_after w p q e = from (after w p) e
  where
    from : (o : Option Position) → option_and_then if_ends o ≡ Some q → o ≡ Some q
    from None e = absurd cc
    from (Some r) e = let s = if_ends_is r q e in ap Some s.0
