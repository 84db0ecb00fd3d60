-- What refusals refuse.
use Rattle.std.proofs.Common.{◌≡◌, Result, Ok, Err, subst, sym, ap, refl, string_bytes, [], List, ℕ, Option, Some, None, is_some, true}
use Rattle.std.specs.Prelude.{IfErr, IsErrAnd, MatchOption, codes}
use Rattle.std.specs.declared.alloc.AllocError.{AllocError}
use Rattle.serde_json.specs.{Data.Data, Find.as_object, Find.get}
use Rattle.filterset_json.specs.Paths.{joined, key_text, step_text}
use Rattle.filterset_json.specs.Places.{After, Names, Place, WrongMember}
use Rattle.filterset_json.specs.{Shape.Text, Refusals.Refuses, Refusals.IsAfter, Refusals.IsWrong}
use Rattle.filterset_json.specs.declared.{refusal.WrongValue.WrongValue, path.Step.Step}
use Rattle.filterset_json.specs.declared.refusal.EntryRefusal.{EntryRefusal, TheVariants.Wrong, TheVariants.OutOfMemory}

-- what is refused is refused for each fact from which that follows
pub Refuses-if : {A B : Type 0} (r : EntryRefusal) → (B → A) → Refuses A r → Refuses B r
Refuses-if (Wrong w) f h = λ b. h (f b)
Refuses-if (OutOfMemory e) f h = tt

-- a refusal that a `?` hands on
pub handed_on : {T A B : Type 0} (r : Result T EntryRefusal) (e : EntryRefusal) → IsErrAnd r (λ y. y ≡ e) → (B → A) → Refuses A e → IfErr r (Refuses B)
handed_on (Ok v) e same f h = absurd same
handed_on {B} (Err y) e same f h = subst (Refuses B) (sym same) (Refuses-if e f h)

-- what does not hold is refused by each refusal
pub Refuses-not : {A : Type 0} (r : EntryRefusal) → (A → ⊥) → Refuses A r
Refuses-not (Wrong w) refuted = refuted
Refuses-not (OutOfMemory e) refuted = tt

-- a refusal by a longer path refuses what the first one refused
pub Refuses-after : {A B : Type 0} (step : Step) (inner outer : EntryRefusal) → IsAfter step inner outer → (B → A) → Refuses A inner → Refuses B outer
Refuses-after step (Wrong v) (Wrong w) is f h = λ b. h (f b)
Refuses-after step (Wrong v) (OutOfMemory e) is f h = tt
Refuses-after step (OutOfMemory e) outer is f h = rw is tt

-- ---- the places that refusals name

abbrev wrong_or : WrongValue → EntryRefusal → WrongValue
wrong_or other (Wrong w) = w
wrong_or other (OutOfMemory e) = other

-- a wrong value names its own place
Names-wrong : (P : Place → Type 0) (w : WrongValue) → P (string_bytes w.path, w.expected.now) → Names P (Wrong w)
Names-wrong P w h = λ wrong same. subst (λ (x : WrongValue). P (string_bytes x.path, x.expected.now)) (ap (wrong_or w) same) h

-- out of memory names none
Names-none : (P : Place → Type 0) (e : AllocError) → Names P (OutOfMemory e)
Names-none P e = λ wrong same. absurd (cc (same))

-- a refusal of a whole value
pub Names-whole : (r : EntryRefusal) (expected : List ℕ) → IsWrong r [] expected → Names (λ place. place ≡ ([], expected)) r
Names-whole (Wrong w) expected is = Names-wrong (λ place. place ≡ ([], expected)) w (cc (is.0, is.1))
Names-whole (OutOfMemory e) expected is = absurd is

-- a refusal by a longer path
pub Names-after : (P : Place → Type 0) (step : Step) (inner outer : EntryRefusal) → IsAfter step inner outer → Names P inner → Names (After (step_text step) P) outer
Names-after P step (Wrong v) (Wrong w) is h =
    Names-wrong (After (step_text step) P) w (string_bytes v.path, is.0, subst (λ (must : List ℕ). P (string_bytes v.path, must)) (sym is.1) (h v refl))
Names-after P step (Wrong v) (OutOfMemory e) is h = Names-none (After (step_text step) P) e
Names-after P step (OutOfMemory e) outer is h = rw is (Names-none (After (step_text step) P) e)

known_some : {A : Type 0} (o : Option A) (P Q : Type 0) → is_some o ≡ true → Q → MatchOption o P (λ _. Q)
known_some (Some x) P Q some q = q
known_some None P Q some q = absurd (cc (some))

-- a key that is missing
pub missing_key : (W : Data → Place → Type 0) (key : Text) (d : Data) (place : Place) → None ≡ get key d → is_some (as_object d) ≡ true → place.0 ≡ joined (key_text key) [] →
    WrongMember key W d place
missing_key W key d place none object at = rw (← none) (known_some (as_object d) (place ≡ ([], codes "an object")) (place.0 ≡ joined (key_text key) []) object at)
