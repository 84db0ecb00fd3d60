-- A set that has the marks of states.
use Rattle.std.proofs.Common.{◌≡◌, ◌↔◌, refl, sym, ◌∙◌, ap, List, [], ◌∷◌, ◌++◌, Bool, true, false, cond, IsTrue}
use Rattle.std.specs.{Prelude.◌||◌, Bool.Decides, Cmp.booleans_Decides}
use Rattle.std.specs.HashSet.{HashSet, contains, IsEmpty, Updates}
use Rattle.std.specs.{List.Any, List.list_any, declared.vec.Vec.Vec, declared.alloc.Global.Global}
use Rattle.std.proofs.lemmas.List.Folds.{Any-from_list_any, list_any-append, list_any-from_Any}
use Rattle.std.proofs.lemmas.Slice.Eq.{slice_eq-Decides}
use Rattle.filterset_texts.specs.{declared.states.State.State, Searching.AreSeen, Searching.same_marks}
use Rattle.filterset_texts.proofs.Lists.{any_weaker, same_bool}

marks_decides : (marks others : Vec Bool Global) → Decides (same_marks marks others) (marks.items ≡ others.items)
marks_decides marks others = slice_eq-Decides booleans_Decides marks.items others.items (same_marks marks others) refl

cond_or : (b x : Bool) → cond b true x ≡ (x || (b || false))
cond_or true true = refl
cond_or true false = refl
cond_or false true = refl
cond_or false false = refl

-- with the marks of one more state the set has those of the states with it
pub seen_more : {S : Type 0} (states : List State) (state : State) (old new : HashSet (Vec Bool Global) S) (key : Vec Bool Global)
    → key.items ≡ state.marks.items → AreSeen states old → Updates same_marks old new key true → AreSeen (states ++ state ∷ []) new
seen_more states state old new key is seen updates = λ q.
    let key_same : IsTrue (same_marks key q) ↔ (q.items ≡ state.marks.items) =
    (λ h. sym ((marks_decides key q).0 h) ∙ is, λ e. (marks_decides key q).1 (is ∙ sym e)) in
    let same : same_marks key q ≡ same_marks q state.marks = same_bool (same_marks key q) (same_marks q state.marks) (q.items ≡ state.marks.items) key_same (marks_decides q state.marks) in
    updates.0 q
    ∙ cond_or (same_marks key q) (contains same_marks old q)
    ∙ ap (λ b. contains same_marks old q || (b || false)) same
    ∙ ap (λ b. b || (same_marks q state.marks || false)) (seen q)
    ∙ sym (list_any-append (λ (s : State). same_marks q s.marks) states (state ∷ []))

pub none_seen : {S : Type 0} (set : HashSet (Vec Bool Global) S) → IsEmpty set → AreSeen [] set
none_seen set empty = λ q. ap (list_any (same_marks q)) empty

pub was_seen : {S : Type 0} (states : List State) (set : HashSet (Vec Bool Global) S) (marks : Vec Bool Global) → AreSeen states set → contains same_marks set marks ≡ true
    → Any (λ (s : State). s.marks.items ≡ marks.items) states
was_seen states set marks seen has =
    any_weaker (λ (s : State). same_marks marks s.marks ≡ true) (λ (s : State). s.marks.items ≡ marks.items) states
    (λ s same. sym ((marks_decides marks s.marks).0 same))
    (Any-from_list_any (λ (s : State). same_marks marks s.marks) states (sym (seen marks) ∙ has))

pub is_seen : {S : Type 0} (states : List State) (set : HashSet (Vec Bool Global) S) (marks : Vec Bool Global) → AreSeen states set
    → Any (λ (s : State). s.marks.items ≡ marks.items) states → contains same_marks set marks ≡ true
is_seen states set marks seen any =
    seen marks
    ∙ list_any-from_Any (λ (s : State). same_marks marks s.marks) states
    (any_weaker (λ (s : State). s.marks.items ≡ marks.items) (λ (s : State). same_marks marks s.marks ≡ true) states
    (λ s same. (marks_decides marks s.marks).1 (sym same)) any)
