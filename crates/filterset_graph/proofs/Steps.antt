-- The steps of the search over plain lists.
use Rattle.std.proofs.Common.{Vec, ◌≡◌, ◌≢◌, ◌+◌, ◌<◌, ◌⊎◌, ℕ, Bool, true, false, List, [], ◌∷◌, ◌++◌, Some, length, get_or, take, refl, sym, ◌∙◌, ap, subst, inl, inr, arith, length-append, ◌↔◌}
use Rattle.std.specs.Prelude.{Contains, slice_get}
use Rattle.std.proofs.{Math.ListN.set, Math.ListN.length-set, lemmas.Grind.common_steps, lemmas.List.take_more}
use Rattle.std.proofs.lemmas.List.Elements.{Contains-append_left, Contains-push, Contains-push_cases}
use Rattle.std.proofs.lemmas.{List.Sums.sum_by-set, Bool.cases_eq}
use Rattle.std.proofs.lemmas.Option.{same_Some, gets, slice_get_within, get_or_from_slice_get}
use Rattle.std.specs.declared.alloc.Global.{Global}
use Rattle.filterset_graph.specs.{Edges.HasEdge, Edges.IsReached, Edges.Walk, Walks.Follows, Walks.IsMarked}
use Rattle.filterset_graph.specs.Search.{unmarked, MarksAll, Spreads}

pub slice_get-set_same : {X : Type 0} (xs : List X) (i : ℕ) (x : X) → i < length xs → slice_get (set xs i x) i ≡ Some x
slice_get-set_same xs i x h = grind (arith, common_steps, gets)

pub slice_get-set_other : {X : Type 0} (xs : List X) (i : ℕ) (x : X) (k : ℕ) → k ≢ i → slice_get (set xs i x) k ≡ slice_get xs k
slice_get-set_other xs i x k apart = grind (arith, common_steps, gets)

-- a position that is marked anew, or was marked before
pub marked-set_cases : (marks : List Bool) (position k : ℕ) → position < length marks → IsMarked (set marks position true) k → (k ≡ position) ⊎ IsMarked marks k
marked-set_cases marks position k h m = grind (arith, common_steps, gets)

pub marked-set_kept : (marks : List Bool) (position k : ℕ) → position < length marks → IsMarked marks k → IsMarked (set marks position true) k
marked-set_kept marks position k h m = grind (arith, common_steps, gets)

pub unmarked-set : (marks : List Bool) (position : ℕ) → position < length marks → get_or marks position false ≡ false → unmarked (set marks position true) + 1 ≡ unmarked marks
unmarked-set marks position h e = grind (arith, common_steps, sum_by-set)

pub MarksAll-again : (positions : List ℕ) (old new : List Bool) (before after : List ℕ) (position : ℕ) → MarksAll positions old new before after → IsMarked new position → MarksAll (positions ++ position ∷ []) old new before after
MarksAll-again positions old new before after position done marked = grind (arith, common_steps, Contains-push_cases, Contains-append_left) steps 2000000

pub MarksAll-more : (positions : List ℕ) (old new : List Bool) (before after : List ℕ) (position : ℕ) → MarksAll positions old new before after → position < length new → get_or new position false ≡ false → MarksAll (positions ++ position ∷ []) old (set new position true) before (after ++ position ∷ [])
MarksAll-more positions old new before after position done within fresh = record {
  size = length-set new position true ∙ done.size;
  kept = λ k m. marked-set_kept new position k within (done.kept k m);
  marked = λ k c. elim (Contains-push_cases positions position k c) [ inl h ↦ marked-set_kept new position k within (done.marked k h) | inr e ↦ subst (λ (p : ℕ). IsMarked (set new position true) p) e (slice_get-set_same new position true within) ];
  only = λ k m. elim (marked-set_cases new position k within m) [ inl e ↦ inr (subst (λ (p : ℕ). Contains (positions ++ position ∷ []) p) (sym e) (Contains-push positions position)) | inr h ↦ elim (done.only k h) [ inl g ↦ inl g | inr g ↦ inr (Contains-append_left positions (position ∷ []) k g) ] ];
  pending = λ k m. elim (marked-set_cases new position k within m) [ inl e ↦ inr (subst (λ (p : ℕ). Contains (after ++ position ∷ []) p) (sym e) (Contains-push after position)) | inr h ↦ elim (done.pending k h) [ inl g ↦ inl g | inr g ↦ inr (Contains-append_left after (position ∷ []) k g) ] ];
  pending_kept = λ k c. Contains-append_left after (position ∷ []) k (done.pending_kept k c);
  pending_marked = λ k c. elim (Contains-push_cases after position k c) [ inl h ↦ (elim (done.pending_marked k h) [ inl g ↦ inl g | inr g ↦ inr (marked-set_kept new position k within g) ]) | inr e ↦ inr (subst (λ (p : ℕ). IsMarked (set new position true) p) e (slice_get-set_same new position true within)) ];
  falls = omega (arith, done.falls, unmarked-set new position within fresh, length-append after (position ∷ []));
}

pub marked_at : (marks : List Bool) (position : ℕ) → get_or marks position false ≡ true → IsMarked marks position
marked_at marks position e = grind (arith, common_steps, gets)

-- one more position of the row, which was marked before or is marked now
pub MarksAll-step_again : (positions : List ℕ) (i : ℕ) (old new : List Bool) (before after : List ℕ) → i < length positions → MarksAll (take i positions) old new before after → get_or new (get_or positions i 0) false ≡ true → MarksAll (take (i + 1) positions) old new before after
MarksAll-step_again positions i old new before after h done marked =
    rw (take_more positions i 0 h) (MarksAll-again (take i positions) old new before after (get_or positions i 0) done (marked_at new (get_or positions i 0) marked))

pub MarksAll-step_more : (positions : List ℕ) (i : ℕ) (old new : List Bool) (before after : List ℕ) → i < length positions → MarksAll (take i positions) old new before after → get_or positions i 0 < length new → get_or new (get_or positions i 0) false ≡ false → MarksAll (take (i + 1) positions) old (set new (get_or positions i 0) true) before (after ++ get_or positions i 0 ∷ [])
MarksAll-step_more positions i old new before after h done within fresh =
    rw (take_more positions i 0 h) (MarksAll-more (take i positions) old new before after (get_or positions i 0) done within fresh)

follows_on : (edges : List (Vec ℕ Global)) (a : ℕ) (rest : List ℕ) (b c : ℕ) → Follows (HasEdge edges) a rest b → HasEdge edges b c → Follows (HasEdge edges) a (rest ++ c ∷ []) c
follows_on edges a [] b c e edge = (subst (λ (p : ℕ). HasEdge edges p c) (sym e) edge, refl)
follows_on edges a (next ∷ rest) b c walk edge = (walk.0, follows_on edges next rest b c walk.1 edge)

-- a walk goes on along one more edge
pub Walk-push : (edges : List (Vec ℕ Global)) (a b c : ℕ) → Walk edges a b → HasEdge edges b c → Walk edges a c
Walk-push edges a b c walk edge = (walk.0 ++ c ∷ [], follows_on edges a walk.0 b c walk.1 edge)

-- marks that every edge keeps hold all that is reached
pub closed_along : (edges : List (Vec ℕ Global)) (marks : List Bool) → ((a b : ℕ) → IsMarked marks a → HasEdge edges a b → IsMarked marks b) → (a : ℕ) (rest : List ℕ) (b : ℕ) → IsMarked marks a → Follows (HasEdge edges) a rest b → IsMarked marks b
closed_along edges marks closed a [] b m e = subst (λ (p : ℕ). IsMarked marks p) e m
closed_along edges marks closed a (next ∷ rest) b m walk = closed_along edges marks closed next rest b (closed a next m walk.0) walk.1

-- the marked positions below i
abbrev pub ListsMarked : List Bool → ℕ → List ℕ → Type 0
ListsMarked marks i positions = (k : ℕ) → Contains positions k ↔ ((k < i) × IsMarked marks k)

pub ListsMarked-push : (marks : List Bool) (i : ℕ) (positions : List ℕ) → get_or marks i false ≡ true → ListsMarked marks i positions → ListsMarked marks (i + 1) (positions ++ i ∷ [])
ListsMarked-push marks i positions e lists = λ k. (
  (λ c. elim (Contains-push_cases positions i k c) [ inl h ↦ (omega (arith, ((lists k).0 h).0), ((lists k).0 h).1) | inr same ↦ (omega (arith, same), subst (λ (p : ℕ). IsMarked marks p) same (marked_at marks i e)) ]),
  (λ m. elim (cases_eq k i) [ inl same ↦ subst (λ (p : ℕ). Contains (positions ++ i ∷ []) p) (sym same) (Contains-push positions i) | inr apart ↦ (let below : k < i = omega (arith, m.0, apart) in Contains-append_left positions (i ∷ []) k ((lists k).1 (below, m.1))) ]),
)

pub ListsMarked-skip : (marks : List Bool) (i : ℕ) (positions : List ℕ) → get_or marks i false ≡ false → ListsMarked marks i positions → ListsMarked marks (i + 1) positions
ListsMarked-skip marks i positions e lists = λ k. (
  (λ c. (omega (arith, ((lists k).0 c).0), ((lists k).0 c).1)),
  (λ m. elim (cases_eq k i) [ inl same ↦ absurd (let at : get_or marks k false ≡ true = get_or_from_slice_get marks k true false m.1 in let fails : get_or marks k false ≡ false = subst (λ (p : ℕ). get_or marks p false ≡ false) (sym same) e in cc) | inr apart ↦ (let below : k < i = omega (arith, m.0, apart) in (lists k).1 (below, m.1)) ]),
)

-- the search after all that the row of one pending position names was marked
pub Spreads-step : (edges : List (Vec ℕ Global)) (starts marks new : List Bool) (pending rest after : List ℕ) (position : ℕ) (row : Vec ℕ Global) → pending ≡ rest ++ position ∷ [] → slice_get edges position ≡ Some row → Spreads edges starts marks pending → MarksAll row.items marks new rest after → Spreads edges starts new after
Spreads-step edges starts marks new pending rest after position row popped here far done =
    let reached : IsReached edges starts position = far.sound position (far.pending_marked position (rw popped (Contains-push rest position))) in
    record {
      size = done.size ∙ far.size;
      started = λ k m. done.kept k (far.started k m);
      sound = λ k m. elim (done.only k m) [ inl old ↦ far.sound k old | inr c ↦ (reached.0, reached.1, Walk-push edges reached.0 position k reached.2 (row, here, c)) ];
      pending_marked = λ k c. elim (done.pending_marked k c) [ inl h ↦ done.kept k (far.pending_marked k (rw popped (Contains-append_left rest (position ∷ []) k h))) | inr m ↦ m ];
      closed = λ k m. elim (done.pending k m) [
        | inl old ↦ elim (far.closed k old) [
          | inl h ↦ elim (Contains-push_cases rest position k (subst (λ (l : List ℕ). Contains l k) popped h)) [
            | inl g ↦ inl (done.pending_kept k g)
            | inr same ↦ inr (λ b edge. done.marked b (subst (λ (r : Vec ℕ Global). Contains r.items b) (same_Some edge.0 row (sym edge.1 ∙ ap (slice_get edges) (sym same) ∙ here)) edge.2))
          ]
          | inr all ↦ inr (λ b edge. done.kept b (all b edge))
        ]
        | inr c ↦ inl c
      ];
    }

-- a pending position is a position of the graph
pub Spreads-pending_within : (edges : List (Vec ℕ Global)) (starts marks : List Bool) (pending rest : List ℕ) (position : ℕ) → pending ≡ rest ++ position ∷ [] → Spreads edges starts marks pending → position < length edges
Spreads-pending_within edges starts marks pending rest position popped far =
    let within : position < length marks = slice_get_within marks position true (far.pending_marked position (rw popped (Contains-push rest position))) in
    omega (arith, far.size)

-- the search with nothing pending
pub Spreads-done : (edges : List (Vec ℕ Global)) (starts marks : List Bool) (pending : List ℕ) → length pending ≡ 0 → Spreads edges starts marks pending → (k : ℕ) → IsMarked marks k ↔ IsReached edges starts k
Spreads-done edges starts marks pending empty far = λ k. (
  far.sound k,
  (λ reached. closed_along edges marks (λ a b m edge. elim (far.closed a m) [ inl c ↦ absurd (omega (arith, c.1, empty)) | inr all ↦ all b edge ]) reached.0 reached.2.0 k (far.started reached.0 reached.1) reached.2.1),
)
