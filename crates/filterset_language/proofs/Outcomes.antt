-- One step after another, of a reader whose patterns may be refused.
use Rattle.std.proofs.Common.{◌≡◌, ℕ, zero, suc, ◌+◌, ◌<◌, ◌≤◌, List, ◌++◌, length, false, true, Option, Some, None, refl, sym, ap, ◌∙◌, subst, arith, ⊎_elim, length-append, append_assoc}
use Rattle.std.specs.{List.Contains, Option.option_map}
use Rattle.std.proofs.lemmas.{Bool.cases_lt, List.Elements.All-append, List.Elements.Contains-append_left, List.Elements.Contains-append_right}
use Rattle.filterset_faults.specs.declared.{error.ParseSingleError.ParseSingleError, span.SourceSpan.SourceSpan}
use Rattle.filterset_language.specs.{Parsing.Position.Position, Parsing.Position.skip, Parsed.LiesOnBody}
use Rattle.filterset_language.specs.Parsing.Descent.{Placed, ◌>>=◌, Reader, Next, Make, more, level_by}
use Rattle.filterset_language.specs.Parsing.Recovery.{Recovers, Checked, beside, joined}
use Rattle.filterset_language.specs.Parsing.Outcome.{Faults, Carried, comes, refused, Gives, GivesTree, reads, fails, Going, goes, failed}
use Rattle.filterset_language.proofs.{Recovering.bind_some, Recovering.bind_none, ReadingSteps.more_ends}
use Rattle.filterset_grammar.specs.{Patterns.PatternsAreRead, Tree.Leaf, Tree.Tree, Tree.tree_leaves}

abbrev Judgement : Type 0 → Type 1
Judgement Y = Y → ParseSingleError → Type 0

-- ---- what is carried

pub carried_grows : {Y : Type 0} (Good : Y → Type 0) (On : Judgement Y) (f g : Faults) (v : Option Y) (y : Y) → Carried Good On f g v y → length f ≤ length g
carried_grows Good On f g v y (comes same is good) = let size : length g ≡ length f = ap length same in omega arith
carried_grows Good On f g v y (refused added same some each none) = let size : length g ≡ length f + length added = ap length same ∙ length-append f added in omega arith

pub gives_grows : {Y : Type 0} (Good : Y → Type 0) (On : Judgement Y) (f g : Faults) (v : Option Y) (q : Position) (r : Option (Y × Position)) → Gives Good On f g v q r → length f ≤ length g
gives_grows Good On f g v q r (reads y c is) = carried_grows Good On f g v y c
gives_grows Good On f g v q r (fails lt none) = omega arith

-- a value, changed
pub carried_map : {Y Z : Type 0} (Good : Y → Type 0) (On : Judgement Y) (GoodTo : Z → Type 0) (OnTo : Judgement Z) (change : Y → Z)
    → ((y : Y) → Good y → GoodTo (change y)) → ((y : Y) (x : ParseSingleError) → On y x → OnTo (change y) x)
    → (f g : Faults) (v : Option Y) (y : Y) → Carried Good On f g v y → Carried GoodTo OnTo f g (option_map change v) (change y)
carried_map Good On GoodTo OnTo change good on f g v y (comes same is fine) = comes same (ap (option_map change) is) (good y fine)
carried_map Good On GoodTo OnTo change good on f g v y (refused added same some each none) =
    refused added same some (λ k d lt. on y _ (each k d lt)) (ap (option_map change) none)

-- ---- what a reader gives

module _ {Y : Type 0} (Good : Y → Type 0) (On : Judgement Y) where
  -- a reader that never refuses a pattern
  pub gives_of : (f g : Faults) (v : Option Y) (q : Position) (r : Option (Y × Position)) → Recovers f g (beside q v) r → ((y : Y) → r ≡ Some (y, q) → Good y) → Gives Good On f g v q r
  gives_of f g None q r a good =
      ⊎_elim
      (λ lt. fails lt (a.fault lt))
      (λ le. let e = a.clean (omega (arith, a.grows)) in absurd (let nothing : false ≡ true = e.2 in cc))
      (cases_lt (length f) (length g))
  gives_of f g (Some y) q r a good =
      ⊎_elim
      (λ lt. fails lt (a.fault lt))
      (λ le. let e = a.clean (omega (arith, a.grows)) in reads y (comes e.0 refl (good y e.1)) e.1)
      (cases_lt (length f) (length g))

  -- another reading that is the same
  pub gives_as : (f g : Faults) (v w : Option Y) (q : Position) (r s : Option (Y × Position)) → Gives Good On f g v q r → w ≡ v → s ≡ r → Gives Good On f g w q s
  gives_as f g v w q r s a e d = rw (e, d) a

  -- after a step that gave x, or reported a fault and went on at x
  pub gives_then : {X : Type 0} (f g h : Faults) (x : X) (v : Option Y) (q : Position) (r : Option X) (k : X → Option (Y × Position)) → Recovers f g (Some x) r → Gives Good On g h v q (k x) → Gives Good On f h v q (r >>= k)
  gives_then f g h x v q r k a b =
      ⊎_elim
      (λ lt. fails (omega (arith, gives_grows Good On g h v q (k x) b)) (bind_none r k (a.fault lt)))
      (λ le.
      let e = a.clean (omega (arith, a.grows)) in
      gives_as f h v v q (k x) (r >>= k) (subst (λ (z : Faults). Gives Good On z h v q (k x)) e.0 b) refl (bind_some r x k e.1))
      (cases_lt (length f) (length g))

module _ {Y Z : Type 0} (Good : Y → Type 0) (On : Judgement Y) (GoodTo : Z → Type 0) (OnTo : Judgement Z) where
  -- a value, changed
  pub gives_map : (change : Y → Z) → ((y : Y) → Good y → GoodTo (change y)) → ((y : Y) (x : ParseSingleError) → On y x → OnTo (change y) x)
      → (f g : Faults) (v : Option Y) (q : Position) (r : Option (Y × Position)) → Gives Good On f g v q r → Gives GoodTo OnTo f g (option_map change v) q (r >>= λ x. Some (change x.0, x.1))
  gives_map change good on f g v q r (fails lt none) = fails lt (bind_none r _ none)
  gives_map change good on f g v q r (reads y c is) = reads (change y) (carried_map Good On GoodTo OnTo change good on f g v y c) (bind_some r (y, q) _ is)

  -- a value, and a step after it
  pub gives_pair : (make : Y → Position → Z) (q : Position) → ((y : Y) → Good y → GoodTo (make y q)) → ((y : Y) (x : ParseSingleError) → On y x → OnTo (make y q) x)
      → (f g h : Faults) (v : Option Y) (p : Position) (r : Option (Y × Position)) (s : Position → Option Position) → Gives Good On f g v q r → Recovers g h (Some p) (s q)
      → Gives GoodTo OnTo f h (option_map (λ a. make a q) v) p (r >>= λ x. s x.1 >>= λ u. Some (make x.0 x.1, u))
  gives_pair make q good on f g h v p r s (fails lt none) b = fails (omega (arith, b.grows)) (bind_none r _ none)
  gives_pair make q good on f g h v p r s (reads y c is) b =
      ⊎_elim
      (λ lt. fails (omega (arith, carried_grows Good On f g v y c)) (bind_some r (y, q) _ is ∙ bind_none (s q) _ (b.fault lt)))
      (λ le.
      let e = b.clean (omega (arith, b.grows)) in
      let kept = carried_map Good On GoodTo OnTo (λ a. make a q) good on f g v y c in
      reads (make y q) (subst (λ (z : Faults). Carried GoodTo OnTo f z (option_map (λ a. make a q) v) (make y q)) (sym e.0) kept) (bind_some r (y, q) _ is ∙ bind_some (s q) p _ e.1))
      (cases_lt (length g) (length h))

-- ---- bodies of a tree

-- a body of a part of the tree is one of the tree
pub lies_in : (text : List ℕ) (d e : Tree SourceSpan) (x : ParseSingleError) → ((l : Leaf SourceSpan) → Contains (tree_leaves d) l → Contains (tree_leaves e) l) → LiesOnBody text d x → LiesOnBody text e x
lies_in text d e x part lies = record {
  at = lies.at;
  is = lies.is;
  predicate = lies.predicate;
  pattern = lies.pattern;
  argument = lies.argument;
  is_leaf = part _ lies.is_leaf;
  rejected = lies.rejected;
  body = lies.body;
  end = lies.end;
}

-- ---- the loop over the operators of a level

-- a turn of the loop: the operator, where one stands there
pub more_by : {O : Type 0} (next : Next O) (make : Make O) (read : Reader) (m : ℕ) (e : Placed) (p s q : Position) (op : Option O) → 0 < length p.rest → length p.rest ≤ m → s ≡ skip p → Some (op, q) ≡ next s
    → (k : ℕ) × (m ≡ suc k) × (more next make read m e p ≡ (op >>= λ o. read q >>= λ y. more next make read k (make o e y.0) y.1))
more_by next make read zero e p s q op some le skipped stands = absurd (omega arith)
more_by next make read (suc m) e p s q op some le skipped stands = (m, refl, rw (← skipped, ← stands) refl)

module _ {O : Type 0} (next : Next O) (make : Make O) (read : Reader) (text : List ℕ)
    (good : (o : O) (l r : Placed) → PatternsAreRead l → PatternsAreRead r → PatternsAreRead (make o l r))
    (leaves : (o : O) (l r : Placed) → tree_leaves (make o l r) ≡ tree_leaves l ++ tree_leaves r) where
  -- the two sides of an operator hold their bodies
  on_left : (o : O) (l r : Placed) (x : ParseSingleError) → LiesOnBody text l x → LiesOnBody text (make o l r) x
  on_left o l r x lies = lies_in text l (make o l r) x (λ leaf is. rw (leaves o l r) (Contains-append_left (tree_leaves l) (tree_leaves r) leaf is)) lies

  on_right : (o : O) (l r : Placed) (x : ParseSingleError) → LiesOnBody text r x → LiesOnBody text (make o l r) x
  on_right o l r x lies = lies_in text r (make o l r) x (λ leaf is. rw (leaves o l r) (Contains-append_right (tree_leaves l) (tree_leaves r) leaf is)) lies

  -- two operands, and what is made of them
  carried_both : (o : O) (f g h : Faults) (v w : Option Placed) (x y : Placed) → Carried PatternsAreRead (LiesOnBody text) f g v x → Carried PatternsAreRead (LiesOnBody text) g h w y
      → Carried PatternsAreRead (LiesOnBody text) f h (v >>= λ a. w >>= λ b. Some (make o a b)) (make o x y)
  carried_both o f g h v w x y (comes s i fine) (comes t j also) = comes (t ∙ s) (rw (i, j) refl) (good o x y fine also)
  carried_both o f g h v w x y (comes s i fine) (refused added t some each none) =
      refused added (t ∙ ap (λ (z : Faults). z ++ added) s) some (λ k d lt. on_right o x y _ (each k d lt)) (rw (i, none) refl)
  carried_both o f g h v w x y (refused added s some each none) (comes t j also) =
      refused added (t ∙ s) some (λ k d lt. on_left o x y _ (each k d lt)) (rw none refl)
  carried_both o f g h v w x y (refused a s some each none) (refused b t also all nothing) =
      let size : length (a ++ b) ≡ length a + length b = length-append a b in
      refused (a ++ b) (t ∙ ap (λ (z : Faults). z ++ b) s ∙ append_assoc f a b) (omega arith)
      (All-append (LiesOnBody text (make o x y)) a b (λ k d lt. on_left o x y _ (each k d lt)) (λ k d lt. on_right o x y _ (all k d lt))) (rw none refl)

  pub going_start : (f g : Faults) (left : Option Placed) (p q : Position) → GivesTree text f g left q (read p) → Going next make text f g left q read (level_by next make read p)
  going_start f g left p q (reads e c is) = goes e c (length q.rest) (omega arith) (sym (bind_some (read p) (e, q) _ is))
  going_start f g left p q (fails lt none) = failed lt (bind_none (read p) _ none)

  going_on : (f g h : Faults) (left right : Option Placed) (op : O) (p s q r : Position) (total : Option (Placed × Position)) → length r.rest < length p.rest → s ≡ skip p → Some (Some op, q) ≡ next s
      → Going next make text f g left p read total → GivesTree text g h right r (read q) → Going next make text f h (joined make (Some op) left right) r read total
  going_on f g h left right op p s q r total lt skipped stands (failed more none) b = failed (omega (arith, gives_grows PatternsAreRead (LiesOnBody text) g h right r (read q) b)) none
  going_on f g h left right op p s q r total lt skipped stands (goes e c m le is) (fails more none) =
      let n = more_by next make read m e p s q (Some op) (omega arith) le skipped stands in
      failed (omega (arith, carried_grows PatternsAreRead (LiesOnBody text) f g left e c)) (sym is ∙ n.2 ∙ bind_none (read q) _ none)
  going_on f g h left right op p s q r total lt skipped stands (goes e c m le is) (reads y d at) =
      let n = more_by next make read m e p s q (Some op) (omega arith) le skipped stands in
      let long : length r.rest ≤ n.0 = omega (arith, n.1) in
      goes (make op e y) (carried_both op f g h left right e y c d) n.0 long (sym (bind_some (read q) (y, r) _ at) ∙ sym n.2 ∙ is)

  going_wrong : (f g i : Faults) (left : Option Placed) (p s q r : Position) (total : Option (Placed × Position)) → 0 < length p.rest → s ≡ skip p → Some (None, q) ≡ next s
      → Going next make text f g left p read total → length g < length i → Going next make text f i None r read total
  going_wrong f g i left p s q r total some skipped stands (failed more none) lt = failed (omega arith) none
  going_wrong f g i left p s q r total some skipped stands (goes e c m le is) lt =
      let n = more_by next make read m e p s q None some le skipped stands in failed (omega (arith, carried_grows PatternsAreRead (LiesOnBody text) f g left e c)) (sym is ∙ n.2)

  pub going_by : (f g h i : Faults) (left right : Option Placed) (op : Option O) (p s q r : Position) (total : Option (Placed × Position)) → length r.rest < length p.rest → s ≡ skip p → Some (op, q) ≡ next s
      → Going next make text f g left p read total → Checked op g h → GivesTree text h i right r (read q) → Going next make text f i (joined make op left right) r read total
  going_by f g h i left right (Some op) p s q r total lt skipped stands a checked b =
      going_on f g i left right op p s q r total lt skipped stands a (subst (λ (x : Faults). GivesTree text x i right r (read q)) checked b)
  going_by f g h i left right None p s q r total lt skipped stands a checked b =
      going_wrong f g i left p s q r total (omega arith) skipped stands a (omega (arith, checked, gives_grows PatternsAreRead (LiesOnBody text) h i right r (read q) b))

  pub going_end : (f g : Faults) (left : Option Placed) (p s : Position) (total : Option (Placed × Position)) → s ≡ skip p → None ≡ next s → Going next make text f g left p read total → GivesTree text f g left p total
  going_end f g left p s total skipped none (failed more is) = fails more is
  going_end f g left p s total skipped none (goes e c m le is) = reads e c (sym is ∙ more_ends next make read m e p (sym (none ∙ ap next skipped)))
