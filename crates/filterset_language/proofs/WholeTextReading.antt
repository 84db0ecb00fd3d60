-- The end of a text that was read whole.
use Rattle.std.proofs.Common.{◌≡◌, ◌≢◌, ℕ, suc, ◌+◌, ◌<◌, true, false, List, [], ◌∷◌, ◌++◌, length, Option, Some, None, ◌⊎◌, inl, inr, refl, sym, ap, ◌∙◌, subst, arith, length-append}
use Rattle.std.proofs.lemmas.{Bool.ne_eqb, List.append-nil}
use Rattle.std.proofs.lemmas.List.Elements.{All-append, All-nil, All-cons, All-head, All-tail}
use Rattle.std.specs.{Option.option_map, Prelude.All, Prelude.◌==◌}
use Rattle.filterset_grammar.specs.Text.{Blanks}
use Rattle.filterset_language.specs.Parsing.Position.{Position, position, position_of, skip, skip_from}
use Rattle.filterset_language.specs.{Faults.FaultStands, Parsed.LiesOnBody}
use Rattle.filterset_language.specs.Parsing.Descent.{Placed, operand_at, or_level_by, whole_by}
use Rattle.filterset_language.specs.Parsing.Recovery.{Found, AllFound}
use Rattle.filterset_language.specs.Parsing.Outcome.{Faults, GivesTree, comes, refused, reads, fails}
use Rattle.filterset_language.specs.Parsing.Whole.{Wholly, WhollyRead, WhollyRefused, ReadUpTo}
use Rattle.filterset_language.specs.declared.parsing.input.Input.{Input}
use Rattle.filterset_language.proofs.Positions.{skip_again}
use Rattle.filterset_language.proofs.RawTextFaults.{size, begins_here, rest_ends}
use Rattle.filterset_language.proofs.StepsTakeText.{is_some}
use Rattle.filterset_faults.specs.Span.{span, offset_of}
use Rattle.filterset_faults.specs.declared.{span.SourceSpan.SourceSpan, error.ParseSingleError.ParseSingleError}
use Rattle.filterset_faults.specs.declared.error.ParseSingleError.TheVariants.{ExpectedEndOfExpression}

end_found : (i : Input) (s : Position) → s ≡ skip (position_of i) → s.rest ≢ [] → FaultStands i.text.now (ExpectedEndOfExpression (span i.offset (length i.rest.now)))
end_found i s skipped some = record {
  within = let e = size i in omega arith;
  begins = begins_here i;
  ends = rest_ends i;
  there = (
    size i,
    λ are.
        let blanks : Blanks i.rest.now = subst Blanks i.seam.onward are in
        let none : skip_from i.offset (i.rest.now ++ []) ≡ position (i.offset + length i.rest.now) [] = skip_again blanks i.offset [] refl in
        let at : skip (position_of i) ≡ position (i.offset + length i.rest.now) [] = ap (skip_from i.offset) (sym (append-nil i.rest.now)) ∙ none in
        some (ap (λ (p : Position). p.rest) (skipped ∙ at)),
  );
}

found_stand : (text : List ℕ) (f : Faults) → All (Found text) f → All (FaultStands text) f
found_stand text f each = λ k d lt. (each k d lt).stands

-- ---- the fault that the expression ends before the text

-- it is no fault of a part of the text
not_found : (text : List ℕ) (s : SourceSpan) → Found text (ExpectedEndOfExpression s) → ⊥
not_found text s found = let no_end : true ≡ false = found.inside in cc

tail_same : (x y : ParseSingleError) (f g : Faults) → x ∷ f ≡ y ∷ g → f ≡ g
tail_same x y f g e = cc

head_same : (x y : ParseSingleError) (f g : Faults) → x ∷ f ≡ y ∷ g → x ≡ y
head_same x y f g e = cc

-- among the faults of parts of the text it does not stand
never_among : (text : List ℕ) (s : SourceSpan) (f before behind : Faults) → All (Found text) f → f ≡ before ++ ExpectedEndOfExpression s ∷ behind → ⊥
never_among text s [] [] behind each e = absurd cc
never_among text s [] (b ∷ before) behind each e = absurd cc
never_among text s (x ∷ f) [] behind each e =
    not_found text s (subst (Found text) (head_same x (ExpectedEndOfExpression s) f behind e) (All-head (Found text) x f each))
never_among text s (x ∷ f) (b ∷ before) behind each e =
    never_among text s f before behind (All-tail (Found text) x f each) (tail_same x b f (before ++ ExpectedEndOfExpression s ∷ behind) e)

-- after them it stands once, and last
stands_last : (text : List ℕ) (s : SourceSpan) (one : ParseSingleError) (f before behind : Faults) → All (Found text) f → f ++ (one ∷ []) ≡ before ++ ExpectedEndOfExpression s ∷ behind → behind ≡ []
stands_last text s one [] [] behind each e = sym (tail_same one (ExpectedEndOfExpression s) [] behind e)
stands_last text s one [] (b ∷ before) behind each e =
    let n : 1 ≡ suc (length (before ++ ExpectedEndOfExpression s ∷ behind)) = ap length e in
    absurd (omega (arith, length-append before (ExpectedEndOfExpression s ∷ behind)))
stands_last text s one (x ∷ f) [] behind each e =
    absurd (not_found text s (subst (Found text) (head_same x (ExpectedEndOfExpression s) (f ++ (one ∷ [])) behind e) (All-head (Found text) x f each)))
stands_last text s one (x ∷ f) (b ∷ before) behind each e =
    stands_last text s one f before behind (All-tail (Found text) x f each) (tail_same x b (f ++ (one ∷ [])) (before ++ ExpectedEndOfExpression s ∷ behind) e)

-- ---- the whole text

nothing_else : (f added : Faults) → f ≡ added → 0 < length added → f ≢ []
nothing_else f added same some none = let n : length added ≡ 0 = ap length (sym same ∙ none) in omega arith

module _ (text : List ℕ) (tree : Option Placed) (i : Input) (s : Position) (f : Faults) (same : i.text.now ≡ text) (skipped : s ≡ skip (position_of i)) (found : AllFound text f) where
  read_whole : s.rest ≡ [] → (e : Placed) → or_level_by (operand_at (suc (length text))) (position 0 text) ≡ Some (e, position_of i) → whole_by (length text) text ≡ Some e
  read_whole none e at = let end : skip (position_of i) ≡ s = sym skipped in rw (at, end, none) refl

  -- nothing stands after the expression
  pub whole_read : s.rest ≡ [] → GivesTree text [] f tree (position_of i) (or_level_by (operand_at (suc (length text))) (position 0 text)) → Wholly text tree f
  whole_read none read = record {
    stand = found_stand text f found.each;
    clean = λ empty. clean empty read;
    fault = λ some. fault some read;
    front = λ end is. absurd (never_among text end f [] [] found.each is);
    last = λ end before behind is. absurd (never_among text end f before behind found.each is);
  }
    where
      clean : f ≡ [] → GivesTree text [] f tree (position_of i) (or_level_by (operand_at (suc (length text))) (position 0 text)) → WhollyRead text tree
      clean empty (reads e (comes is value good) at) = record { expr = e; is = value; read = read_whole none e at; patterns = good }
      clean empty (reads e (refused added is some each nothing) at) = absurd (nothing_else f added is some empty)
      clean empty (fails lt nothing) = let n : length f ≡ 0 = ap length empty in absurd (omega arith)

      fault : f ≢ [] → GivesTree text [] f tree (position_of i) (or_level_by (operand_at (suc (length text))) (position 0 text)) → (whole_by (length text) text ≡ None) ⊎ WhollyRefused text tree f
      fault some (reads e (comes is value good) at) = absurd (some is)
      fault some (reads e (refused added is more each nothing) at) =
          inr (record { expr = e; no_tree = nothing; read = read_whole none e at; bodies = subst (All (LiesOnBody text e)) (sym is) each })
      fault some (fails lt nothing) = inl (rw nothing refl)

  -- something does, which is reported
  pub whole_unread : s.rest ≢ [] → (g : Faults) → g ≡ f ++ (ExpectedEndOfExpression (span i.offset (length i.rest.now)) ∷ [])
      → GivesTree text [] f tree (position_of i) (or_level_by (operand_at (suc (length text))) (position 0 text)) → Wholly text tree g
  whole_unread some g is read = record {
    stand = rw is (All-append (FaultStands text) f _ (found_stand text f found.each) (All-cons (FaultStands text) _ [] (subst (λ (t : List ℕ). FaultStands t one) same (end_found i s skipped some)) (All-nil (FaultStands text))));
    clean = λ empty. let n : length g ≡ 0 = ap length empty in let m : length g ≡ length f + 1 = ap length is ∙ length-append f _ in absurd (omega arith);
    fault = λ more. inl (unread read);
    front = λ end only. front end f (sym is ∙ only) read;
    last = λ end before behind at. stands_last text end one f before behind found.each (sym is ∙ at);
  }
    where
      one : ParseSingleError
      one = ExpectedEndOfExpression (span i.offset (length i.rest.now))

      more_length : (t : List ℕ) → t ≢ [] → (length t == 0) ≡ false
      more_length [] h = absurd (h refl)
      more_length (b ∷ t) h = ne_eqb (length (b ∷ t)) 0 (λ e. absurd (omega arith))

      unread : GivesTree text [] f tree (position_of i) (or_level_by (operand_at (suc (length text))) (position 0 text)) → whole_by (length text) text ≡ None
      unread (reads e carried at) = let end : skip (position_of i) ≡ s = sym skipped in let n = more_length s.rest some in rw (at, end, n) refl
      unread (fails lt nothing) = rw nothing refl

      same_span : (a b : SourceSpan) → ExpectedEndOfExpression a ≡ ExpectedEndOfExpression b → a ≡ b
      same_span a b e = cc

      front : (end : SourceSpan) (f : Faults) → f ++ (one ∷ []) ≡ ExpectedEndOfExpression end ∷ [] → GivesTree text [] f tree (position_of i) (or_level_by (operand_at (suc (length text))) (position 0 text)) → ReadUpTo text tree (offset_of end)
      front end [] e (reads d (comes is value good) at) =
          let offset : i.offset ≡ offset_of end = ap offset_of (same_span _ _ (head_same one (ExpectedEndOfExpression end) [] [] e)) in
          record { expr = d; is = value; rest = i.rest.now; read = at ∙ ap (λ (k : ℕ). Some (d, position k i.rest.now)) offset }
      front end [] e (reads d (refused added is more each nothing) at) = absurd (nothing_else [] added is more refl)
      front end [] e (fails lt nothing) = absurd (omega arith)
      front end (x ∷ f) e read =
          let n : length ((x ∷ f) ++ (one ∷ [])) ≡ 1 = ap length e in
          absurd (omega (arith, length-append (x ∷ f) (one ∷ [])))

-- what a text gives that spells a tree
pub spelled_whole : (text : List ℕ) (tree : Option Placed) (f : Faults) (e : Placed) → Wholly text tree f → whole_by (length text) text ≡ Some e
    → ((tree ≡ Some e) × (f ≡ [])) ⊎ ((tree ≡ None) × (f ≢ []) × All (LiesOnBody text e) f)
spelled_whole text tree [] e w read =
    let clean = w.clean refl in
    let same : clean.expr ≡ e = is_some clean.expr e (sym clean.read ∙ read) in
    inl (clean.is ∙ ap Some same, refl)
spelled_whole text tree (x ∷ f) e w read = from (w.fault some)
  where
    some : x ∷ f ≢ []
    some h = let n : length (x ∷ f) ≡ 0 = ap length h in omega arith

    from : (whole_by (length text) text ≡ None) ⊎ WhollyRefused text tree (x ∷ f) → ((tree ≡ Some e) × (x ∷ f ≡ [])) ⊎ ((tree ≡ None) × (x ∷ f ≢ []) × All (LiesOnBody text e) (x ∷ f))
    from (inl none) = let nothing : None ≡ Some e = sym none ∙ read in absurd cc
    from (inr r) =
        let same : r.expr ≡ e = is_some r.expr e (sym r.read ∙ read) in inr (r.no_tree, some, subst (λ (d : Placed). All (LiesOnBody text d) (x ∷ f)) same r.bodies)

pub first_gives : (t text : List ℕ) (e f : Faults) (v : Option Placed) (q : Position) (r s : Option (Placed × Position)) → t ≡ text → e ≡ [] → r ≡ s → GivesTree t e f v q r → GivesTree text [] f v q s
first_gives t text e f v q r s same none is h =
    subst (λ (o : Option (Placed × Position)). GivesTree text [] f v q o) is (subst (λ (x : Faults). GivesTree text x f v q r) none (subst (λ (x : List ℕ). GivesTree x e f v q r) same h))

pub first_found : (t text : List ℕ) (e f : Faults) → t ≡ text → e ≡ [] → (AllFound t e → AllFound t f) → AllFound text f
first_found t text e f same none keeps =
    let nothing : AllFound t e = record { each = subst (All (Found t)) (sym none) (All-nil (Found t)) } in
    subst (λ (x : List ℕ). AllFound x f) same (keeps nothing)

-- no tree comes where its view does not
pub none_seen : {A B : Type 0} (view : A → B) (o : Option A) → option_map view o ≡ None → o ≡ None
none_seen view None e = refl
none_seen view (Some x) e = absurd cc
