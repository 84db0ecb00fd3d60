-- What sequences match that are appended, pushed or joined.
use Rattle.std.proofs.Common.{◌≡◌, ◌↔◌, ◌∙◌, ◌+◌, ◌++◌, ◌<◌, ◌⊎◌, ⊎_elim, ℕ, zero, suc, List, [], ◌∷◌, ap, arith, get_or, inl, inr, length, refl, subst, sym, take, rules}
use Rattle.std.proofs.lemmas.List.{take_more, append_assoc}
use Rattle.std.specs.{List.Any, declared.alloc.Global.Global, declared.vec.Vec.Vec}
use Rattle.filterset_texts.specs.Cuts.{HoldInTurn, HoldTogether}
use Rattle.filterset_texts.specs.{Parts.Fits, Parts.FitsSome, declared.part.Part.Part}
use Rattle.filterset_texts.proofs.Cuts.{together_then, together_back, in_turn_both, in_turn_assoc, nothing_in_turn}
use Rattle.filterset_texts.specs.declared.part.Part.TheVariants as part

-- appended sequences match texts in two pieces, one for each
pub fits_append : (fronts backs : List Part) → HoldTogether (Fits (fronts ++ backs)) (HoldInTurn (Fits fronts) (Fits backs))
fits_append [] backs = nothing_in_turn (Fits backs)
fits_append (part.One negated ranges ∷ fronts) backs = λ text. (
  λ (h : Fits (part.One negated ranges ∷ (fronts ++ backs)) text).
      let rest = (fits_append fronts backs h.1).0 h.4 in
      (h.0 ∷ rest.0, rest.1, h.2 ∙ ap (λ z. h.0 ∷ z) rest.2, (h.0, rest.0, refl, h.3, rest.3), rest.4),
  λ (h : HoldInTurn (Fits (part.One negated ranges ∷ fronts)) (Fits backs) text).
      let front = h.3 in
      (front.0, front.1 ++ h.1, h.2 ∙ ap (λ z. z ++ h.1) front.2, front.3, (fits_append fronts backs (front.1 ++ h.1)).1 (front.1, h.1, refl, front.4, h.4)),
)
fits_append (part.Any ∷ fronts) backs = λ text. (
  λ (h : Fits (part.Any ∷ (fronts ++ backs)) text).
      let rest = (fits_append fronts backs h.1).0 h.3 in
      (h.0 ++ rest.0, rest.1, h.2 ∙ ap (λ z. h.0 ++ z) rest.2 ∙ sym (append_assoc h.0 rest.0 rest.1), (h.0, rest.0, refl, rest.3), rest.4),
  λ (h : HoldInTurn (Fits (part.Any ∷ fronts)) (Fits backs) text).
      let front = h.3 in
      (front.0, front.1 ++ h.1, h.2 ∙ ap (λ z. z ++ h.1) front.2 ∙ append_assoc front.0 front.1 h.1, (fits_append fronts backs (front.1 ++ h.1)).1 (front.1, h.1, refl, front.3, h.4)),
)

-- a part more, of which a copy is pushed
pub fits_pushed : (start sequence parts : List Part) (i : ℕ) (one copy : Part) → i < length parts → get_or parts i one ≡ one
    → HoldTogether (Fits (copy ∷ [])) (Fits (one ∷ []))
    → HoldTogether (Fits sequence) (HoldInTurn (Fits start) (Fits (take i parts)))
    → HoldTogether (Fits (sequence ++ copy ∷ [])) (HoldInTurn (Fits start) (Fits (take (i + 1) parts)))
fits_pushed start sequence parts i one copy lt at same so_far =
    let S = Fits start in let T = Fits (take i parts) in let O = Fits (one ∷ []) in
    subst (λ (xs : List Part). HoldTogether (Fits (sequence ++ copy ∷ [])) (HoldInTurn S (Fits xs))) (sym (take_more parts i one lt ∙ ap (λ z. take i parts ++ z ∷ []) at))
    (together_then (Fits (sequence ++ copy ∷ [])) (HoldInTurn (Fits sequence) (Fits (copy ∷ []))) (HoldInTurn S (Fits (take i parts ++ one ∷ []))) (fits_append sequence (copy ∷ []))
    (together_then (HoldInTurn (Fits sequence) (Fits (copy ∷ []))) (HoldInTurn (HoldInTurn S T) O) (HoldInTurn S (Fits (take i parts ++ one ∷ []))) (in_turn_both (Fits sequence) (Fits (copy ∷ [])) (HoldInTurn S T) O so_far same)
    (together_then (HoldInTurn (HoldInTurn S T) O) (HoldInTurn S (HoldInTurn T O)) (HoldInTurn S (Fits (take i parts ++ one ∷ []))) (in_turn_assoc S T O)
    (in_turn_both S (HoldInTurn T O) S (Fits (take i parts ++ one ∷ [])) (λ text. (λ s. s, λ s. s)) (together_back (Fits (take i parts ++ one ∷ [])) (HoldInTurn T O) (fits_append (take i parts) (one ∷ [])))))))

-- an empty sequence that copies of two are appended to
pub fits_copied : (first joined fronts backs : List Part) → HoldTogether (Fits first) (HoldInTurn (Fits []) (Fits fronts))
    → HoldTogether (Fits joined) (HoldInTurn (Fits first) (Fits backs)) → HoldTogether (Fits joined) (HoldInTurn (Fits fronts) (Fits backs))
fits_copied first joined fronts backs one other = search (rules, arith, together_then, together_back, nothing_in_turn, in_turn_both)

any_cons_from : {X : Type 0} (P : X → Type 0) (x : X) (xs : List X) (k : ℕ) (y : X) → k < length (x ∷ xs) → get_or (x ∷ xs) k y ≡ y → P y → P x ⊎ Any P xs
any_cons_from P x xs zero y lt at p = inl (subst P (sym at) p)
any_cons_from P x xs (suc k) y lt at p = inr (k, y, omega (arith, lt), at, p)

-- some element of a list that is not empty
pub any_cons : {X : Type 0} (P : X → Type 0) (x : X) (xs : List X) → Any P (x ∷ xs) ↔ (P x ⊎ Any P xs)
any_cons P x xs = (
  λ (h : Any P (x ∷ xs)). any_cons_from P x xs h.0 h.1 h.2 h.3 h.4,
  ⊎_elim (λ p. (0, x, omega arith, refl, p)) (λ (h : Any P xs). (suc h.0, h.1, omega (arith, h.2), h.3, h.4)),
)

pub any_none : {X : Type 0} (P : X → Type 0) → Any P [] → ⊥
any_none P h = omega (arith, h.2)

pub any_append : {X : Type 0} (P : X → Type 0) (xs ys : List X) → Any P (xs ++ ys) ↔ (Any P xs ⊎ Any P ys)
any_append P [] ys = (λ h. inr h, ⊎_elim (λ h. absurd (any_none P h)) (λ h. h))
any_append P (x ∷ xs) ys =
    let all = any_cons P x (xs ++ ys) in
    let rest = any_append P xs ys in
    let own = any_cons P x xs in (
      λ h. ⊎_elim (λ p. inl (own.1 (inl p))) (λ more. ⊎_elim (λ q. inl (own.1 (inr q))) (λ q. inr q) (rest.0 more)) (all.0 h),
      ⊎_elim (λ h. ⊎_elim (λ p. all.1 (inl p)) (λ q. all.1 (inr (rest.1 (inl q)))) (own.0 h)) (λ q. all.1 (inr (rest.1 (inr q)))),
    )

-- one sequence
pub some_of_one : (one : Vec Part Global) (parts : List Part) → one.items ≡ parts → HoldTogether (FitsSome (one ∷ [])) (Fits parts)
some_of_one one parts are text =
    let P = λ (s : Vec Part Global). Fits s.items text in
    let F = λ (xs : List Part). Fits xs text in
    let own = any_cons P one [] in
    (λ h. ⊎_elim (λ f. subst F are f) (λ none. absurd (any_none P none)) (own.0 h), λ f. own.1 (inl (subst F (sym are) f)))

pub some_append : (sequences others : List (Vec Part Global)) → HoldTogether (FitsSome (sequences ++ others)) (λ text. FitsSome sequences text ⊎ FitsSome others text)
some_append sequences others text = any_append (λ (s : Vec Part Global). Fits s.items text) sequences others

-- a sequence more
pub some_pushed : (sequences : List (Vec Part Global)) (one : Vec Part Global) → HoldTogether (FitsSome (sequences ++ one ∷ [])) (λ text. FitsSome sequences text ⊎ Fits one.items text)
some_pushed sequences one text =
    let all = some_append sequences (one ∷ []) text in
    let last = some_of_one one one.items refl text in (
      λ h. ⊎_elim (λ q. inl q) (λ q. inr (last.0 q)) (all.0 h),
      ⊎_elim (λ q. all.1 (inl q)) (λ f. all.1 (inr (last.1 f))),
    )

-- sequences to which those are pushed that begin so
abbrev pub FitsOrBegins : List (Vec Part Global) → (List ℕ → Type 0) → List (Vec Part Global) → List ℕ → Type 0
FitsOrBegins old Front backs text = FitsSome old text ⊎ HoldInTurn Front (FitsSome backs) text

pub begun_none : (old : List (Vec Part Global)) (Front : List ℕ → Type 0) → HoldTogether (FitsSome old) (FitsOrBegins old Front [])
begun_none old Front text = search (rules, arith, any_none)

pub begun_more : (old joined backs : List (Vec Part Global)) (Front : List ℕ → Type 0) (one back : Vec Part Global)
    → HoldTogether (Fits one.items) (HoldInTurn Front (Fits back.items)) → HoldTogether (FitsSome joined) (FitsOrBegins old Front backs)
    → HoldTogether (FitsSome (joined ++ one ∷ [])) (FitsOrBegins old Front (backs ++ back ∷ []))
begun_more old joined backs Front one back new so_far text =
    let pushed = some_pushed joined one text in (
      λ h. ⊎_elim
          (λ q. ⊎_elim (λ o. inl o) (λ (b : HoldInTurn Front (FitsSome backs) text). inr (b.0, b.1, b.2, b.3, (some_pushed backs back b.1).1 (inl b.4))) ((so_far text).0 q))
          (λ f. let b = (new text).0 f in inr (b.0, b.1, b.2, b.3, (some_pushed backs back b.1).1 (inr b.4))) (pushed.0 h),
      ⊎_elim (λ o. pushed.1 (inl ((so_far text).1 (inl o))))
          (λ (b : HoldInTurn Front (FitsSome (backs ++ back ∷ [])) text).
          ⊎_elim (λ q. pushed.1 (inl ((so_far text).1 (inr (b.0, b.1, b.2, b.3, q))))) (λ f. pushed.1 (inr ((new text).1 (b.0, b.1, b.2, b.3, f)))) ((some_pushed backs back b.1).0 b.4)),
    )

-- no fronts
pub in_turn_none : (Back : List ℕ → Type 0) → HoldTogether (FitsSome []) (HoldInTurn (FitsSome []) Back)
in_turn_none Back text = search (rules, arith, any_none)

-- a front more
pub in_turn_more : (joined more fronts backs : List (Vec Part Global)) (front : Vec Part Global)
    → HoldTogether (FitsSome more) (FitsOrBegins joined (Fits front.items) backs) → HoldTogether (FitsSome joined) (HoldInTurn (FitsSome fronts) (FitsSome backs))
    → HoldTogether (FitsSome more) (HoldInTurn (FitsSome (fronts ++ front ∷ [])) (FitsSome backs))
in_turn_more joined more fronts backs front new so_far text = (
  λ h. ⊎_elim
      (λ q. let b = (so_far text).0 q in (b.0, b.1, b.2, (some_pushed fronts front b.0).1 (inl b.3), b.4))
      (λ (b : HoldInTurn (Fits front.items) (FitsSome backs) text). (b.0, b.1, b.2, (some_pushed fronts front b.0).1 (inr b.3), b.4)) ((new text).0 h),
  λ (b : HoldInTurn (FitsSome (fronts ++ front ∷ [])) (FitsSome backs) text).
      ⊎_elim (λ q. (new text).1 (inl ((so_far text).1 (b.0, b.1, b.2, q, b.4)))) (λ f. (new text).1 (inr (b.0, b.1, b.2, f, b.4))) ((some_pushed fronts front b.0).0 b.3),
)
