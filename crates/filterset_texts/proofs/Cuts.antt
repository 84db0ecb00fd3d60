-- Facts that hold together, and of the pieces of a text.
use Rattle.std.proofs.Common.{◌≡◌, ◌∙◌, ◌++◌, ℕ, List, [], ap, refl, subst, sym, append_assoc, arith, rules}
use Rattle.std.proofs.lemmas.List.{append-nil}
use Rattle.filterset_texts.specs.Cuts.{HoldInTurn, HoldTogether}

pub together_then : (A B C : List ℕ → Type 0) → HoldTogether A B → HoldTogether B C → HoldTogether A C
together_then A B C ab bc text = (λ a. (bc text).0 ((ab text).0 a), λ c. (ab text).1 ((bc text).1 c))

pub together_back : (A B : List ℕ → Type 0) → HoldTogether A B → HoldTogether B A
together_back A B ab text = ((ab text).1, (ab text).0)

pub in_turn_both : (A B C D : List ℕ → Type 0) → HoldTogether A C → HoldTogether B D → HoldTogether (HoldInTurn A B) (HoldInTurn C D)
in_turn_both A B C D ac bd text = search (rules, arith)

pub in_turn_assoc : (A B C : List ℕ → Type 0) → HoldTogether (HoldInTurn (HoldInTurn A B) C) (HoldInTurn A (HoldInTurn B C))
in_turn_assoc A B C text = (
  λ (h : HoldInTurn (HoldInTurn A B) C text).
      let front = h.3 in
      (front.0, front.1 ++ h.1, h.2 ∙ ap (λ z. z ++ h.1) front.2 ∙ append_assoc front.0 front.1 h.1, front.3, (front.1, h.1, refl, front.4, h.4)),
  λ (h : HoldInTurn A (HoldInTurn B C) text).
      let back = h.4 in
      (h.0 ++ back.0, back.1, h.2 ∙ ap (λ z. h.0 ++ z) back.2 ∙ sym (append_assoc h.0 back.0 back.1), (h.0, back.0, refl, h.3, back.3), back.4),
)

pub in_turn_nothing : (A : List ℕ → Type 0) → HoldTogether A (HoldInTurn A (λ text. text ≡ []))
in_turn_nothing A text = search (rules, arith, append-nil)

pub nothing_in_turn : (A : List ℕ → Type 0) → HoldTogether A (HoldInTurn (λ text. text ≡ []) A)
nothing_in_turn A text = search (rules, arith)
