use Rattle.std.proofs.Common.{◌≡◌, ◌≢◌, ℕ, ◌+◌, ◌-◌, ◌/◌, ◌%◌, ◌<◌, ◌⊎◌, inl, inr, List, ◌∷◌, length, get_or, ap, sym, ◌∙◌, arith, ⊎_elim}
use Rattle.std.specs.Int.{bit_at}
use Rattle.std.proofs.{lemmas.Bool.cases_eq, lemmas.Grind.get_or_default_zero, Math.ListN.set}
use Rattle.filterset_glob.specs.Words.{Has}
use Rattle.filterset_glob.proofs.PositionSets.{opened, long, length-positions_of, Has-low, Has-high, Has-cases, Has-word, Has-set_same, Has-set_other, Has-from_Holds, Holds-from_Has}
use Rattle.filterset_glob.proofs.positions.Positions.hold.Goals as goal

pub index_mut-word-requires : goal.index_mut-word-requires
index_mut-word-requires c =
    let words : length c.self.inside.later.items ≡ (c.self.inside.count - 1) / 64 = c.self.invariant in
    omega (arith, long _ _ c.args.self.now c.self.view_is)

pub returns-then-position-lt64-clause-length : goal.returns-then-position-lt64-clause-length
returns-then-position-lt64-clause-length c = length-positions_of _ _ ∙ sym (long _ _ c.args.self.now c.self.view_is)

pub returns-then-position-lt64-clause-held : goal.returns-then-position-lt64-clause-held
returns-then-position-lt64-clause-held c i =
    let n = c.self.inside.count in
    let f = c.self.inside.first in
    let ws = c.self.inside.later.items in
    let g = c.insert-self-inside.result in
    let e = c.insert-self-inside.ensures in
    let at = c.args.position in
    let o = opened n (f ∷ ws) c.args.self.now c.self.view_is i in
    let within : at < n = omega (arith, long _ _ c.args.self.now c.self.view_is) in (
      λ h.
          let z = Has-from_Holds n (g ∷ ws) i h in
          ⊎_elim (λ p. ⊎_elim (λ is. inl is) (λ ne. inr (o.1 z.0 (Has-low f ws i p.0 (sym (e.others i ne) ∙ p.1)))) (cases_eq i at)) (λ p. inr (o.1 z.0 (Has-high f ws i p.0 p.1 p.2))) (Has-cases g ws i z.1),
      λ h. ⊎_elim (λ is. Holds-from_Has n (g ∷ ws) i (omega arith) (Has-low g ws i (omega arith) (ap (bit_at g) is ∙ e.set)))
          (λ a.
          let z = o.0 a in
          Holds-from_Has n (g ∷ ws) i z.0 (⊎_elim (λ p. Has-low g ws i p.0 (⊎_elim (λ is. ap (bit_at g) is ∙ e.set) (λ ne. e.others i ne ∙ p.1) (cases_eq i at))) (λ p. Has-high g ws i p.0 p.1 p.2) (Has-cases f ws i z.1))) h,
    )

pub returns-else-position-lt64-clause-length : goal.returns-else-position-lt64-clause-length
returns-else-position-lt64-clause-length c = length-positions_of _ _ ∙ sym (long _ _ c.args.self.now c.self.view_is)

pub returns-else-position-lt64-clause-held : goal.returns-else-position-lt64-clause-held
returns-else-position-lt64-clause-held c i =
    let n = c.self.inside.count in
    let f = c.self.inside.first in
    let ws = c.self.inside.later.items in
    let v = c.insert.result in
    let e = c.insert.ensures in
    let at = c.args.position in
    let k : ℕ = at / 64 - 1 in
    let vs : List ℕ = set ws k v in
    let words : length ws ≡ (n - 1) / 64 = c.self.invariant in
    let o = opened n (f ∷ ws) c.args.self.now c.self.view_is i in
    let within : at < n = omega (arith, long _ _ c.args.self.now c.self.view_is) in
    let inside : k < length ws = omega arith in
    let word : c.index_mut-word.result.now ≡ get_or ws k 0 = c.index_mut-word.ensures.value ∙ get_or_default_zero ws k c.index_mut-word.result.now inside in
    let here = λ (j : ℕ) (is : i ≡ 64 + j). let r : (j / 64 ≡ k) → (j % 64 ≡ at % 64 → ⊥) → i ≢ at = λ a b d. b (omega arith) in r in
    let from = λ (j : ℕ) (is : i ≡ 64 + j) (h : Has vs j).
    let r : (i ≡ at) ⊎ Has ws j = ⊎_elim (λ s. ⊎_elim (λ b. inl (omega arith)) (λ ne. inr ((Has-word ws k j s).1 (ap (λ w. bit_at w (j % 64)) (sym word) ∙ sym (e.others (j % 64) ne) ∙ (Has-set_same ws k v j inside s).0 h))) (cases_eq (j % 64) (at % 64))) (λ ne. inr ((Has-set_other ws k v j ne).0 h)) (cases_eq (j / 64) k) in r in
    let to = λ (j : ℕ) (is : i ≡ 64 + j) (h : (i ≡ at) ⊎ Has ws j).
    let r : Has vs j = ⊎_elim (λ s. (Has-set_same ws k v j inside s).1 (⊎_elim (λ b. ap (bit_at v) b ∙ e.set) (λ ne. e.others (j % 64) ne ∙ ap (λ w. bit_at w (j % 64)) word ∙ ⊎_elim (λ d. absurd (ne (omega arith))) (λ a. (Has-word ws k j s).0 a) h) (cases_eq (j % 64) (at % 64)))) (λ ne. (Has-set_other ws k v j ne).1 (⊎_elim (λ d. absurd (ne (omega arith))) (λ a. a) h)) (cases_eq (j / 64) k) in r in (
      λ h.
          let z = Has-from_Holds n (f ∷ vs) i h in
          ⊎_elim (λ p. inr (o.1 z.0 (Has-low f ws i p.0 p.1))) (λ p. ⊎_elim (λ is. inl is) (λ a. inr (o.1 z.0 (Has-high f ws i p.0 p.1 a))) (from p.0 p.1 p.2)) (Has-cases f vs i z.1),
      λ h. ⊎_elim (λ is. Holds-from_Has n (f ∷ vs) i (omega arith) (Has-high f vs i (i - 64) (omega arith) (to (i - 64) (omega arith) (inl is))))
          (λ a.
          let z = o.0 a in
          Holds-from_Has n (f ∷ vs) i z.0 (⊎_elim (λ p. Has-low f vs i p.0 p.1) (λ p. Has-high f vs i p.0 p.1 (to p.0 p.1 (inr p.2))) (Has-cases f ws i z.1))) h,
    )
