use Rattle.std.proofs.Common.{◌≡◌, ℕ, ◌+◌, ◌-◌, ◌<◌, ◌≤◌, ◌⊎◌, inl, inr, Bool, true, length, get_or, ap, sym, subst, ◌∙◌, arith, ⊎_elim, refl}
use Rattle.std.proofs.lemmas.{Bool.cases_lt, Bool.cases_eq, List.get_or_past}
use Rattle.filterset_glob.specs.{Positions.Holds, Matching.slash}
use Rattle.filterset_glob.proofs.Passing.{moves_behind_slashes}
use Rattle.filterset_glob.proofs.positions.Positions.add_behind_slashes.Goals.{then-reached, else-reached, then-reached-2+then-number, else-reached-2, else-reached-2-via-then-reached-2+else-number, else-reached-2-via-else-reached-2}
use Rattle.filterset_glob.proofs.positions.Positions.add_behind_slashes.Goals as goal

pub loop-position-preserved : goal.loop-position-preserved
loop-position-preserved c =
    let i = c.loop-position.invariant in
    let old = c.args.self.now in
    let self = c.loop-position.self in
    let new = c.if-reached-2.self in
    let at = c.loop-position.position in
    let now : Bool = c.if-reached.reached in
    let text = c.args.text.now in
    let from = λ (k : ℕ) (h : Holds self k).
    let r : (x : ℕ) × (x ≤ k) × Holds old x = ⊎_elim (λ none. (0, omega arith, i.first (subst (Holds self) none h)))
    (λ some.
    let back : k ≡ (k - 1) + 1 = omega arith in
    ⊎_elim (λ h. (k, omega arith, subst (Holds old) (sym back) h)) (λ p. (p.1, omega (arith, p.2), p.3)) (i.only (k - 1) (subst (Holds self) back h))) (cases_eq k 0) in r in
    let came : now ≡ true → (x : ℕ) × (x < at + 1) × Holds old x = elim c.if-reached.branch [
      | then-reached w ↦ λ r. (let p = i.came w.if-reached.true in (p.0, omega (arith, p.1), p.2))
      | else-reached w ↦ λ r. (let p = from at (w.holds-reached.ensures.0 (sym w.reached-is ∙ r)) in (p.0, omega (arith, p.1), p.2))
    ] in
    let comes : (x : ℕ) → x < at + 1 → Holds old x → now ≡ true = elim c.if-reached.branch [
      | then-reached w ↦ λ x lt h. w.reached-is ∙ w.if-reached.true
      | else-reached w ↦ λ x lt h. ⊎_elim (λ is. w.reached-is ∙ w.holds-reached.ensures.1 (subst (Holds self) is (i.kept x h))) (λ ne. absurd (let yes = i.comes x (omega arith) h in let no = w.if-reached.false in cc)) (cases_eq x at)
    ] in
    let long : length new ≡ length self = elim c.if-reached-2.branch [ then-reached-2+then-number w ↦ ap length w.self-is ∙ w.hold.ensures.length | else-reached-2 w ↦ ap length w.self-is ] in
    let kept : (k : ℕ) → Holds self k → Holds new k = elim c.if-reached-2.branch [
      | then-reached-2+then-number w ↦ λ k h. subst (λ p. Holds p k) (sym w.self-is) ((w.hold.ensures.held k).1 (inr h))
      | else-reached-2 w ↦ λ k h. subst (λ p. Holds p k) (sym w.self-is) h
    ] in
    let only : (k : ℕ) → Holds new k → Holds self k ⊎ ((k ≡ at + 1) × (get_or text at 0 ≡ slash) × (now ≡ true)) = elim c.if-reached-2.branch [
      | then-reached-2+then-number w ↦ λ k h. ⊎_elim (λ is. inr (is, sym w.number.ensures ∙ w.if-number.true, w.if-reached-2.true)) (λ h. inl h) ((w.hold.ensures.held k).0 (subst (λ p. Holds p k) w.self-is h))
      | else-reached-2 w ↦ λ k h. inl (subst (λ p. Holds p k) w.self-is h)
    ] in
    let matches : get_or text at 0 ≡ slash → now ≡ true → Holds new (at + 1) = elim c.if-reached-2.branch [
      | then-reached-2+then-number w ↦ λ is r. subst (λ p. Holds p (at + 1)) (sym w.self-is) ((w.hold.ensures.held (at + 1)).1 (inl refl))
      | else-reached-2 w ↦ λ is r. absurd (elim w.else-reached-2.branch [
        | else-reached-2-via-then-reached-2+else-number v ↦ absurd (v.if-number.false (v.number.ensures ∙ is))
        | else-reached-2-via-else-reached-2 v ↦ let no = v.if-reached-2.false in cc
      ])
    ] in
    record {
      long = long ∙ i.long;
      kept = λ k h. kept k (i.kept k h);
      added = λ k j le lt h is. ⊎_elim (λ l. kept (j + 1) (i.added k j le l h is))
          (λ ge. let here : j ≡ at = omega arith in
          subst (λ m. Holds new (m + 1)) (sym here) (matches (ap (λ m. get_or text m 0) (sym here) ∙ is) (comes k (omega arith) h))) (cases_lt j at);
      only = λ j h. ⊎_elim (λ h. i.only j h) (λ p.
          let here : j ≡ at = omega (arith, p.0) in
          let q = came p.2 in
          inr (ap (λ m. get_or text m 0) here ∙ p.1, q.0, omega (arith, q.1), q.2)) (only (j + 1) h);
      first = λ h. ⊎_elim (λ h. i.first h) (λ p. absurd (omega (arith, p.0))) (only 0 h);
      came = came;
      comes = comes;
    }

pub returns-clause-moved : goal.returns-clause-moved
returns-clause-moved c =
    let i = c.loop-position.invariant in let text = c.args.text.now in
    moves_behind_slashes text c.args.self.now c.loop-position.self i.kept
    (λ k j le h is. i.added k j le (⊎_elim (λ l. omega arith) (λ past. absurd (omega (arith, get_or_past text j 0 past))) (cases_lt j (length text))) h is) i.only i.first
