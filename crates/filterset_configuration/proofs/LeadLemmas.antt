-- Where positions lead after many steps.
use Rattle.std.proofs.Common.{◌≡◌, ◌≢◌, ◌<◌, ◌+◌, ◌*◌, ℕ, zero, suc, true, false, List, [], ◌∷◌, None, Option, Some, ◌⊎◌, inl, inr, ⊎_elim, ap, arith, eqb, length, map, refl, subst, sym, ◌∙◌}
use Rattle.std.specs.Prelude.{option_and_then, option_map, slice_get}
use Rattle.std.specs.{List.AllByRecursion, List.IsDistinct, List.list_any, Option.option_map_or}
use Rattle.std.proofs.lemmas.{Bool.cases_eq, List.length-map, Map.Steps.length-le_from_distinct_below}
use Rattle.std.proofs.lemmas.Option.{slice_get-map, slice_get_within}
use Rattle.filterset_configuration.specs.Leads.{AreFar, AreLeadsAfter, LeadsBack, lead, lead_after}

-- what was made of a value that is there
pub through : {A B : Type 0} (o : Option A) (f : A → Option B) (x : B) → option_and_then f o ≡ Some x → (y : A) × (o ≡ Some y) × (f y ≡ Some x)
through None f x h = absurd (cc)
through (Some y) f x h = (y, refl, h)

module _ (ps : List (Option ℕ)) where
  then_both : (m n : ℕ) (o : Option ℕ) → ((k : ℕ) → lead_after ps (m + n) k ≡ option_and_then (lead_after ps n) (lead_after ps m k))
      → option_and_then (lead_after ps (m + n)) o ≡ option_and_then (lead_after ps n) (option_and_then (lead_after ps m) o)
  then_both m n None h = refl
  then_both m n (Some k) h = h k

  -- some steps, and then some more
  pub lead_after-add : (m n at : ℕ) → lead_after ps (m + n) at ≡ option_and_then (lead_after ps n) (lead_after ps m at)
  lead_after-add zero n at =
      let e : zero + n ≡ n = omega arith in
      ap (λ k. lead_after ps k at) e
  lead_after-add (suc m) n at =
      let e : suc m + n ≡ suc (m + n) = omega arith in
      ap (λ k. lead_after ps k at) e ∙ then_both m n (lead ps at) (lead_after-add m n)

  -- who leads back after some steps, leads only to those who do so after as many
  pub back_on : (m j k x : ℕ) → lead_after ps m k ≡ Some k → lead_after ps j k ≡ Some x → lead_after ps m x ≡ Some x
  back_on m j k x back on =
      let e : j + m ≡ m + j = omega arith in
      sym (lead_after-add j m k ∙ ap (option_and_then (lead_after ps m)) on)
      ∙ ap (λ n. lead_after ps n k) e
      ∙ lead_after-add m j k ∙ ap (option_and_then (lead_after ps j)) back ∙ on

  back_often : (c m k : ℕ) → lead_after ps m k ≡ Some k → lead_after ps (c * m) k ≡ Some k
  back_often zero m k back =
      let e : zero * m ≡ zero = omega arith in
      ap (λ n. lead_after ps n k) e
  back_often (suc c) m k back =
      let e : suc c * m ≡ m + c * m = omega arith in
      ap (λ n. lead_after ps n k) e
      ∙ lead_after-add m (c * m) k ∙ ap (option_and_then (lead_after ps (c * m))) back ∙ back_often c m k back

  pub lead_inside : (at x : ℕ) → lead ps at ≡ Some x → at < length ps
  lead_inside at x h =
      let here = through (slice_get ps at) (λ (to : Option ℕ). to) x h in
      slice_get_within ps at here.0 here.1

  -- a step is made from a position of the list
  pub lead_within : (n at x : ℕ) → lead_after ps (suc n) at ≡ Some x → at < length ps
  lead_within n at x h =
      let next = through (lead ps at) (lead_after ps n) x h in
      lead_inside at next.0 next.1

  -- the positions that so many steps come from
  abbrev trail : ℕ → ℕ → List ℕ
  trail zero at = []
  trail (suc n) at = at ∷ option_map_or (trail n) (lead ps at) []

  length-trail : (n at x : ℕ) → lead_after ps n at ≡ Some x → length (trail n at) ≡ n
  length-trail zero at x h = refl
  length-trail (suc n) at x h =
      let next = through (lead ps at) (lead_after ps n) x h in
      ap (λ o. suc (length (option_map_or (trail n) o []))) next.1 ∙ ap suc (length-trail n next.0 x next.2)

  -- steps come only from positions of the list
  trail_within : (n at x q : ℕ) → lead_after ps n at ≡ Some x → list_any (eqb q) (trail n at) ≡ true → q < length ps
  trail_within zero at x q h any = absurd (cc)
  trail_within (suc n) at x q h any =
      let next = through (lead ps at) (lead_after ps n) x h in
      ⊎_elim
      (λ same. subst (λ k. k < length ps) (sym same) (lead_inside at next.0 next.1))
      (λ other. trail_within n next.0 x q next.2 (grind (arith, ap (λ o. list_any (eqb q) (at ∷ option_map_or (trail n) o [])) (sym next.1) ∙ any, other)))
      (cases_eq q at)

  -- a position is met again, or never
  abbrev Meets : ℕ → ℕ → ℕ → Type 0
  Meets n y at = ((j : ℕ) × (lead_after ps j y ≡ Some at)) ⊎ AllByRecursion (λ z. eqb at z ≡ false) (trail n y)

  met_later : (n y at : ℕ) (o : Option ℕ) → lead ps y ≡ o → at ≢ y → ((z : ℕ) → Meets n z at) → Meets (suc n) y at
  met_later n y at None is other rest = inr (grind (arith, other), subst (λ o. AllByRecursion (λ z. eqb at z ≡ false) (option_map_or (trail n) o [])) (sym is) tt)
  met_later n y at (Some z) is other rest =
      ⊎_elim
      (λ met. inl (suc met.0, ap (option_and_then (lead_after ps met.0)) is ∙ met.1))
      (λ never. inr (grind (arith, other), subst (λ o. AllByRecursion (λ z. eqb at z ≡ false) (option_map_or (trail n) o [])) (sym is) never))
      (rest z)

  meets : (n y at : ℕ) → Meets n y at
  meets zero y at = inr tt
  meets (suc n) y at =
      ⊎_elim
      (λ same. inl (zero, ap Some (sym same)))
      (λ other. met_later n y at (lead ps y) refl other (λ z. meets n z at))
      (cases_eq at y)

  -- steps end in a circle, or come from positions that differ
  back_or_distinct : (n at x : ℕ) → lead_after ps n at ≡ Some x → LeadsBack ps x ⊎ IsDistinct eqb (trail n at)
  unfolding IsDistinct
  back_or_distinct zero at x h = inr tt
  back_or_distinct (suc n) at x h =
      let next = through (lead ps at) (lead_after ps n) x h in
      ⊎_elim
      (λ back. inl back)
      (λ distinct.
      ⊎_elim
      (λ met.
      inl (met.0, back_on (suc met.0) (suc n) at x (ap (option_and_then (lead_after ps met.0)) next.1 ∙ met.1) h))
      (λ never. inr (subst (λ o. IsDistinct eqb (at ∷ option_map_or (trail n) o [])) (sym next.1) (never, distinct)))
      (meets n next.0 at))
      (back_or_distinct n next.0 x next.2)

  -- more steps than there are positions end in a circle
  pub far_leads_back : (n at x : ℕ) → length ps < n → lead_after ps n at ≡ Some x → LeadsBack ps x
  far_leads_back n at x many h =
      ⊎_elim
      (λ back. back)
      (λ distinct.
      let few = length-le_from_distinct_below (trail n at) (length ps) distinct (λ q any. trail_within n at x q h any) in
      absurd (omega (arith, few, length-trail n at x h)))
      (back_or_distinct n at x h)

  -- and they end at each position of a circle
  pub back_from_far : (n x : ℕ) → LeadsBack ps x → (at : ℕ) × (lead_after ps n at ≡ Some x)
  back_from_far n x back =
      let m = suc back.0 in
      let many : n * m ≡ n * back.0 + n = omega arith in
      let parts = through (lead_after ps (n * back.0) x) (lead_after ps n) x
      (sym (lead_after-add (n * back.0) n x) ∙ ap (λ k. lead_after ps k x) (sym many) ∙ (back_often n m x back.1)) in
      (parts.0, parts.2)

  -- exactly the positions of circles are where far leads end
  pub far_exactly : (leads : List (Option ℕ)) → AreFar ps leads → (x : ℕ) → ((at : ℕ) × (lead leads at ≡ Some x)) → LeadsBack ps x
  far_exactly leads far x h = far_leads_back far.0 h.0 x far.1 (sym (far.2.1 h.0) ∙ h.1)

  pub far_all : (leads : List (Option ℕ)) → AreFar ps leads → (x : ℕ) → LeadsBack ps x → (at : ℕ) × (lead leads at ≡ Some x)
  far_all leads far x back =
      let h = back_from_far far.0 x back in
      (h.0, far.2.1 h.0 ∙ h.1)

  same_then : (o : Option ℕ) (f g : ℕ → Option ℕ) → ((k : ℕ) → f k ≡ g k) → option_and_then f o ≡ option_and_then g o
  same_then None f g h = refl
  same_then (Some k) f g h = h k

  leads_mapped : (f : Option ℕ → Option ℕ) (o : Option (Option ℕ)) → f None ≡ None
      → option_and_then (λ (to : Option ℕ). to) (option_map f o) ≡ f (option_and_then (λ (to : Option ℕ). to) o)
  leads_mapped f None none = sym none
  leads_mapped f (Some to) none = refl

  -- where each leads as far again
  pub after_twice : (n : ℕ) (leads further : List (Option ℕ)) → AreLeadsAfter ps n leads
      → further ≡ map (λ to. option_and_then (lead leads) to) leads → AreLeadsAfter ps (n * 2) further
  after_twice n leads further after is = (
    ap length is ∙ length-map leads (λ to. option_and_then (lead leads) to) ∙ after.0,
    λ at.
        let f = λ (to : Option ℕ). option_and_then (lead leads) to in
        let e : n * 2 ≡ n + n = omega arith in
        ap (λ (ks : List (Option ℕ)). lead ks at) is
        ∙ ap (option_and_then (λ (to : Option ℕ). to)) (slice_get-map f leads at)
        ∙ leads_mapped f (slice_get leads at) refl
        ∙ ap f (after.1 at)
        ∙ same_then (lead_after ps n at) (lead leads) (lead_after ps n) after.1
        ∙ sym (lead_after-add n n at)
        ∙ ap (λ k. lead_after ps k at) (sym e),
  )
