-- Chains of profiles that fall back one on the next.
use Rattle.std.proofs.Common.{◌≡◌, ℕ, zero, suc, ◌+◌, ◌<◌, Bool, true, false, List, [], ◌∷◌, ◌++◌, length, get_or, set, Option, Some, None, string_bytes, length-append, append_assoc, arith, refl, ap, sym, subst, ◌∙◌, ⊎_elim}
use Rattle.std.specs.Prelude.{IfSome, IsTrue, String, alloc_error, option_and_then, slice_get}
use Rattle.std.specs.declared.alloc.Global.{Global}
use Rattle.std.proofs.lemmas.{Bool.cases_eq, Bool.false≢true, List.get_or_default, List.get_or-set_other}
use Rattle.filterset_json.specs.Shape.{Text}
use Rattle.filterset_configuration.specs.{Names.is_built_in, Paths.profile_path}
use Rattle.filterset_configuration.specs.Lineages.{IsLineageFault, IsMissing, Leads, Lineage, named, parent}
use Rattle.filterset_configuration.specs.declared.fault.LineageFault.{LineageFault}
use Rattle.filterset_configuration.specs.declared.fault.LineageFault.TheVariants.{NoProfile, NoParent, Cycle, OutOfMemory}
use Rattle.filterset_configuration.specs.declared.profiles.Profile.{Profile}

-- the list goes on from the profile to the end of the chain
abbrev pub IsIn : List Profile → Profile → Type 0
IsIn chain p = (front : List Profile) × (rest : List Profile) × (chain ≡ front ++ p ∷ rest)

module _ (ps : List Profile) where
  pub leads_on : (a : Option Text) (xs : List Profile) (b : Option Text) (ys : List Profile) (c : Option Text)
      → Leads ps a xs b → Leads ps b ys c → Leads ps a (xs ++ ys) c
  leads_on a [] b ys c h k = subst (λ (o : Option Text). Leads ps o ys c) (sym h) k
  leads_on a (p ∷ xs) b ys c h k = (h.0, leads_on (parent p) xs b ys c h.1 k)

  -- a chain with one more profile
  pub leads_push : (a : Option Text) (xs : List Profile) (b : Option Text) (p : Profile) → Leads ps a xs b
      → option_and_then (named ps) b ≡ Some p → Leads ps a (xs ++ p ∷ []) (parent p)
  leads_push a xs b p h k = leads_on a xs b (p ∷ []) (parent p) h (k, refl)

  leads_split : (a : Option Text) (xs ys : List Profile) (c : Option Text) → Leads ps a (xs ++ ys) c
      → (b : Option Text) × Leads ps a xs b × Leads ps b ys c
  leads_split a [] ys c h = (a, refl, h)
  leads_split a (p ∷ xs) ys c h =
      let rest = leads_split (parent p) xs ys c h.1 in
      (rest.0, (h.0, rest.1), rest.2)

  -- a chain that comes back to a profile
  pub cycle_found : (name : Text) (chain : List Profile) (next : Option Text) (p : Profile) (path : String Global) → Leads ps (Some name) chain next
      → option_and_then (named ps) next ≡ Some p → IsIn chain p → string_bytes path ≡ profile_path (string_bytes p.name) → IsLineageFault ps name (Cycle path)
  cycle_found name chain next p path h at within is =
      let parts = leads_split (Some name) within.0 (p ∷ within.1) next (subst (λ (xs : List Profile). Leads ps (Some name) xs next) within.2 h) in
      (chain, within.1, p, is, next, h, (at, parts.2.1))

  -- a chain that leads to a name that no profile has
  pub missing_found : (name : Text) (chain : List Profile) (wanted : Text) (fault : LineageFault) → Leads ps (Some name) chain (Some wanted)
      → named ps wanted ≡ None → is_built_in wanted ≡ false → IsMissing chain wanted fault → IsLineageFault ps name fault
  missing_found name chain wanted (NoProfile n) h none other is =
      let here : Leads ps (Some name) [] (Some wanted) = subst (λ (xs : List Profile). Leads ps (Some name) xs (Some wanted)) is.0 h in
      let same : wanted ≡ name = cc in
      (is.1 ∙ same, subst (λ (t : Text). named ps t ≡ None) same none, subst (λ (t : Text). is_built_in t ≡ false) same other)
  missing_found name chain wanted (NoParent path n) h none other is =
      let name_is : wanted ≡ string_bytes n = sym is.4 in (
        is.0,
        is.1,
        is.3,
        subst (λ (t : Text). Leads ps (Some name) (is.0 ++ is.1 ∷ []) (Some t)) name_is (subst (λ (xs : List Profile). Leads ps (Some name) xs (Some wanted)) is.2 h),
        subst (λ (t : Text). named ps t ≡ None) name_is none,
        subst (λ (t : Text). is_built_in t ≡ false) name_is other,
      )
  missing_found name chain wanted (Cycle path) h none other is = absurd is
  missing_found name chain wanted (OutOfMemory error) h none other is = absurd is

  -- a chain goes on up to where no profile is
  leads_past : (a : Option Text) (xs : List Profile) (b : Option Text) (ys : List Profile) (c : Option Text) → Leads ps a xs b → Leads ps a ys c
      → option_and_then (named ps) c ≡ None → (zs : List Profile) × (ys ≡ xs ++ zs) × Leads ps b zs c
  leads_past a [] b ys c h k end = (ys, refl, subst (λ (o : Option Text). Leads ps o ys c) h k)
  leads_past a (p ∷ xs) b [] c h k end = let start = h.0 in cc
  leads_past a (p ∷ xs) b (q ∷ ys) c h k end =
      let first = h.0 in
      let second = k.0 in
      let same : p ≡ q = cc in
      let rest = leads_past (parent p) xs b ys c h.1 (subst (λ (r : Profile). Leads ps (parent r) ys c) (sym same) k.1) end in
      (rest.0, (λ i. sym same i ∷ rest.1 i), rest.2)

  -- and no further
  leads_none : (a : Option Text) (xs : List Profile) (c : Option Text) → option_and_then (named ps) a ≡ None → Leads ps a xs c → (xs ≡ []) × (a ≡ c)
  leads_none a [] c end h = (refl, h)
  leads_none a (p ∷ xs) c end h = let start = h.0 in cc

  -- it ends in one way
  leads_once : (a : Option Text) (xs : List Profile) (b : Option Text) (ys : List Profile) (c : Option Text) → Leads ps a xs b → option_and_then (named ps) b ≡ None
      → Leads ps a ys c → option_and_then (named ps) c ≡ None → (xs ≡ ys) × (b ≡ c)
  leads_once a xs b ys c h b_ends k c_ends =
      let rest = leads_past a xs b ys c h k c_ends in
      let last = leads_none b rest.0 c b_ends rest.2 in
      (sym (rest.1 ∙ ap (λ zs. xs ++ zs) last.0 ∙ append_nil xs), last.1)
    where
      append_nil : (xs : List Profile) → xs ++ [] ≡ xs
      append_nil [] = refl
      append_nil (x ∷ xs) = ap (λ ys. x ∷ ys) (append_nil xs)

  pub lineage_once : (name : Text) (xs ys : List Profile) → Lineage ps name xs → Lineage ps name ys → xs ≡ ys
  lineage_once name xs ys h k = (leads_once (Some name) xs h.0 ys k.0 h.1 h.2 k.1 k.2).0

  -- a circle does not end
  circle_goes_on : (n : ℕ) (a : Option Text) (p : Profile) (circle xs : List Profile) (c : Option Text) → length xs < n → Leads ps a (p ∷ circle) a
      → Leads ps a xs c → option_and_then (named ps) c ≡ None → ⊥
  circle_goes_on zero a p circle xs c lt h k end = omega arith
  circle_goes_on (suc n) a p circle xs c lt h k end =
      let rest = leads_past a (p ∷ circle) a xs c h k end in
      let whole : length xs ≡ suc (length circle) + length rest.0 = ap length rest.1 ∙ length-append (p ∷ circle) rest.0 in
      circle_goes_on n a p circle rest.0 c (omega arith) h rest.2 end

  not_built_in : {A : Type 0} (t : Text) → is_built_in t ≡ false → IsTrue (is_built_in t) → A
  not_built_in t other built_in = absurd (false≢true (sym other ∙ built_in))

  -- where there is a lineage, a fault is out of memory
  pub no_fault : (name : Text) (chain : List Profile) (fault : LineageFault) → Lineage ps name chain → IsLineageFault ps name fault → fault ≡ OutOfMemory alloc_error
  no_fault name chain (NoProfile n) h is =
      not_built_in name is.2 (subst (λ (o : Option Text). IfSome o (λ t. IsTrue (is_built_in t))) (sym (leads_none (Some name) chain h.0 is.1 h.1).1) h.3)
  no_fault name chain (NoParent path n) h is =
      let last = leads_once (Some name) (is.0 ++ is.1 ∷ []) (Some (string_bytes n)) chain h.0 is.3 is.4 h.1 h.2 in
      not_built_in (string_bytes n) is.5 (subst (λ (o : Option Text). IfSome o (λ t. IsTrue (is_built_in t))) (sym last.1) h.3)
  no_fault name chain (Cycle path) h is =
      let rest = leads_past (Some name) is.0 is.4 chain h.0 is.5 h.1 h.2 in
      absurd (circle_goes_on (suc (length rest.0)) is.4 is.2 is.1 rest.0 h.0 (omega arith) is.6 rest.2 h.2)
  no_fault name chain (OutOfMemory error) h is = refl

  -- each profile with a mark is in the chain
  abbrev pub IsPassed : List Bool → List Profile → Type 0
  IsPassed marks chain = (k : ℕ) (p : Profile) → get_or marks k false ≡ true → slice_get ps k ≡ Some p → IsIn chain p

  pub one_more_passed : (marks : List Bool) (chain : List Profile) (i : ℕ) (p : Profile) → IsPassed marks chain → slice_get ps i ≡ Some p
      → IsPassed (set marks i true) (chain ++ p ∷ [])
  one_more_passed marks chain i p h at k q marked there =
      ⊎_elim
      (λ same.
      let mine : slice_get ps k ≡ Some p = ap (slice_get ps) same ∙ at in
      let which : p ≡ q = cc in
      (chain, [], ap (λ r. chain ++ r ∷ []) which))
      (λ other.
      let old = h k q (sym (get_or-set_other marks i k true false other) ∙ marked) there in
      (old.0, old.1 ++ p ∷ [], ap (λ xs. xs ++ p ∷ []) old.2 ∙ append_assoc old.0 (q ∷ old.1) (p ∷ [])))
      (cases_eq k i)

-- a mark that was read
pub mark_read : (marks : List Bool) (i : ℕ) (b c : Bool) → i < length marks → b ≡ get_or marks i b → b ≡ c → get_or marks i false ≡ c
mark_read marks i b c lt is e = sym (get_or_default marks i b false lt) ∙ sym is ∙ e
