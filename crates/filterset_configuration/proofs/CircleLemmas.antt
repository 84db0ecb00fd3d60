-- Circles of names, by the positions of names.
use Rattle.std.proofs.Common.{◌≡◌, ◌≢◌, ◌<◌, ◌⊎◌, ◌↔◌, inl, inr, ℕ, zero, suc, Bool, true, false, List, [], ◌∷◌, None, Option, Some, String, ⊎_elim, ap, arith, length, map, refl, string_bytes, sym, ◌∙◌}
use Rattle.std.specs.Prelude.{IsSome, bytes_eq, option_and_then, option_copied, option_map, slice_get}
use Rattle.std.specs.{Borrow.Bor, BTreeMap.BTreeMap, Cmp.Lexicographic.slice_cmp, List.AllByRecursion}
use Rattle.std.specs.{List.Sorted.IsStrictlySortedBy, Map.keys_of as keys_in}
use Rattle.std.specs.Ordering.{is_eq, match_ordering, nat_cmp}
use Rattle.std.specs.{String.string_cmp, declared.alloc.Global.Global, declared.cmp.Ordering.Ordering}
use Rattle.std.specs.declared.cmp.Ordering.TheVariants.{Equal, Greater, Less}
use Rattle.std.proofs.lemmas.{List.length-map, Map.Text.is_eq-slice_cmp, Option.same_Some, Option.slice_get-map}
use Rattle.std.proofs.lemmas.{Simd.map-map, Slice.Eq.bytes_eq-Decides}
use Rattle.toml.specs.{Data.Data, Data.Members, Data.member, Data.no_members, Data.get_member, View.members_view}
use Rattle.toml.proofs.Views.{Entry}
use Rattle.filterset_json.specs.Shape.{Text}
use Rattle.filterset_configuration.specs.Circles.{AreDistinct, IsIndex, IsProfileInCircle, after, fallback, fallback_of, link_row, links_of, position_of}
use Rattle.filterset_configuration.specs.Leads.{AreFar, LeadsBack, MarksEnds, lead, lead_after}
use Rattle.filterset_configuration.specs.declared.circles.Link.{Link}
use Rattle.filterset_configuration.proofs.LeadLemmas.{far_all, far_exactly, lead_within, through}
use Rattle.filterset_sources.specs.Configurations.{keys_of}

-- ---- names are distinct

same_text : (t : Text) → is_eq (slice_cmp nat_cmp t t) ≡ true
same_text t = is_eq-slice_cmp t t ∙ (bytes_eq-Decides t t).1 refl

-- a key does not come before itself
comes_later : (k : String Global) (es : List Entry) → AllByRecursion (λ y. string_cmp k y ≡ Less) (keys_in es) → (j : ℕ)
    → slice_get (keys_of (members_view es)) j ≡ Some (string_bytes k) → ⊥
comes_later k [] h j at = absurd (cc)
comes_later k (e ∷ es) h zero at =
    let same : string_bytes e.0 ≡ string_bytes k = cc in
    let wrong : true ≡ false = sym (same_text (string_bytes k)) ∙ ap (λ t. is_eq (slice_cmp nat_cmp (string_bytes k) t)) (sym same) ∙ ap is_eq h.0 in
    cc
comes_later k (e ∷ es) h (suc j) at = comes_later k es h.1 j at

pub distinct_names : (es : List Entry) → IsStrictlySortedBy string_cmp (keys_in es) → AreDistinct (keys_of (members_view es))
unfolding IsStrictlySortedBy
distinct_names [] h i j name here there = absurd (cc)
distinct_names (e ∷ es) h zero zero name here there = refl
distinct_names (e ∷ es) h zero (suc j) name here there = absurd (comes_later e.0 es h.0 j (there ∙ sym here))
distinct_names (e ∷ es) h (suc i) zero name here there = absurd (comes_later e.0 es h.0 i (here ∙ sym there))
distinct_names (e ∷ es) h (suc i) (suc j) name here there = ap suc (distinct_names es h.1 i j name here there)

-- ---- members by their keys

picks_same : {X : Type 0} (o : Ordering) (a b : X) → is_eq o ≡ true → match_ordering o a b a ≡ b
picks_same Less a b h = absurd (cc)
picks_same Equal a b h = refl
picks_same Greater a b h = absurd (cc)

picks_other : {X : Type 0} (o : Ordering) (a b : X) → is_eq o ≡ false → match_ordering o a b a ≡ a
picks_other Less a b h = refl
picks_other Equal a b h = absurd (cc)
picks_other Greater a b h = refl

-- a key is the first one, or it is not
first_or_later : (name l : Text) (d : Data) (ms : Members) → ((name ≡ l) × (get_member name (member l d ms) ≡ Some d))
    ⊎ ((name ≢ l) × (get_member name (member l d ms) ≡ get_member name ms))
first_or_later name l d ms = decided (bytes_eq name l) refl
  where
    decided : (b : Bool) → bytes_eq name l ≡ b → ((name ≡ l) × (get_member name (member l d ms) ≡ Some d))
        ⊎ ((name ≢ l) × (get_member name (member l d ms) ≡ get_member name ms))
    decided true is =
        inl
        ((bytes_eq-Decides name l).0 is, picks_same (slice_cmp nat_cmp name l) (get_member name ms) (Some d) (is_eq-slice_cmp name l ∙ is))
    decided false is =
        inr (
          (λ same. let wrong = (bytes_eq-Decides name l).1 same in cc),
          picks_other (slice_cmp nat_cmp name l) (get_member name ms) (Some d) (is_eq-slice_cmp name l ∙ is),
        )

-- a key that leads to something has a position
member_there : (ms : Members) (name : Text) (d : Data) → get_member name ms ≡ Some d → (at : ℕ) × (slice_get (keys_of ms) at ≡ Some name)
member_there no_members name d h = absurd (cc)
member_there (member l e ms) name d h =
    ⊎_elim
    (λ first. (zero, ap Some (sym first.0)))
    (λ later.
    let rest = member_there ms name d (sym later.1 ∙ h) in
    (suc rest.0, rest.1))
    (first_or_later name l e ms)

-- the link at the position of a name
key_link : (ms : Members) (at : ℕ) (name : Text) → slice_get (keys_of ms) at ≡ Some name
    → (to : Option Text) × (slice_get (links_of ms) at ≡ Some (name, to))
key_link no_members at name h = absurd (cc)
key_link (member l d ms) zero name h =
    let same : l ≡ name = cc in
    (fallback_of l d, ap (λ (t : Text). Some (t, fallback_of l d)) same)
key_link (member l d ms) (suc at) name h = key_link ms at name h

tail_distinct : (l : Text) (names : List Text) → AreDistinct (l ∷ names) → AreDistinct names
tail_distinct l names h i j name here there = omega (arith, h (suc i) (suc j) name here there)

-- what is linked is what the name falls back on
link_fallback : (ms : Members) → AreDistinct (keys_of ms) → (at : ℕ) (name : Text) (to : Option Text) → slice_get (keys_of ms) at ≡ Some name
    → slice_get (links_of ms) at ≡ Some (name, to) → fallback ms name ≡ to
link_fallback no_members distinct at name to here h = absurd (cc)
link_fallback (member l d ms) distinct zero name to here h =
    let both = same_Some (l, fallback_of l d) (name, to) h in
    let same : l ≡ name = ap (λ x. x.0) both in
    ⊎_elim
    (λ first. ap (option_and_then (fallback_of name)) first.1 ∙ ap (λ t. fallback_of t d) (sym same) ∙ (ap (λ x. x.1) both))
    (λ later. absurd (later.0 (sym same)))
    (first_or_later name l d ms)
link_fallback (member l d ms) distinct (suc at) name to here h =
    ⊎_elim
    (λ first.
    absurd (omega (arith, distinct zero (suc at) name (ap Some (sym first.0)) here)))
    (λ later.
    ap (option_and_then (fallback_of name)) later.1
    ∙ link_fallback ms (tail_distinct l (keys_of ms) distinct) at name to here h)
    (first_or_later name l d ms)

-- ---- what is made of links is made of profiles

names_linked : (ms : Members) → map (λ (l : Text × Option Text). l.0) (links_of ms) ≡ keys_of ms
names_linked no_members = refl
names_linked (member l d ms) = ap (λ names. l ∷ names) (names_linked ms)

pub names_from_links : (links : List Link) (ms : Members) → map link_row links ≡ links_of ms → map (λ l. l.name.now) links ≡ keys_of ms
names_from_links links ms rows =
    sym (map-map (λ (l : Text × Option Text). l.0) link_row links)
    ∙ ap (map (λ (l : Text × Option Text). l.0)) rows ∙ names_linked ms

pub parents_from_links : (links : List Link) (ms : Members) (f : Option Text → Option ℕ) → map link_row links ≡ links_of ms
    → map (λ l. f (option_copied l.fallback)) links ≡ map (λ (l : Text × Option Text). f l.1) (links_of ms)
parents_from_links links ms f rows =
    sym (map-map (λ (l : Text × Option Text). f l.1) link_row links)
    ∙ ap (map (λ (l : Text × Option Text). f l.1)) rows

-- ---- steps of positions are steps of names

length-links_of : (ms : Members) → length (links_of ms) ≡ length (keys_of ms)
length-links_of no_members = refl
length-links_of (member l d ms) = ap suc (length-links_of ms)

some_at : {X : Type 0} (xs : List X) (at : ℕ) → at < length xs → (x : X) × (slice_get xs at ≡ Some x)
some_at [] at h = absurd (omega (arith, h))
some_at (x ∷ xs) zero h = (x, refl)
some_at (x ∷ xs) (suc at) h = some_at xs at (omega (arith, h))

some_is : {X : Type 0} (o : Option X) → IsSome o → (x : X) × (o ≡ Some x)
some_is None h = absurd (cc)
some_is (Some x) h = (x, refl)

module _ (ms : Members) (distinct : AreDistinct (keys_of ms)) (positions : BTreeMap (Bor Text) ℕ) (index : IsIndex (keys_of ms) positions)
    (parents : List (Option ℕ)) (are : parents ≡ map (λ (l : Text × Option Text). option_and_then (position_of positions) l.1) (links_of ms)) where
  parent_at : (at : ℕ) (name : Text) → slice_get (keys_of ms) at ≡ Some name → lead parents at ≡ option_and_then (position_of positions) (fallback ms name)
  parent_at at name here =
      let link = key_link ms at name here in
      let f = λ (l : Text × Option Text). option_and_then (position_of positions) l.1 in
      ap (λ (ps : List (Option ℕ)). lead ps at) are
      ∙ ap (option_and_then (λ (o : Option ℕ). o)) (slice_get-map f (links_of ms) at ∙ ap (option_map f) link.1)
      ∙ ap (option_and_then (position_of positions)) (sym (link_fallback ms distinct at name link.0 here link.1))

  steps_down : (n at to : ℕ) (name : Text) → slice_get (keys_of ms) at ≡ Some name → lead_after parents n at ≡ Some to
      → (last : Text) × (after ms n name ≡ Some last) × (slice_get (keys_of ms) to ≡ Some last)
  steps_down zero at to name here h =
      let same : at ≡ to = cc in
      (name, refl, ap (slice_get (keys_of ms)) (sym same) ∙ here)
  steps_down (suc n) at to name here h =
      let next = through (lead parents at) (lead_after parents n) to h in
      let step = through (fallback ms name) (position_of positions) next.0 (sym (parent_at at name here) ∙ next.1) in
      let rest = steps_down n next.0 to step.0 (index.0 step.0 next.0 step.2) next.2 in
      (rest.0, ap (option_and_then (after ms n)) step.1 ∙ rest.1, rest.2)

  -- where a step is made to, if another follows or a position is known
  goes_to : (n to : ℕ) (name last : Text) → after ms n name ≡ Some last → slice_get (keys_of ms) to ≡ Some last
      → (at : ℕ) × (slice_get (keys_of ms) at ≡ Some name)
  goes_to zero to name last h there =
      let same : name ≡ last = cc in
      (to, there ∙ ap Some (sym same))
  goes_to (suc n) to name last h there =
      let step = through (fallback ms name) (after ms n) last h in
      let found = through (get_member name ms) (fallback_of name) step.0 step.1 in
      member_there ms name found.0 found.1

  steps_up : (n at to : ℕ) (name last : Text) → slice_get (keys_of ms) at ≡ Some name → after ms n name ≡ Some last
      → slice_get (keys_of ms) to ≡ Some last → lead_after parents n at ≡ Some to
  steps_up zero at to name last here h there = ap Some (distinct at to last (here ∙ ap Some cc) there)
  steps_up (suc n) at to name last here h there =
      let step = through (fallback ms name) (after ms n) last h in
      let on = goes_to n to step.0 last step.2 there in
      let found = some_is (position_of positions step.0) (index.1 step.0 on.0 on.1) in
      ap (option_and_then (lead_after parents n)) (parent_at at name here ∙ ap (option_and_then (position_of positions)) step.1 ∙ found.1)
      ∙ steps_up n found.0 to step.0 last (index.0 step.0 found.0 found.1) step.2 there

  length-parents : length parents ≡ length (keys_of ms)
  length-parents =
      ap length are ∙ simp length-map (length-links_of ms)

  down : (at : ℕ) → LeadsBack parents at → IsProfileInCircle ms at
  down at back =
      let here = some_at (keys_of ms) at (omega (arith, lead_within parents back.0 at at back.1, length-parents)) in
      let steps = steps_down (suc back.0) at at here.0 here.1 back.1 in
      let same : steps.0 ≡ here.0 = (let e : Some steps.0 ≡ Some here.0 = sym steps.2 ∙ here.1 in cc) in
      (here.0, here.1, (back.0, steps.1 ∙ ap Some same))

  up : (at : ℕ) → IsProfileInCircle ms at → LeadsBack parents at
  up at circle = (circle.2.0, steps_up (suc circle.2.0) at at circle.0 circle.0 circle.1 circle.2.1 circle.1)

  -- the ends of far leads are the profiles that fall back on themselves
  pub ends_are_circles : (leads : List (Option ℕ)) (marks : List Bool) → AreFar parents leads → MarksEnds leads marks
      → (at : ℕ) → (slice_get marks at ≡ Some true) ↔ IsProfileInCircle ms at
  ends_are_circles leads marks far ends at = (
    λ marked. down at (far_exactly parents leads far at ((ends at).0 marked).1),
    λ circle.
        let back = up at circle in
        (ends at).1 (omega (arith, lead_within parents back.0 at at back.1, far.2.0), far_all parents leads far at back),
  )
