-- The steps that make the index.
use Rattle.std.proofs.Common.{Vec, ◌≡◌, ◌+◌, ◌<◌, ◌≤◌, ◌↔◌, ◌⊎◌, inl, inr, ℕ, Bool, true, false, cond, List, [], ◌∷◌, ◌++◌, Option, Some, None, is_some, length, get_or, take, sym, ◌∙◌, ap, subst, arith}
use Rattle.std.specs.{Prelude.Contains, Prelude.All, Prelude.slice_get, Global.Global, BTreeMap.BTreeMap}
use Rattle.std.specs.{Cmp.Lexicographic.slice_cmp, Ordering.is_eq, Ordering.nat_cmp, Str.bytes_eq}
use Rattle.std.proofs.{Math.ListN.set, lemmas.Bool.cases_eq, lemmas.Bool.cases_Bool, lemmas.Slice.Eq.bytes_eq-Decides}
use Rattle.std.proofs.lemmas.{Map.Text.is_eq-slice_cmp, List.take_more, List.length-map, List.length-take-le}
use Rattle.std.proofs.lemmas.List.Elements.{Contains-append_left, Contains-get_or, Contains-push, Contains-push_cases}
use Rattle.std.proofs.lemmas.Grind.{common_steps}
use Rattle.std.proofs.lemmas.Option.{gets, none-some, same_Some, slice_get-get_or, slice_get_within, get_or_from_slice_get}
use Rattle.filterset_graph.specs.{declared.package.PackageMetadata.PackageMetadata, Edges.HasEdge}
use Rattle.filterset_graph.specs.Packages.{Text, ids, AllDiffer, IsFirstRepeat, LinksKnown, IsUnknownLink, IsFirstUnknownLink}
use Rattle.filterset_graph.specs.Index.{PositionsAre, index_of, IsRowOf, AreRows, AddsEdges, IsReversed}
use Rattle.filterset_graph.specs.PartRefusals.{IsFirstWithout}
use Rattle.filterset_graph.proofs.Positions.{position_from_Contains, Contains-from_position, element_at, mapped_at, row_has}
use Rattle.filterset_graph.proofs.Steps.{slice_get-set_same, slice_get-set_other}

-- the first elements of a list
pub slice_get-take : {X : Type 0} (n : ℕ) (xs : List X) (k : ℕ) → k < n → slice_get (take n xs) k ≡ slice_get xs k
slice_get-take n xs k h = grind (arith, common_steps, gets)

pub taken_within : {X : Type 0} (n : ℕ) (xs : List X) (k : ℕ) (x : X) → slice_get (take n xs) k ≡ Some x → (k < n) × (slice_get xs k ≡ Some x)
taken_within n xs k x e = grind (arith, common_steps, gets)

-- a list with one more element at its end
pub pushed_at : {X : Type 0} (xs : List X) (x : X) → slice_get (xs ++ x ∷ []) (length xs) ≡ Some x
pushed_at xs x = grind (arith, common_steps, gets)

pub pushed_keeps : {X : Type 0} (xs : List X) (x : X) (k : ℕ) (y : X) → slice_get xs k ≡ Some y → slice_get (xs ++ x ∷ []) k ≡ Some y
pushed_keeps xs x k y e = grind (arith, common_steps, gets)

pub pushed_cases : {X : Type 0} (xs : List X) (x : X) (k : ℕ) (y : X) → slice_get (xs ++ x ∷ []) k ≡ Some y → (slice_get xs k ≡ Some y) ⊎ ((k ≡ length xs) × (x ≡ y))
pushed_cases xs x k y e = grind (arith, common_steps, gets)

-- one more id with its position
pub PositionsAre-push : (old new : BTreeMap Text ℕ) (names : List Text) (id : Text) → index_of old id ≡ None → ((q : Text) → index_of new q ≡ cond (is_eq (slice_cmp nat_cmp id q)) (Some (length names)) (index_of old q)) → PositionsAre old names → PositionsAre new (names ++ id ∷ [])
PositionsAre-push old new names id fresh updates placed q k =
    elim (cases_Bool (bytes_eq id q)) [
      | inl equal ↦
          (let same : id ≡ q = (bytes_eq-Decides id q).0 equal in
          let found : index_of new q ≡ Some (length names) = updates q ∙ ap (λ (t : Bool). cond t (Some (length names)) (index_of old q)) (is_eq-slice_cmp id q ∙ equal) in (
            (λ e. let here : length names ≡ k = same_Some (length names) k (sym found ∙ e) in
                subst (λ (j : ℕ). slice_get (names ++ id ∷ []) j ≡ Some q) here (pushed_at names id ∙ ap Some same)),
            (λ e. elim (pushed_cases names id k q e) [
              | inl h ↦ absurd (none-some k (sym fresh ∙ ap (index_of old) same ∙ (placed q k).1 h))
              | inr h ↦ found ∙ ap Some (sym h.0)
            ]),
          ))
      | inr apart ↦
          (let kept : index_of new q ≡ index_of old q = updates q ∙ ap (λ (t : Bool). cond t (Some (length names)) (index_of old q)) (is_eq-slice_cmp id q ∙ apart) in (
            (λ e. pushed_keeps names id k q ((placed q k).0 (sym kept ∙ e))),
            (λ e. elim (pushed_cases names id k q e) [
              | inl h ↦ kept ∙ (placed q k).1 h
              | inr h ↦ absurd (let equal : bytes_eq id q ≡ true = (bytes_eq-Decides id q).1 h.1 in cc)
            ]),
          ))
    ]

-- ids that have one position each are all different
pub PositionsAre-AllDiffer : (positions : BTreeMap Text ℕ) (names : List Text) → PositionsAre positions names → AllDiffer names
PositionsAre-AllDiffer positions names placed at (k, below, within, same) =
    let x = element_at names at within in
    omega (arith, below, same_Some k at (sym ((placed x.0 k).1 (same ∙ x.1)) ∙ (placed x.0 at).1 x.1))

-- an id that has a position already is the first that is repeated
pub PositionsAre-IsFirstRepeat : (positions : BTreeMap Text ℕ) (names : List Text) (at : ℕ) (id : Text) (k : ℕ) → PositionsAre positions (take at names) → slice_get names at ≡ Some id → index_of positions id ≡ Some k → IsFirstRepeat names at
PositionsAre-IsFirstRepeat positions names at id k placed here found =
    let earlier = taken_within at names k id ((placed id k).0 found) in
    let within : at < length names = slice_get_within names at id here in (
      (k, earlier.0, within, earlier.1 ∙ sym here),
      (λ j below (i, less, inside, same).
          let long : length (take at names) ≡ at = length-take-le at names (omega (arith, within)) in
          PositionsAre-AllDiffer positions (take at names) placed j (i, less, omega (arith, long, below), slice_get-take at names i (omega (arith, less, below)) ∙ same ∙ sym (slice_get-take at names j below))),
    )

-- an id of the packages by its position
pub id_at : (packages : List PackageMetadata) (at : ℕ) (p : PackageMetadata) → at < length packages → p ≡ get_or packages at p → slice_get (ids packages) at ≡ Some p.id
id_at packages at p within read = mapped_at (λ (q : PackageMetadata). q.id) packages at p (slice_get-get_or packages at p within ∙ ap Some (sym read))

some_of : (o : Option ℕ) → is_some o ≡ true → (k : ℕ) × (o ≡ Some k)
some_of o e = grind arith

none_of : (o : Option ℕ) → is_some o ≡ false → o ≡ None
none_of o e = grind arith

-- an id whose look-up found an earlier position
pub repeated_at : (packages : List PackageMetadata) (at : ℕ) (p : PackageMetadata) (key : Text) (positions : BTreeMap Text ℕ) (earlier : Option ℕ) → at < length packages → p ≡ get_or packages at p → key ≡ p.id → PositionsAre positions (take at (ids packages)) → earlier ≡ index_of positions key → is_some earlier ≡ true → IsFirstRepeat (ids packages) at
repeated_at packages at p key positions earlier within read copy placed old found =
    let k = some_of earlier found in
    PositionsAre-IsFirstRepeat positions (ids packages) at p.id k.0 placed (id_at packages at p within read) (ap (index_of positions) (sym copy) ∙ sym old ∙ k.1)

-- an id whose look-up found none, with its own position now
pub placed_more : (packages : List PackageMetadata) (at : ℕ) (p : PackageMetadata) (key : Text) (old new : BTreeMap Text ℕ) (earlier : Option ℕ) → at < length packages → p ≡ get_or packages at p → key ≡ p.id → PositionsAre old (take at (ids packages)) → earlier ≡ index_of old key → is_some earlier ≡ false → ((q : Text) → index_of new q ≡ cond (is_eq (slice_cmp nat_cmp key q)) (Some at) (index_of old q)) → PositionsAre new (take (at + 1) (ids packages))
placed_more packages at p key old new earlier within read copy placed found missing updates =
    let inside : at < length (ids packages) = rw length-map within in
    let long : length (take at (ids packages)) ≡ at = length-take-le at (ids packages) (omega (arith, inside)) in
    let named : get_or (ids packages) at [] ≡ key = get_or_from_slice_get (ids packages) at key [] (id_at packages at p within read ∙ ap Some (sym copy)) in
    rw (take_more (ids packages) at [] inside, named)
    (PositionsAre-push old new (take at (ids packages)) key (sym found ∙ none_of earlier missing) (λ q. rw long (updates q)) placed)

-- one more position in the row at one position
pub HasEdge-push : (rows : List (Vec ℕ Global)) (position from : ℕ) (old new : Vec ℕ Global) → position < length rows → slice_get rows position ≡ Some old → new.items ≡ old.items ++ from ∷ [] → (a b : ℕ) → HasEdge (set rows position new) b a ↔ (HasEdge rows b a ⊎ ((a ≡ from) × (b ≡ position)))
HasEdge-push rows position from old new within here pushed a b =
    elim (cases_eq b position) [
      | inl same ↦
          (let after : slice_get (set rows position new) b ≡ Some new = ap (slice_get (set rows position new)) same ∙ slice_get-set_same rows position new within in
          let before : slice_get rows b ≡ Some old = ap (slice_get rows) same ∙ here in (
            (λ edge.
                let row : edge.0 ≡ new = same_Some edge.0 new (sym edge.1 ∙ after) in
                let listed : Contains (old.items ++ from ∷ []) a = subst (λ (l : List ℕ). Contains l a) (ap (λ (v : Vec ℕ Global). v.items) row ∙ pushed) edge.2 in
                elim (Contains-push_cases old.items from a listed) [ inl h ↦ inl (old, before, h) | inr e ↦ inr (sym e, same) ]),
            (λ cases. elim cases [
              | inl edge ↦ (new, after, (let row : edge.0 ≡ old = same_Some edge.0 old (sym edge.1 ∙ before) in rw pushed (Contains-append_left old.items (from ∷ []) a (subst (λ (v : Vec ℕ Global). Contains v.items a) row edge.2))))
              | inr e ↦ (new, after, subst (λ (k : ℕ). Contains new.items k) (sym e.0) (rw pushed (Contains-push old.items from)))
            ]),
          ))
      | inr apart ↦
          (let kept : slice_get (set rows position new) b ≡ slice_get rows b = slice_get-set_other rows position new b apart in (
            (λ edge. inl (edge.0, sym kept ∙ edge.1, edge.2)),
            (λ cases. elim cases [ inl edge ↦ (edge.0, kept ∙ edge.1, edge.2) | inr e ↦ absurd (apart e.1) ]),
          ))
    ]

pub AddsEdges-none : (rows : List (Vec ℕ Global)) (from : ℕ) → AddsEdges rows [] from rows
AddsEdges-none rows from a b = ((λ edge. inl edge), (λ cases. elim cases [ inl edge ↦ edge | inr e ↦ absurd (omega (arith, e.1.1)) ]))

pub AddsEdges-more : (rows mid : List (Vec ℕ Global)) (positions : List ℕ) (i from : ℕ) (old new : Vec ℕ Global) → i < length positions → get_or positions i 0 < length mid → old ≡ get_or mid (get_or positions i 0) old → new.items ≡ old.items ++ from ∷ [] → AddsEdges rows (take i positions) from mid → AddsEdges rows (take (i + 1) positions) from (set mid (get_or positions i 0) new)
AddsEdges-more rows mid positions i from old new h within read pushed adds =
    rw (take_more positions i 0 h) (λ a b.
    let position : ℕ = get_or positions i 0 in
    let step = HasEdge-push mid position from old new within (slice_get-get_or mid position old within ∙ ap Some (sym read)) pushed a b in (
      (λ edge. elim (step.0 edge) [
        | inl e ↦ elim ((adds a b).0 e) [ inl g ↦ inl g | inr g ↦ inr (g.0, Contains-append_left (take i positions) (position ∷ []) b g.1) ]
        | inr e ↦ inr (e.0, subst (λ (k : ℕ). Contains (take i positions ++ position ∷ []) k) (sym e.1) (Contains-push (take i positions) position))
      ]),
      (λ cases. elim cases [
        | inl g ↦ step.1 (inl ((adds a b).1 (inl g)))
        | inr g ↦ elim (Contains-push_cases (take i positions) position b g.1) [
          | inl e ↦ step.1 (inl ((adds a b).1 (inr (g.0, e))))
          | inr e ↦ step.1 (inr (g.0, sym e))
        ]
      ]),
    ))

-- rows that are all empty
pub no_edges : (rows : List (Vec ℕ Global)) → All (λ (row : Vec ℕ Global). row.items ≡ []) rows → (a b : ℕ) → HasEdge rows a b → ⊥
no_edges rows empty a b (row, at, c) =
    let none : row.items ≡ [] = ap (λ (v : Vec ℕ Global). v.items) (sym (get_or_from_slice_get rows a row row at)) ∙ empty a row (slice_get_within rows a row at) in
    omega (arith, c.1, ap length none)

-- the edges from the positions below i, the other way round
abbrev pub ReversedBelow : ℕ → List (Vec ℕ Global) → List (Vec ℕ Global) → Type 0
ReversedBelow i links back = (a b : ℕ) → HasEdge back b a ↔ ((a < i) × HasEdge links a b)

pub ReversedBelow-none : (links back : List (Vec ℕ Global)) → ((a b : ℕ) → HasEdge back a b → ⊥) → ReversedBelow 0 links back
ReversedBelow-none links back empty a b = ((λ edge. absurd (empty b a edge)), (λ e. absurd (omega (arith, e.0))))

pub ReversedBelow-more : (links back new : List (Vec ℕ Global)) (i : ℕ) (row : Vec ℕ Global) → slice_get links i ≡ Some row → ReversedBelow i links back → AddsEdges back row.items i new → ReversedBelow (i + 1) links new
ReversedBelow-more links back new i row here below adds a b = (
  (λ edge. elim ((adds a b).0 edge) [
    | inl e ↦ (let old = (below a b).0 e in (omega (arith, old.0), old.1))
    | inr e ↦ (omega (arith, e.0), (row, ap (slice_get links) e.0 ∙ here, e.1))
  ]),
  (λ e. elim (cases_eq a i) [
    | inl same ↦ (adds a b).1 (inr (same, (let named : e.1.0 ≡ row = same_Some e.1.0 row (sym e.1.1 ∙ ap (slice_get links) same ∙ here) in subst (λ (v : Vec ℕ Global). Contains v.items b) named e.1.2)))
    | inr apart ↦ (adds a b).1 (inl ((below a b).1 (omega (arith, e.0, apart), e.1)))
  ]),
)

pub ReversedBelow-all : (links back : List (Vec ℕ Global)) (n : ℕ) → length links ≤ n → ReversedBelow n links back → IsReversed links back
ReversedBelow-all links back n long below a b = (
  (λ edge. ((below a b).0 edge).1),
  (λ edge. (below a b).1 (let within : a < length links = slice_get_within links a edge.0 edge.1 in omega arith, edge)),
)

-- one more row
pub AreRows-push : (positions : BTreeMap Text ℕ) (packages : List PackageMetadata) (links : List (Vec ℕ Global)) (at : ℕ) (p : PackageMetadata) (row : Vec ℕ Global) → length links ≡ at → at < length packages → p ≡ get_or packages at p → IsRowOf positions p.links.items row.items → AreRows positions packages links → AreRows positions packages (links ++ row ∷ [])
AreRows-push positions packages links at p row size within read resolved rows = λ k q r here there.
    elim (pushed_cases links row k r there) [
      | inl h ↦ rows k q r here h
      | inr h ↦
          (let at_p : slice_get packages at ≡ Some p = slice_get-get_or packages at p within ∙ ap Some (sym read) in
          let one : p ≡ q = same_Some p q (sym at_p ∙ ap (slice_get packages) (sym (h.0 ∙ size)) ∙ here) in
          subst (λ (x : PackageMetadata). IsRowOf positions x.links.items r.items) one (subst (λ (v : Vec ℕ Global). IsRowOf positions p.links.items v.items) h.1 resolved))
    ]

-- a link whose look-up finds a position names a package
known_link : (positions : BTreeMap Text ℕ) (packages : List PackageMetadata) (links : List Text) (row : List ℕ) → PositionsAre positions (ids packages) → IsRowOf positions links row → (id : Text) → Contains links id → Contains (ids packages) id
known_link positions packages links row placed resolved id c =
    let b = row_has (index_of positions) links row resolved id c in
    Contains-from_position (ids packages) id b.0 ((placed id b.0).0 b.2)

-- the links of a package that has a row name packages
pub known_links : (positions : BTreeMap Text ℕ) (packages : List PackageMetadata) (links : List (Vec ℕ Global)) (k : ℕ) → PositionsAre positions (ids packages) → AreRows positions packages links → k < length links → (j : ℕ) → IsUnknownLink packages k j → ⊥
known_links positions packages links k placed rows within j (p, id, here, there, unknown) =
    let row = element_at links k within in
    unknown (known_link positions packages p.links.items row.0.items placed (rows k p row.0 here row.1) id (Contains-from_position p.links.items id j there))

pub LinksKnown-from_rows : (positions : BTreeMap Text ℕ) (packages : List PackageMetadata) (links : List (Vec ℕ Global)) → PositionsAre positions (ids packages) → length links ≡ length packages → AreRows positions packages links → LinksKnown packages
LinksKnown-from_rows positions packages links placed size rows = λ k d h j e g.
    let p : PackageMetadata = get_or packages k d in
    let row = element_at links k (omega (arith, h, size)) in
    known_link positions packages p.links.items row.0.items placed (rows k p row.0 (slice_get-get_or packages k d h) row.1) (get_or p.links.items j e) (Contains-get_or p.links.items j e g)

-- the first link without a position, in the first package that has one
pub first_unknown : (positions : BTreeMap Text ℕ) (packages : List PackageMetadata) (links : List (Vec ℕ Global)) (at : ℕ) (p : PackageMetadata) (owner link : ℕ) → PositionsAre positions (ids packages) → length links ≡ at → AreRows positions packages links → at < length packages → p ≡ get_or packages at p → owner ≡ at → IsFirstWithout positions p.links.items link → IsFirstUnknownLink packages owner link
first_unknown positions packages links at p owner link placed size rows within read same (known, (id, here, missing)) =
    let at_p : slice_get packages owner ≡ Some p = ap (slice_get packages) same ∙ slice_get-get_or packages at p within ∙ ap Some (sym read) in (
      (p, id, at_p, here, (λ c. let k = position_from_Contains (ids packages) id c in none-some k.0 (sym missing ∙ (placed id k.0).1 k.1))),
      (λ k j below. known_links positions packages links k placed rows (omega (arith, below, size, same)) j),
      (λ j below (q, other, q_at, other_at, unknown).
          let one : q ≡ p = same_Some q p (sym q_at ∙ at_p) in
          let listed : slice_get p.links.items j ≡ Some other = subst (λ (x : PackageMetadata). slice_get x.links.items j ≡ Some other) one other_at in
          unknown (known_link positions packages (take link p.links.items) known.0 placed known.1 other (Contains-from_position (take link p.links.items) other j (slice_get-take link p.links.items j below ∙ listed)))),
    )
