-- Walks over the index are the paths among the packages.
use Rattle.std.proofs.Common.{Vec, ◌≡◌, ◌<◌, ◌↔◌, ℕ, Bool, true, List, [], ◌∷◌, Option, Some, None, Result, Ok, Err, IsTrue, length, get_or, refl, sym, ◌∙◌, ap, subst, arith}
use Rattle.std.specs.{Prelude.Contains, Prelude.IfOk, Prelude.slice_get, Global.Global, BTreeMap.BTreeMap}
use Rattle.std.proofs.lemmas.List.{length-map}
use Rattle.std.proofs.lemmas.Option.{none-some, same_Some, slice_get-get_or, slice_get_within}
use Rattle.filterset_graph.proofs.Positions.{position_from_Contains, Contains-from_position, element_at, element_from_mapped, mapped_at, row_names, row_has}
use Rattle.filterset_graph.proofs.Steps.{Walk-push}
use Rattle.filterset_graph.specs.Edges.{HasEdge, EdgesStayBelow, IsReached, Walk}
use Rattle.filterset_graph.specs.Index.{AreRows, IsIndexed, PositionsAre, index_of}
use Rattle.filterset_graph.specs.Marked.{MarksReached, MarksReaching}
use Rattle.filterset_graph.specs.Packages.{Text, ids, IsLinked, Path}
use Rattle.filterset_graph.specs.{Walks.Follows, Walks.IsMarked, declared.package.PackageMetadata.PackageMetadata}

-- the end of an edge is a package, to which the package at its start is linked
pub edge_link : (packages : List PackageMetadata) (positions : BTreeMap Text ℕ) (links : List (Vec ℕ Global)) → PositionsAre positions (ids packages) → AreRows positions packages links → (a b : ℕ) (x : Text) → HasEdge links a b → slice_get (ids packages) a ≡ Some x → (y : Text) × (slice_get (ids packages) b ≡ Some y) × IsLinked packages x y
edge_link packages positions links placed rows a b x edge here =
    let from = element_from_mapped (λ (p : PackageMetadata). p.id) packages a x here in
    let named = row_names (index_of positions) from.0.links.items edge.0.items (rows a from.0 edge.0 from.1 edge.1) b edge.2 in
    (named.0, (placed named.0 b).0 named.2, (from.0, Contains-from_position packages from.0 a from.1, from.2, named.1))

-- a link of the package at a position is an edge from there
pub link_edge : {packages : List PackageMetadata} {positions : BTreeMap Text ℕ} {links back : List (Vec ℕ Global)} → IsIndexed packages positions links back → (a : ℕ) (x y : Text) → IsLinked packages x y → slice_get (ids packages) a ≡ Some x → (b : ℕ) × (slice_get (ids packages) b ≡ Some y) × HasEdge links a b
link_edge {packages} {positions} {links} {back} index a x y link here =
    let at = position_from_Contains packages link.0 link.1 in
    let named : slice_get (ids packages) at.0 ≡ Some x = mapped_at (λ (p : PackageMetadata). p.id) packages at.0 link.0 at.1 ∙ ap Some link.2 in
    let owner : slice_get packages a ≡ Some link.0 = ap (slice_get packages) (sym (same_Some at.0 a (sym ((index.placed x at.0).1 named) ∙ (index.placed x a).1 here))) ∙ at.1 in
    let row = element_at links a (omega (arith, slice_get_within packages a link.0 owner, index.size)) in
    let found = row_has (index_of positions) link.0.links.items row.0.items (index.rows a link.0 row.0 owner row.1) y link.3 in
    (found.0, (index.placed y found.0).0 found.2, (row.0, row.1, found.1))

pub walk_path : {packages : List PackageMetadata} {positions : BTreeMap Text ℕ} {links back : List (Vec ℕ Global)} → IsIndexed packages positions links back → (a : ℕ) (rest : List ℕ) (b : ℕ) (x y : Text) → Follows (HasEdge links) a rest b → slice_get (ids packages) a ≡ Some x → slice_get (ids packages) b ≡ Some y → (route : List Text) × Follows (IsLinked packages) x route y
walk_path {packages} index a [] b x y e here there = ([], same_Some x y (sym here ∙ ap (slice_get (ids packages)) e ∙ there))
walk_path {packages} {positions} {links} index a (next ∷ rest) b x y walk here there =
    let step = edge_link packages positions links index.placed index.rows a next x walk.0 here in
    let on = walk_path index next rest b step.0 y walk.1 step.1 there in
    (step.0 ∷ on.0, (step.2, on.1))

pub path_walk : {packages : List PackageMetadata} {positions : BTreeMap Text ℕ} {links back : List (Vec ℕ Global)} → IsIndexed packages positions links back → (a : ℕ) (x : Text) (route : List Text) (y : Text) → Follows (IsLinked packages) x route y → slice_get (ids packages) a ≡ Some x → (b : ℕ) × (slice_get (ids packages) b ≡ Some y) × Walk links a b
path_walk index a x [] y e here = (a, here ∙ ap Some e, ([], refl))
path_walk index a x (next ∷ route) y path here =
    let step = link_edge index a x next path.0 here in
    let on = path_walk index step.0 next route y path.1 step.1 in
    (on.0, on.1, (step.0 ∷ on.2.0, (step.2, on.2.1)))

-- a walk against the edges
pub Walk-reversed : (forth back : List (Vec ℕ Global)) → ((a b : ℕ) → HasEdge forth a b → HasEdge back b a) → (a : ℕ) (rest : List ℕ) (b : ℕ) → Follows (HasEdge forth) a rest b → Walk back b a
Walk-reversed forth back turns a [] b e = ([], sym e)
Walk-reversed forth back turns a (next ∷ rest) b walk = Walk-push back b next a (Walk-reversed forth back turns next rest b walk.1) (turns a next walk.0)

pub rows_stay_below : (packages : List PackageMetadata) (positions : BTreeMap Text ℕ) (links : List (Vec ℕ Global)) → PositionsAre positions (ids packages) → AreRows positions packages links → length links ≡ length packages → EdgesStayBelow (length links) links
rows_stay_below packages positions links placed rows size a b edge =
    let x = element_at (ids packages) a (rw length-map (omega (arith, slice_get_within links a edge.0 edge.1, size))) in
    let y = edge_link packages positions links placed rows a b x.0 edge x.1 in
    omega (arith, slice_get_within (ids packages) b y.0 y.1, size, length-map packages (λ (p : PackageMetadata). p.id))

pub links_stay_below : {packages : List PackageMetadata} {positions : BTreeMap Text ℕ} {links back : List (Vec ℕ Global)} → IsIndexed packages positions links back → EdgesStayBelow (length links) links
links_stay_below {packages} {positions} {links} index = rows_stay_below packages positions links index.placed index.rows index.size

pub back_stays_below : {packages : List PackageMetadata} {positions : BTreeMap Text ℕ} {links back : List (Vec ℕ Global)} → IsIndexed packages positions links back → EdgesStayBelow (length back) back
back_stays_below {packages} {positions} {links} {back} index b a edge =
    let forth = (index.back_edges a b).0 edge in
    omega (arith, slice_get_within links a forth.0 forth.1, index.size, index.back_size)

-- the marks that a search over the links leaves
pub MarksReached-from_search : {packages : List PackageMetadata} {positions : BTreeMap Text ℕ} {links back : List (Vec ℕ Global)} → IsIndexed packages positions links back → (starts : List Bool) (marks : Vec Bool Global) → length starts ≡ length packages → ((k : ℕ) → IsMarked marks.items k ↔ IsReached links starts k) → MarksReached packages starts marks
MarksReached-from_search {packages} {positions} {links} {back} index starts marks size exact id = (
  (λ m.
      let reached = (exact m.0).0 m.2 in
      let x = element_at (ids packages) reached.0 (rw length-map (omega (arith, slice_get_within starts reached.0 true reached.1, size))) in
      (x.0, (reached.0, x.1, reached.1), (Contains-from_position (ids packages) x.0 reached.0 x.1, walk_path index reached.0 reached.2.0 m.0 x.0 id reached.2.1 x.1 m.1))),
  (λ p.
      let walk = path_walk index p.1.0 p.0 p.2.1.0 id p.2.1.1 p.1.1 in
      (walk.0, walk.1, (exact walk.0).1 (p.1.0, p.1.2, walk.2))),
)

pub MarksReaching-from_search : {packages : List PackageMetadata} {positions : BTreeMap Text ℕ} {links back : List (Vec ℕ Global)} → IsIndexed packages positions links back → (ends : List Bool) (marks : Vec Bool Global) → length ends ≡ length packages → ((k : ℕ) → IsMarked marks.items k ↔ IsReached back ends k) → MarksReaching packages ends marks
MarksReaching-from_search {packages} {positions} {links} {back} index ends marks size exact id = (
  (λ m.
      let reached = (exact m.0).0 m.2 in
      let x = element_at (ids packages) reached.0 (rw length-map (omega (arith, slice_get_within ends reached.0 true reached.1, size))) in
      let forth = Walk-reversed back links (λ b a edge. (index.back_edges a b).0 edge) reached.0 reached.2.0 m.0 reached.2.1 in
      (x.0, (reached.0, x.1, reached.1), (Contains-from_position (ids packages) id m.0 m.1, walk_path index m.0 forth.0 reached.0 id x.0 forth.1 m.1 x.1))),
  (λ p.
      let at = position_from_Contains (ids packages) id p.2.0 in
      let walk = path_walk index at.0 id p.2.1.0 p.0 p.2.1.1 at.1 in
      let same : walk.0 ≡ p.1.0 = same_Some walk.0 p.1.0 (sym ((index.placed p.0 walk.0).1 walk.1) ∙ (index.placed p.0 p.1.0).1 p.1.1) in
      let turned = Walk-reversed links back (λ a b edge. (index.back_edges a b).1 edge) at.0 walk.2.0 walk.0 walk.2.1 in
      (at.0, at.1, (exact at.0).1 (p.1.0, p.1.2, subst (λ (k : ℕ). Walk back k at.0) same turned))),
)

-- the same of what a search answered
pub IfOk-MarksReached : {packages : List PackageMetadata} {positions : BTreeMap Text ℕ} {links back : List (Vec ℕ Global)} {E : Type 0} → IsIndexed packages positions links back → (starts : List Bool) (r : Result (Vec Bool Global) E) → length starts ≡ length packages → IfOk r (λ marks. (k : ℕ) → IsMarked marks.items k ↔ IsReached links starts k) → IfOk r (MarksReached packages starts)
IfOk-MarksReached index starts (Ok marks) size exact = MarksReached-from_search index starts marks size exact
IfOk-MarksReached index starts (Err e) size exact = tt

pub IfOk-MarksReaching : {packages : List PackageMetadata} {positions : BTreeMap Text ℕ} {links back : List (Vec ℕ Global)} {E : Type 0} → IsIndexed packages positions links back → (ends : List Bool) (r : Result (Vec Bool Global) E) → length ends ≡ length packages → IfOk r (λ marks. (k : ℕ) → IsMarked marks.items k ↔ IsReached back ends k) → IfOk r (MarksReaching packages ends)
IfOk-MarksReaching index ends (Ok marks) size exact = MarksReaching-from_search index ends marks size exact
IfOk-MarksReaching index ends (Err e) size exact = tt

-- the id at each position that a look-up found, and no other, as the look-up says
abbrev pub IsOnlyPosition : List PackageMetadata → Text → ℕ → Type 0
IsOnlyPosition packages id position = (k : ℕ) → (◌≡◌ {A = Option ℕ} (Some position) (Some k)) ↔ (slice_get (ids packages) k ≡ Some id)

-- what a search from one package says of another
pub reached_from_one : (packages : List PackageMetadata) (a b : Text) (from to : ℕ) (starts : List Bool) (marks : Vec Bool Global) (answer : Bool) → IsOnlyPosition packages a from → IsOnlyPosition packages b to → ((k : ℕ) → IsMarked starts k ↔ (k ≡ from)) → MarksReached packages starts marks → to < length marks.items → answer ≡ get_or marks.items to answer → IsTrue answer ↔ Path packages a b
reached_from_one packages a b from to starts marks answer at_a at_b alone exact within read =
    let here : slice_get (ids packages) from ≡ Some a = (at_a from).0 refl in
    let stands : slice_get marks.items to ≡ Some answer = slice_get-get_or marks.items to answer within ∙ ap Some (sym read) in (
      (λ t.
          let found = (exact b).0 (to, (at_b to).0 refl, stands ∙ ap Some t) in
          subst (λ (x : Text). Path packages x b) (same_Some found.0 a (sym found.1.1 ∙ ap (slice_get (ids packages)) ((alone found.1.0).0 found.1.2) ∙ here)) found.2),
      (λ path.
          let marked = (exact b).1 (a, (from, here, (alone from).1 refl), path) in
          same_Some answer true (sym stands ∙ ap (slice_get marks.items) (same_Some to marked.0 ((at_b marked.0).1 marked.1)) ∙ marked.2)),
    )

-- a look-up that found no position, of an id that no package has
pub no_position : (packages : List PackageMetadata) (id : Text) → ((k : ℕ) → (◌≡◌ {A = Option ℕ} None (Some k)) ↔ (slice_get (ids packages) k ≡ Some id)) → ¬ Contains (ids packages) id
no_position packages id none = λ c. let at = position_from_Contains (ids packages) id c in none-some at.0 ((none at.0).1 at.1)

pub one_position : (packages : List PackageMetadata) (id : Text) (position : ℕ) → IsOnlyPosition packages id position → Contains (ids packages) id
one_position packages id position only = Contains-from_position (ids packages) id position ((only position).0 refl)

pub one_position_within : (packages : List PackageMetadata) (id : Text) (position : ℕ) → IsOnlyPosition packages id position → position < length packages
one_position_within packages id position only =
    omega (arith, slice_get_within (ids packages) position id ((only position).0 refl), length-map packages (λ (p : PackageMetadata). p.id))

-- the package at the position of an id
pub package_of_position : (packages : List PackageMetadata) (id : Text) (position : ℕ) (p : PackageMetadata) → IsOnlyPosition packages id position → p ≡ get_or packages position p → Contains packages p × (p.id ≡ id)
package_of_position packages id position p only read =
    let at : slice_get packages position ≡ Some p = slice_get-get_or packages position p (one_position_within packages id position only) ∙ ap Some (sym read) in
    (Contains-from_position packages p position at, same_Some p.id id (sym (mapped_at (λ (q : PackageMetadata). q.id) packages position p at) ∙ (only position).0 refl))
