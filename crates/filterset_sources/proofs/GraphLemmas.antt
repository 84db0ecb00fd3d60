-- Positions of ids, and packages that are linked.
use Rattle.std.proofs.Common.{◌≡◌, ℕ, ◌+◌, ◌<◌, ◌≤◌, inl, inr, Bool, true, false, cond, List, [], ◌∷◌, ◌++◌, length, get_or, map, take, Option, Some, None, is_some, refl, sym, ◌∙◌, ap, subst, arith, append-nil}
use Rattle.std.specs.Prelude.{All, Contains, MatchOption, codes, not, slice_get}
use Rattle.std.specs.{BTreeMap.BTreeMap, Cmp.Lexicographic.slice_cmp, Ordering.is_eq, Ordering.nat_cmp}
use Rattle.std.proofs.lemmas.List.{map-append, take-map, take_more, take_all, length-take-le}
use Rattle.std.proofs.lemmas.List.Elements.{All-contains, All-map, All-more, All-push, All-weaker}
use Rattle.std.proofs.lemmas.Option.{none-some, slice_get-get_or, slice_get_within, get_or_from_slice_get}
use Rattle.filterset_graph.specs.Index.{PositionsAre, index_of}
use Rattle.filterset_graph.specs.Packages.{Text, AllDiffer, IsFirstRepeat, IsUnknownLink, LinksKnown, ids}
use Rattle.filterset_graph.specs.declared.package.PackageMetadata.{PackageMetadata}
use Rattle.filterset_graph.proofs.Positions.{position_from_Contains, Contains-from_position, element_from_mapped, mapped_at}
use Rattle.filterset_graph.proofs.Rows.{PositionsAre-IsFirstRepeat, PositionsAre-push}
use Rattle.filterset_sources.specs.Metadata.{AreLinked, HasLinksOf, IsGraphOf, IsKnown, IsLinkedAs, IsPlaced, IsWhole, NamesOnly, Repeats, Unknown, UnknownIn, UnknownNode, itself, link_path, links_of, node_ids}
use Rattle.filterset_sources.specs.Shape.{item_path}
use Rattle.filterset_sources.specs.declared.metadata.parts.{Node.Node, Parts.Parts}
use Rattle.filterset_json.specs.Places.{IsFirstNot, Place}

some_of : (o : Option ℕ) → is_some o ≡ true → (k : ℕ) × (o ≡ Some k)
some_of (Some k) e = (k, refl)
some_of None e = absurd (cc)

none_of : (o : Option ℕ) → is_some o ≡ false → o ≡ None
none_of (Some k) e = absurd (cc)
none_of None e = refl

-- an id whose look-up found an earlier position stands twice, and no id before it does
pub repeated_at : (names : List Text) (at : ℕ) (id key : Text) (positions : BTreeMap Text ℕ) (earlier : Option ℕ) → at < length names → id ≡ get_or names at id → key ≡ id → PositionsAre positions (take at names) → earlier ≡ index_of positions key → is_some earlier ≡ true → IsFirstRepeat names at
repeated_at names at id key positions earlier within read copy placed old found =
    let k = some_of earlier found in
    let here : slice_get names at ≡ Some id = slice_get-get_or names at id within ∙ ap Some (sym read) in
    PositionsAre-IsFirstRepeat positions names at id k.0 placed here (ap (index_of positions) (sym copy) ∙ sym old ∙ k.1)

-- an id whose look-up found none has its own position now
pub placed_more : (names : List Text) (at : ℕ) (id key : Text) (old new : BTreeMap Text ℕ) (earlier : Option ℕ) → at < length names → id ≡ get_or names at id → key ≡ id → PositionsAre old (take at names) → earlier ≡ index_of old key → is_some earlier ≡ false → ((q : Text) → index_of new q ≡ cond (is_eq (slice_cmp nat_cmp key q)) (Some at) (index_of old q)) → PositionsAre new (take (at + 1) names)
placed_more names at id key old new earlier within read copy placed found missing updates =
    let long : length (take at names) ≡ at = length-take-le at names (omega (arith, within)) in
    let here : slice_get names at ≡ Some id = slice_get-get_or names at id within ∙ ap Some (sym read) in
    let named : get_or names at [] ≡ key = get_or_from_slice_get names at key [] (here ∙ ap Some (sym copy)) in
    rw (take_more names at [] within, named)
    (PositionsAre-push old new (take at names) key (sym found ∙ none_of earlier missing) (λ q. rw long (updates q)) placed)

-- an id has a position exactly where it stands in the list
pub IsKnown-Contains : (positions : BTreeMap Text ℕ) (names : List Text) (id : Text) → PositionsAre positions names → IsKnown positions id → Contains names id
IsKnown-Contains positions names id placed known =
    let k = some_of (index_of positions id) known in
    Contains-from_position names id k.0 ((placed id k.0).0 k.1)

pub Contains-IsKnown : (positions : BTreeMap Text ℕ) (names : List Text) (id : Text) → PositionsAre positions names → Contains names id → IsKnown positions id
Contains-IsKnown positions names id placed found =
    let k = position_from_Contains names id found in
    ap is_some ((placed id k.0).1 k.1)

-- the first element of which P does not hold
pub first_not : {X : Type 0} (P : X → Type 0) (xs : List X) (i : ℕ) (x : X) → i < length xs → x ≡ get_or xs i x → All P (take i xs) → (P x → ⊥) → IsFirstNot P xs i x
first_not P xs i x lt is all refuted = (slice_get-get_or xs i x lt ∙ ap Some (sym is), all, refuted)

first_not-if : {X : Type 0} (P Q : X → Type 0) (xs : List X) (i : ℕ) (x : X) → ((y : X) → P y → Q y) → ((y : X) → Q y → P y) → IsFirstNot P xs i x → IsFirstNot Q xs i x
first_not-if P Q xs i x to back (at, all, refuted) = (at, All-weaker P Q to (take i xs) all, λ q. refuted (back x q))

pub first_not-mapped : {X Y : Type 0} (P : Y → Type 0) (f : X → Y) (xs : List X) (i : ℕ) (x : X) → IsFirstNot (λ y. P (f y)) xs i x → IsFirstNot P (map f xs) i (f x)
first_not-mapped P f xs i x (at, all, refuted) = (mapped_at f xs i x at, subst (All P) (sym (take-map f i xs)) (All-map P f (take i xs) all), refuted)

-- the same ids are unknown by another test
pub Unknown-if : (P Q : Text → Type 0) (path : ℕ → Text) (names : List Text) (place : Place) → ((y : Text) → P y → Q y) → ((y : Text) → Q y → P y) → Unknown P path names place → Unknown Q path names place
Unknown-if P Q path names place to back (at, id, first, is) = (at, id, first_not-if P Q names at id to back first, is)

NamesOnly-if : (P Q : Text → Type 0) → ((y : Text) → P y → Q y) → (node : Node) → NamesOnly P node → NamesOnly Q node
NamesOnly-if P Q to node h = (to node.id h.0, All-weaker P Q to (links_of node) h.1)

UnknownIn-if : (P Q : Text → Type 0) (at : ℕ) (node : Node) (place : Place) → ((y : Text) → P y → Q y) → ((y : Text) → Q y → P y) → UnknownIn P at node place → UnknownIn Q at node place
UnknownIn-if P Q at node place to back (inl wrong) = inl (wrong.0, λ q. wrong.1 (back node.id q))
UnknownIn-if P Q at node place to back (inr wrong) = inr (to node.id wrong.0, Unknown-if P Q (link_path at) (links_of node) place to back wrong.1)

pub UnknownNode-if : (P Q : Text → Type 0) (nodes : List Node) (place : Place) → ((y : Text) → P y → Q y) → ((y : Text) → Q y → P y) → UnknownNode P nodes place → UnknownNode Q nodes place
UnknownNode-if P Q nodes place to back (at, node, first, wrong) =
    (at, node, first_not-if (NamesOnly P) (NamesOnly Q) nodes at node (NamesOnly-if P Q to) (NamesOnly-if Q P back) first, UnknownIn-if P Q at node place to back wrong)

-- a node that names what is unknown does not only name what is known
pub UnknownIn-not : (P : Text → Type 0) (at : ℕ) (node : Node) (place : Place) → UnknownIn P at node place → NamesOnly P node → ⊥
UnknownIn-not P at node place (inl wrong) names = wrong.1 names.0
UnknownIn-not P at node place (inr (known, (k, id, first, is))) names = first.2 (All-contains P (links_of node) id names.1 (Contains-from_position (links_of node) id k first.0))

-- paths to items of a list that are the items themselves
pub Repeats-items : (list : Text) (names : List Text) (place : Place) → Repeats (λ at. item_path list at ++ []) names place → Repeats (item_path list) names place
Repeats-items list names place (at, first, is) = (at, first, is ∙ ap (λ (path : Text). (path, codes "an id that no package before it has")) (append-nil (item_path list at)))

-- what holds of the elements so far and of the next
pub All-next : {X : Type 0} (P : X → Type 0) (xs : List X) (i : ℕ) (x : X) → i < length xs → x ≡ get_or xs i x → All P (take i xs) → P x → All P (take (i + 1) xs)
All-next P xs i x lt is all p = All-more P xs i x lt all (subst P is p)

-- what holds of as many elements as there are
pub All-done : {X : Type 0} (P : X → Type 0) (xs : List X) (i : ℕ) → length xs ≤ i → All P (take i xs) → All P xs
All-done P xs i le all = subst (All P) (take_all i xs le) all

-- a link that names no package is not among links that do
pub unknown-link : (ps : List PackageMetadata) (owner link : ℕ) → IsUnknownLink ps owner link → LinksKnown ps → ⊥
unknown-link ps owner link (p, id, at, here, unknown) known =
    unknown (All-contains (Contains (ids ps)) p.links.items id (All-contains (λ (q : PackageMetadata). All (Contains (ids ps)) q.links.items) ps p known (Contains-from_position ps p owner at)) (Contains-from_position p.links.items id link here))

-- members and nodes that are known stand in the list
pub members-Contained : (positions : BTreeMap Text ℕ) (names members : List Text) → PositionsAre positions names → All (IsKnown positions) members → All (Contains names) members
members-Contained positions names members placed h = All-weaker (IsKnown positions) (Contains names) (λ id. IsKnown-Contains positions names id placed) members h

pub nodes-Contained : (positions : BTreeMap Text ℕ) (names : List Text) (nodes : List Node) → PositionsAre positions names → All (NamesOnly (IsKnown positions)) nodes → All (NamesOnly (Contains names)) nodes
nodes-Contained positions names nodes placed h =
    All-weaker (NamesOnly (IsKnown positions)) (NamesOnly (Contains names)) (NamesOnly-if (IsKnown positions) (Contains names) (λ id. IsKnown-Contains positions names id placed)) nodes h

-- the links of an id with a position are those of the node there
pub links-found : (positions : BTreeMap Text ℕ) (nodes : List Node) (id : Text) (at : ℕ) → PositionsAre positions (node_ids nodes) → index_of positions id ≡ Some at → at < length nodes
links-found positions nodes id at placed found =
    let e = element_from_mapped (λ (node : Node). node.id) nodes at id ((placed id at).0 found) in
    slice_get_within nodes at e.0 e.1

pub links-of_node : (positions : BTreeMap Text ℕ) (nodes : List Node) (id : Text) (at : ℕ) (node : Node) (links : List Text) → PositionsAre positions (node_ids nodes) → index_of positions id ≡ Some at → node ≡ get_or nodes at node → links ≡ links_of node → HasLinksOf nodes id links
links-of_node positions nodes id at node links placed found read are =
    let e = element_from_mapped (λ (n : Node). n.id) nodes at id ((placed id at).0 found) in
    let same : node ≡ e.0 = read ∙ get_or_from_slice_get nodes at e.0 node e.1 in
    inl (node, subst (Contains nodes) (sym same) (Contains-from_position nodes e.0 at e.1), ap (λ (n : Node). n.id) same ∙ e.2, are)

pub links-of_none : (positions : BTreeMap Text ℕ) (nodes : List Node) (id : Text) (links : List Text) → PositionsAre positions (node_ids nodes) → index_of positions id ≡ None → links ≡ [] → HasLinksOf nodes id links
links-of_none positions nodes id links placed none are =
    inr ((λ found. let k = position_from_Contains (node_ids nodes) id found in none-some k.0 (sym none ∙ (placed id k.0).1 k.1)), are)

-- one more package that is linked
pub linked_push : (members : BTreeMap Text ℕ) (nodes : List Node) (all yielded : List PackageMetadata) (p q : PackageMetadata) → AreLinked members nodes yielded all → itself q ≡ itself p → IsLinkedAs members nodes q → AreLinked members nodes (yielded ++ p ∷ []) (all ++ q ∷ [])
linked_push members nodes all yielded p q h same linked = (
  map-append itself all (q ∷ []) ∙ ap (λ t. t ++ itself q ∷ []) h.0 ∙ ap (λ e. map itself yielded ++ e ∷ []) same ∙ sym (map-append itself yielded (p ∷ [])),
  All-push (IsLinkedAs members nodes) all q h.1 linked,
)

-- packages that are linked are a graph of the parts
linked-placed : (members : BTreeMap Text ℕ) (names : List Text) (nodes : List Node) → PositionsAre members names → (p : PackageMetadata) → IsLinkedAs members nodes p → IsPlaced names nodes p
linked-placed members names nodes placed p h = (
  ((λ yes. IsKnown-Contains members names p.id placed (h.0.0 yes)), (λ found. h.0.1 (Contains-IsKnown members names p.id placed found))),
  h.1,
)

pub linked-graph : (members : BTreeMap Text ℕ) (parts : Parts) (all : List PackageMetadata) → PositionsAre members parts.members.items → AreLinked members parts.resolve.nodes.items parts.packages.items all → IsGraphOf parts all
linked-graph members parts all placed h =
    (h.0, All-weaker (IsLinkedAs members parts.resolve.nodes.items) (IsPlaced parts.members.items parts.resolve.nodes.items) (linked-placed members parts.members.items parts.resolve.nodes.items placed) all h.1)

-- the same packages have the same ids
ids-itself : (ps : List PackageMetadata) → ids ps ≡ map (λ p. p.0) (map itself ps)
ids-itself [] = refl
ids-itself (p ∷ ps) = ap (λ t. p.id ∷ t) (ids-itself ps)

pub same_ids : (ps qs : List PackageMetadata) → map itself ps ≡ map itself qs → ids ps ≡ ids qs
same_ids ps qs h = ids-itself ps ∙ ap (map (λ p. p.0)) h ∙ sym (ids-itself qs)

-- all links of a graph of whole parts name packages
links-known : (known : List Text) (nodes : List Node) (id : Text) (links : List Text) → All (NamesOnly (Contains known)) nodes → HasLinksOf nodes id links → All (Contains known) links
links-known known nodes id links named (inl (node, found, same, are)) = rw are (All-contains (NamesOnly (Contains known)) nodes node named found).1
links-known known nodes id links named (inr (none, are)) = rw are (λ k d lt. absurd (omega arith))

pub whole-graph : (parts : Parts) (all : List PackageMetadata) → IsWhole parts → IsGraphOf parts all → AllDiffer (ids all) × LinksKnown all
whole-graph parts all whole graph =
    let same : ids all ≡ ids parts.packages.items = same_ids all parts.packages.items graph.0 in (
      rw same whole.0,
      All-weaker (IsPlaced parts.members.items parts.resolve.nodes.items) (λ p. All (Contains (ids all)) p.links.items) (λ p placed. rw same (links-known (ids parts.packages.items) parts.resolve.nodes.items p.id p.links.items whole.4 placed.1)) all graph.1,
    )

-- an id that was looked up and not found has no position
pub not_known : (tested : Bool) (position : Option ℕ) → tested ≡ is_some position → tested ≡ false → is_some position ≡ true → ⊥
not_known tested position looked missing found = absurd (cc (looked, missing, found))

-- what an answer that may be missing says
pub missing_says : {X : Type 0} (o : Option X) (N : Type 0) (P : X → Type 0) (tested : Bool) → MatchOption o N P → is_some o ≡ not tested → tested ≡ true → N
missing_says None N P tested says looked is = says
missing_says (Some x) N P true says looked is = absurd (cc looked)
missing_says (Some x) N P false says looked is = absurd (cc is)

pub found_says : {X : Type 0} (o : Option X) (N : Type 0) (P : X → Type 0) (tested : Bool) → MatchOption o N P → is_some o ≡ not tested → tested ≡ false → (x : X) × P x
found_says None N P true says looked is = absurd (cc is)
found_says None N P false says looked is = absurd (cc looked)
found_says (Some x) N P tested says looked is = (x, says)

-- the id of a package is among the ids
pub Contains-id : (ps : List PackageMetadata) (p : PackageMetadata) (id : Text) → Contains ps p → p.id ≡ id → Contains (ids ps) id
Contains-id ps p id found same =
    let k = position_from_Contains ps p found in
    Contains-from_position (ids ps) id k.0 (mapped_at (λ (q : PackageMetadata). q.id) ps k.0 p k.1 ∙ ap Some same)
