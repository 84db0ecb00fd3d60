-- What cargo writes of packages.
use Rattle.std.specs.Prelude.{◌≡◌, ◌↔◌, ◌⊎◌, ◌++◌, ℕ, List, [], ◌∷◌, All, Contains, IsSome, IsTrue, String, Vec, codes, decimal, map, string_bytes}
use Rattle.std.specs.{BTreeMap.BTreeMap, Global.Global}
use Rattle.serde_json.specs.Data.{Data, array, no_items, null}
use Rattle.filterset_graph.specs.{Index.index_of, Packages.ids, Packages.AllDiffer, Packages.IsFirstRepeat}
use Rattle.filterset_graph.specs.declared.package.{BuildTarget.BuildTarget, BuildTargetId.BuildTargetId}
use Rattle.filterset_graph.specs.declared.package.BuildTargetId.TheVariants.{Library, Binary, Example, Test, Benchmark, BuildScript}
use Rattle.filterset_graph.specs.declared.package.PackageMetadata.{PackageMetadata}
use Rattle.filterset_json.specs.Places.{First, IsFirstNot, Itself, Place, WrongList, WrongMember, keyed, keyed_list, keyed_text}
use Rattle.filterset_json.specs.Shape.{Text, IsText, IsListOf, Required}
use Rattle.filterset_sources.specs.{Refusals.Refuses, Shape.item_path}
use Rattle.filterset_sources.specs.declared.{refusal.SourceRefusal.SourceRefusal, metadata.parts.Dependency.Dependency}
use Rattle.filterset_sources.specs.declared.metadata.parts.{Node.Node, Parts.Parts, Resolve.Resolve}

-- a kind of targets that is no kind of libraries
abbrev pub IsNamed : Text → BuildTargetId → Type 0
IsNamed kind Library = ⊥
IsNamed kind Binary = kind ≡ codes "bin"
IsNamed kind Example = kind ≡ codes "example"
IsNamed kind Test = kind ≡ codes "test"
IsNamed kind Benchmark = kind ≡ codes "bench"
IsNamed kind BuildScript = kind ≡ codes "custom-build"

-- what a target with these kinds is: a library may have several, each with a name of its own
abbrev pub IsOfKinds : List Text → BuildTargetId → Type 0
IsOfKinds [] id = ⊥
IsOfKinds (kind ∷ []) id = IsNamed kind id ⊎ ((id ≡ Library) × ((other : BuildTargetId) → ¬ IsNamed kind other))
IsOfKinds (kind ∷ next ∷ rest) id = id ≡ Library

-- the value lists the kinds of such a target
abbrev pub IsTargetKind : Data → BuildTargetId → Type 0
IsTargetKind d id = (kinds : List Text) × IsListOf IsText d kinds × IsOfKinds kinds id

abbrev pub IsTarget : Data → BuildTarget → Type 0
IsTarget d t = Required (codes "kind") IsTargetKind d t.id × Required (codes "name") IsText d (string_bytes t.name)

-- id, name and targets of a package
abbrev pub IsPackage : Data → PackageMetadata → Type 0
IsPackage d p = Required (codes "id") IsText d p.id × Required (codes "name") IsText d (string_bytes p.name)
    × Required (codes "targets") (IsListOf IsTarget) d p.build_targets.items

-- a dependency on the package with this id
abbrev pub IsDependency : Data → Dependency → Type 0
IsDependency d dependency = Required (codes "pkg") IsText d dependency.package

-- a package of the graph of dependencies, with those that it depends on
abbrev pub IsNode : Data → Node → Type 0
IsNode d n = Required (codes "id") IsText d n.id × Required (codes "deps") (IsListOf IsDependency) d n.dependencies.items

abbrev pub IsResolve : Data → Resolve → Type 0
IsResolve d resolve = Required (codes "nodes") (IsListOf IsNode) d resolve.nodes.items

abbrev pub IsParts : Data → Parts → Type 0
IsParts d parts = Required (codes "packages") (IsListOf IsPackage) d parts.packages.items
    × Required (codes "workspace_members") (IsListOf IsText) d parts.members.items
    × Required (codes "resolve") IsResolve d parts.resolve

-- the ids of the packages that a node depends on
abbrev pub links_of : Node → List Text
links_of node = map (λ dependency. dependency.package) node.dependencies.items

-- the ids of the nodes
abbrev pub node_ids : List Node → List Text
node_ids nodes = map (λ node. node.id) nodes

-- P holds of all ids that a node names
abbrev pub NamesOnly : (Text → Type 0) → Node → Type 0
NamesOnly P node = P node.id × All P (links_of node)

-- no id stands twice where it may stand once, and all that is named are packages
abbrev pub IsWhole : Parts → Type 0
IsWhole parts = AllDiffer (ids parts.packages.items) × AllDiffer parts.members.items
    × AllDiffer (node_ids parts.resolve.nodes.items)
    × All (Contains (ids parts.packages.items)) parts.members.items
    × All (NamesOnly (Contains (ids parts.packages.items))) parts.resolve.nodes.items

-- the links of the package with this id: those of its node, none where it has no node
abbrev pub HasLinksOf : List Node → Text → List Text → Type 0
HasLinksOf nodes id links = ((node : Node) × Contains nodes node × (node.id ≡ id) × (links ≡ links_of node))
    ⊎ ((¬ Contains (node_ids nodes) id) × (links ≡ []))

-- what a package is by itself
abbrev pub itself : PackageMetadata → Text × String Global × Vec BuildTarget Global
itself p = (p.id, p.name, p.build_targets)

-- the package is in the workspace exactly where it is one of the members, and has the links of its node
abbrev pub IsPlaced : List Text → List Node → PackageMetadata → Type 0
IsPlaced members nodes p = (IsTrue p.in_workspace ↔ Contains members p.id) × HasLinksOf nodes p.id p.links.items

-- the same packages, each at its position
abbrev pub IsGraphOf : Parts → List PackageMetadata → Type 0
IsGraphOf parts packages = (map itself packages ≡ map itself parts.packages.items)
    × All (IsPlaced parts.members.items parts.resolve.nodes.items) packages

-- the packages are what cargo's metadata say
abbrev pub IsMetadata : Data → List PackageMetadata → Type 0
IsMetadata d packages = (parts : Parts) × IsParts d parts × IsWhole parts × IsGraphOf parts packages

-- the first place of a target, of a package and so on that is wrong
abbrev pub WrongKind : Data → Place → Type 0
WrongKind d place = WrongList IsText (Itself IsText (codes "a text")) d place
    ⊎ ((d ≡ array no_items) × (place ≡ ([], codes "a list of at least one text")))

abbrev pub WrongTarget : Data → Place → Type 0
WrongTarget d = First (keyed (codes "kind") IsTargetKind WrongKind d ∷ keyed_text (codes "name") d ∷ [])

abbrev pub WrongPackage : Data → Place → Type 0
WrongPackage d = First (keyed_text (codes "id") d ∷ keyed_text (codes "name") d ∷ keyed_list (codes "targets") IsTarget WrongTarget d ∷ [])

abbrev pub WrongNode : Data → Place → Type 0
WrongNode d = First (keyed_text (codes "id") d
    ∷ keyed_list (codes "deps") IsDependency (λ e. First (keyed_text (codes "pkg") e ∷ [])) d ∷ [])

abbrev pub WrongResolve : Data → Place → Type 0
WrongResolve d place = ((d ≡ null) × (place ≡ ([], codes "an object: `cargo metadata` writes it without `--no-deps`")))
    ⊎ ((¬ (d ≡ null)) × WrongMember (codes "nodes") (WrongList IsNode WrongNode) d place)

abbrev pub WrongParts : Data → Place → Type 0
WrongParts d = First (keyed_list (codes "packages") IsPackage WrongPackage d
    ∷ keyed_list (codes "workspace_members") IsText (Itself IsText (codes "a text")) d
    ∷ keyed (codes "resolve") IsResolve WrongResolve d ∷ [])

-- the first id that stands at an earlier position too, by the paths of positions
abbrev pub Repeats : (ℕ → Text) → List Text → Place → Type 0
Repeats path names place = (at : ℕ) × IsFirstRepeat names at × (place ≡ (path at, codes "an id that no package before it has"))

-- the first id of which P does not hold
abbrev pub Unknown : (Text → Type 0) → (ℕ → Text) → List Text → Place → Type 0
Unknown P path names place = (at : ℕ) × (id : Text) × IsFirstNot P names at id
    × (place ≡ (path at, codes "the id of one of the packages"))

-- the paths to the id of a node, and to that of a dependency of it
abbrev pub node_path : ℕ → Text
node_path node = item_path (codes "resolve.nodes") node ++ codes ".id"

abbrev pub link_path : ℕ → ℕ → Text
link_path node link = item_path (codes "resolve.nodes[" ++ (decimal node ++ codes "].deps")) link ++ codes ".pkg"

-- the first id that the node at a position names of which P does not hold, its own first
abbrev pub UnknownIn : (Text → Type 0) → ℕ → Node → Place → Type 0
UnknownIn P at node place = ((place ≡ (node_path at, codes "the id of one of the packages")) × ¬ P node.id)
    ⊎ (P node.id × Unknown P (link_path at) (links_of node) place)

-- the same of the first node that names such an id
abbrev pub UnknownNode : (Text → Type 0) → List Node → Place → Type 0
UnknownNode P nodes place = (at : ℕ) × (node : Node) × IsFirstNot (NamesOnly P) nodes at node × UnknownIn P at node place

-- the first place where parts are not whole
abbrev pub WrongWhole : List Text → List Text → List Node → Place → Type 0
WrongWhole known members nodes = First ((AllDiffer known, Repeats (λ at. item_path (codes "packages") at ++ codes ".id") known)
    ∷ (All (Contains known) members, Unknown (Contains known) (item_path (codes "workspace_members")) members)
    ∷ (All (NamesOnly (Contains known)) nodes, UnknownNode (Contains known) nodes)
    ∷ (AllDiffer members, Repeats (item_path (codes "workspace_members")) members)
    ∷ (AllDiffer (node_ids nodes), Repeats node_path (node_ids nodes)) ∷ [])

-- a value of the file is wrong, the first one: of its parts, or else where they are not whole; or it is out of memory
abbrev pub RefusesMetadata : Data → SourceRefusal → Type 0
RefusesMetadata d = Refuses (λ place. WrongParts d place ⊎ ((parts : Parts) × IsParts d parts
    × WrongWhole (ids parts.packages.items) parts.members.items parts.resolve.nodes.items place))

-- the id has a position
abbrev pub IsKnown : BTreeMap Text ℕ → Text → Type 0
IsKnown known id = IsSome (index_of known id)

-- the same packages, each with its links, and in the workspace where its id is known as a member
abbrev pub IsLinkedAs : BTreeMap Text ℕ → List Node → PackageMetadata → Type 0
IsLinkedAs members nodes p = (IsTrue p.in_workspace ↔ IsKnown members p.id) × HasLinksOf nodes p.id p.links.items

abbrev pub AreLinked : BTreeMap Text ℕ → List Node → List PackageMetadata → List PackageMetadata → Type 0
AreLinked members nodes packages all = (map itself all ≡ map itself packages) × All (IsLinkedAs members nodes) all
