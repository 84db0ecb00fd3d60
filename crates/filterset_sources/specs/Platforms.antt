-- The platforms for which nextest's list was built.
use Rattle.std.specs.Prelude.{◌≡◌, List, [], ◌∷◌, Option, None, Some, MatchOption, codes, map, option_map, string_bytes, unwrap_or}
use Rattle.std.specs.Option.{option_map_or}
use Rattle.serde_json.specs.{Data.Data, Data.null, Find.get}
use Rattle.filterset_json.specs.Places.{First, Itself, Place, WrongIfGiven, WrongList, WrongMember}
use Rattle.filterset_json.specs.Shape.{Text, IsListOf, IsNullOr, IsText, Required}
use Rattle.filterset_sources.specs.declared.platforms.{BuildPlatforms.BuildPlatforms, ListedPlatforms.ListedPlatforms}

-- P holds of what stands at the end of these keys, each below the one before, and the entry; there is none if one is missing
abbrev pub GivenAt : {A : Type 0} → List Text → (Data → A → Type 0) → Data → Option A → Type 0
GivenAt [] P d x = IsNullOr P d x
GivenAt (key ∷ keys) P d x = MatchOption (get key d) (x ≡ None) (λ e. GivenAt keys P e x)

-- what stands there is wrong
abbrev pub WrongAt : List Text → (Data → Place → Type 0) → Data → Place → Type 0
WrongAt [] W d place = W d place × ¬ (d ≡ null)
WrongAt (key ∷ keys) W d place = WrongIfGiven key (WrongAt keys W) d place

abbrev pub part_at : {A : Type 0} → List Text → (Data → A → Type 0) → (Data → Place → Type 0) → Data → Type 0 × (Place → Type 0)
part_at {A} keys P W d = ((x : Option A) × GivenAt keys P d x, WrongAt keys W d)

-- a platform has this triple
abbrev pub HasTriple : Data → Text → Type 0
HasTriple = Required (codes "triple") IsText

abbrev pub WrongTriple : Data → Place → Type 0
WrongTriple = WrongMember (codes "triple") (Itself IsText (codes "a text"))

-- the host, or a target, has a platform with this triple
abbrev pub HasPlatform : Data → Text → Type 0
HasPlatform = Required (codes "platform") HasTriple

abbrev pub WrongPlatform : Data → Place → Type 0
WrongPlatform = WrongMember (codes "platform") WrongTriple

-- the only one of these triples, or another where there is none; of several it is not known which
abbrev pub only : Option Text → List Text → Option Text
only other [] = other
only other (triple ∷ []) = Some triple
only other (triple ∷ next ∷ rest) = None

-- the host and the target: as `platforms` has them, which has no target where that is the host; or, of an older list, the
-- target of `target-platforms` or `target-platform`
abbrev pub ArePlatforms : Data → BuildPlatforms → Type 0
ArePlatforms d built = let host = option_map (λ s. string_bytes s) built.host in
    (targets : Option (List Text)) × (older : Option (List Text)) × (oldest : Option Text)
    × GivenAt (codes "rust-build-meta" ∷ codes "platforms" ∷ codes "host" ∷ []) HasPlatform d host
    × GivenAt (codes "rust-build-meta" ∷ codes "platforms" ∷ codes "targets" ∷ []) (IsListOf HasPlatform) d targets
    × GivenAt (codes "rust-build-meta" ∷ codes "target-platforms" ∷ []) (IsListOf HasTriple) d older
    × GivenAt (codes "rust-build-meta" ∷ codes "target-platform" ∷ []) IsText d oldest
    × (option_map (λ s. string_bytes s) built.target ≡ option_map_or (only host) targets (only oldest (unwrap_or older [])))

-- the first of them that is wrong
abbrev pub WrongPlatforms : Data → Place → Type 0
WrongPlatforms d = First (part_at (codes "rust-build-meta" ∷ codes "platforms" ∷ codes "host" ∷ []) HasPlatform WrongPlatform d
    ∷ part_at (codes "rust-build-meta" ∷ codes "platforms" ∷ codes "targets" ∷ []) (IsListOf HasPlatform)
    (WrongList HasPlatform WrongPlatform) d
    ∷ part_at (codes "rust-build-meta" ∷ codes "target-platforms" ∷ []) (IsListOf HasTriple) (WrongList HasTriple WrongTriple) d
    ∷ part_at (codes "rust-build-meta" ∷ codes "target-platform" ∷ []) IsText (Itself IsText (codes "a text")) d ∷ [])

-- what a list has of platforms, by their triples
abbrev pub host_row : ListedPlatforms → Option Text
host_row listed = option_map (λ t. string_bytes t.0) listed.host

abbrev pub targets_row : ListedPlatforms → Option (List Text)
targets_row listed = option_map (λ ts. map (λ t. string_bytes t.0) ts.items) listed.targets

abbrev pub older_row : ListedPlatforms → Option (List Text)
older_row listed = option_map (λ ts. map (λ t. string_bytes t.0) ts.items) listed.older

abbrev pub oldest_row : ListedPlatforms → Option Text
oldest_row listed = option_map (λ t. string_bytes t) listed.oldest

abbrev pub AreListed : Data → ListedPlatforms → Type 0
AreListed d listed =
    GivenAt (codes "rust-build-meta" ∷ codes "platforms" ∷ codes "host" ∷ []) HasPlatform d (host_row listed)
    × GivenAt (codes "rust-build-meta" ∷ codes "platforms" ∷ codes "targets" ∷ []) (IsListOf HasPlatform) d (targets_row listed)
    × GivenAt (codes "rust-build-meta" ∷ codes "target-platforms" ∷ []) (IsListOf HasTriple) d (older_row listed)
    × GivenAt (codes "rust-build-meta" ∷ codes "target-platform" ∷ []) IsText d (oldest_row listed)

-- the target of an older list, and of any
abbrev pub older_target : ListedPlatforms → Option Text
older_target listed = only (oldest_row listed) (unwrap_or (older_row listed) [])

abbrev pub target_row : ListedPlatforms → Option Text
target_row listed = option_map_or (only (host_row listed)) (targets_row listed) (older_target listed)
