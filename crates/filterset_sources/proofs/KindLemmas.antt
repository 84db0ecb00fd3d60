-- The kinds of a target.
use Rattle.std.proofs.Common.{◌≡◌, ◌<◌, List, [], ◌∷◌, length, map, Global, String, string_bytes, subst, arith}
use Rattle.serde_json.specs.Data.{Data, array, no_items, item}
use Rattle.filterset_graph.specs.declared.package.BuildTargetId.{BuildTargetId}
use Rattle.filterset_json.specs.Shape.{Each, IsListOf, IsText, Text}
use Rattle.filterset_sources.specs.Metadata.{IsOfKinds, IsTargetKind}

empty_kinds : (kinds : List Text) (id : BuildTargetId) → Each IsText no_items kinds → IsOfKinds kinds id → ⊥
empty_kinds [] id each of = of
empty_kinds (kind ∷ kinds) id each of = each

no_kinds : (d : Data) (id : BuildTargetId) → IsListOf IsText d [] → IsTargetKind d id → ⊥
no_kinds d id (no_items, is, none) (kinds, (es, same, each), of) =
    let empty : es ≡ no_items = cc in
    empty_kinds kinds id (subst (λ x. Each IsText x kinds) empty each) of
no_kinds d id (item e es, is, none) kinds = none

-- an empty list stands for no kind of targets
pub no_kind_of : (d : Data) (texts : List (String Global)) → length texts < 1 → IsListOf IsText d (map string_bytes texts) →
    (id : BuildTargetId) × IsTargetKind d id → ⊥
no_kind_of d [] less list (id, kinds) = no_kinds d id list kinds
no_kind_of d (text ∷ texts) less list fact = absurd (omega arith)

-- an empty list has no items
pub empty_list : (d : Data) (texts : List (String Global)) → length texts < 1 → IsListOf IsText d (map string_bytes texts) → d ≡ array no_items
empty_list d [] less (no_items, is, none) = is
empty_list d [] less (item e es, is, none) = absurd none
empty_list d (text ∷ texts) less list = absurd (omega arith)
