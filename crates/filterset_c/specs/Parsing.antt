-- What is parsed for C.
use Rattle.std.specs.Prelude.{◌≡◌, ◌≢◌, ◌==◌, ◌<◌, ◌≤◌, ◌⊎◌, ℕ, List, Option, None, Some, Result, Ok, Err, String, length, slice_index, string_bytes, if◌then◌else◌}
use Rattle.std.specs.declared.alloc.Global.{Global}
use Rattle.filterset_expression.specs.Expression as leaves
use Rattle.filterset_expression.specs.{Expression.formula, Meaning.IsCompiled}
use Rattle.filterset_expression.specs.declared.expression.CompiledExpr.{CompiledExpr}
use Rattle.filterset_expression.specs.Formula as formulas
use Rattle.filterset_faults.specs.declared.kind.FiltersetKind.{FiltersetKind}
use Rattle.filterset_faults.specs.declared.kind.FiltersetKind.TheVariants.{Test, TestArchive, OverrideFilter, DefaultFilter}
use Rattle.filterset_faults.specs.declared.span.SourceSpan.{SourceSpan}
use Rattle.filterset_grammar.specs.{Grammar.Spells, Tree.Tree}
use Rattle.filterset_language.specs.Views.{tree_of}
use Rattle.filterset_rewriting.specs.Nesting.Depth.{depth}
use Rattle.nextest_filtering.specs.Compiling.{IsFiltersetOf, IsRefusedWith}
use Rattle.nextest_filtering.specs.declared.filterset.Filterset.{Filterset}
use Rattle.filterset_c.specs.Statuses.{status_code}
use Rattle.filterset_c.specs.declared.failure.Failure.{Failure, TheVariants.OutOfMemory, TheVariants.Rejected}
use Rattle.filterset_c.specs.declared.{object.Object.Object, faults.Span.Span}
use Rattle.filterset_c.specs.declared.object.Refusal.{Refusal, TheVariants.Faults, TheVariants.TooDeep}
use Rattle.filterset_c.specs.declared.object.Workspace.{Workspace}
use Rattle.filterset_c.specs.declared.object.Object.TheVariants as held

-- the kind that has this number
abbrev pub HasKind : ℕ → FiltersetKind → Type 0
HasKind number Test = number ≡ 0
HasKind number TestArchive = number ≡ 1
HasKind number OverrideFilter = number ≡ 2
HasKind number DefaultFilter = number ≡ 3

-- a limit of levels of parentheses and negations, where 0 is none
abbrev pub IsWithin : ℕ → ℕ → Type 0
IsWithin limit levels = limit ≢ 0 → levels ≤ limit

-- whatever filterset the text is, it nests past the limit; the place is a parenthesis or a negation of the text
pub record IsTooDeep (limit : ℕ) (text : List ℕ) (place : Span) : Type 0 where
  pub limited : limit ≢ 0
  pub deep : (e : Tree SourceSpan) → Spells text e → limit < depth e
  pub within : place.offset < length text
  pub extent : place.length ≡ (if slice_index text place.offset == 110 then 3 else 1)

-- the text is a filterset of this kind of the workspace
pub record IsAccepted (workspace : Workspace) (text : List ℕ) (kind : FiltersetKind) (filterset : Filterset) : Type 0 where
  pub input : string_bytes filterset.input ≡ text
  pub accepted : IsFiltersetOf text kind workspace.graph workspace.known_groups (tree_of filterset.parsed)
  pub compiled : IsCompiled workspace.graph (tree_of filterset.parsed) filterset.compiled

-- the same within the workspace's limit
abbrev pub IsFiltersetWithin : Workspace → List ℕ → FiltersetKind → Filterset → Type 0
IsFiltersetWithin workspace text kind filterset =
    IsAccepted workspace text kind filterset × IsWithin workspace.depth (depth (tree_of filterset.parsed))

-- the expression is what the text of a default filter is compiled to, or all() without a text
abbrev pub IsDefaultFilter : Workspace → Option (String Global) → CompiledExpr → Type 0
IsDefaultFilter workspace None expr = formula expr ≡ formulas.Leaf leaves.All
IsDefaultFilter workspace (Some text) expr = (e : Tree SourceSpan)
    × IsFiltersetOf (string_bytes text) DefaultFilter workspace.graph workspace.known_groups e
    × IsCompiled workspace.graph e expr

-- the text is rejected for these faults, or since it nests past the workspace's limit
abbrev pub IsRefused : Workspace → List ℕ → FiltersetKind → Refusal → Type 0
IsRefused workspace text kind (Faults refused) =
    (string_bytes refused.input ≡ text)
    × IsRefusedWith text kind workspace.graph workspace.known_groups refused.errors.items
IsRefused workspace text kind (TooDeep place) = IsTooDeep workspace.depth text place

-- what a text is parsed to: a filterset within the workspace's limit, with its default filter; or why it is rejected
abbrev pub IsParsed : Workspace → List ℕ → FiltersetKind → Object → Type 0
IsParsed workspace text kind (held.Filterset bound) =
    IsFiltersetWithin workspace text kind bound.filterset
    × IsDefaultFilter workspace workspace.default_filter bound.default_filter
IsParsed workspace text kind (held.Refused refusal) = IsRefused workspace text kind refusal
IsParsed workspace text kind _ = ⊥

-- the same for a number of a kind, if the handle holds a workspace
abbrev pub ParsesIn : Option Object → List ℕ → ℕ → Object → Type 0
ParsesIn (Some (held.Workspace workspace)) text number object =
    (kind : FiltersetKind) × HasKind number kind × IsParsed workspace text kind object
ParsesIn _ text number object = ⊥

-- the status of a call that makes an object: faults are no success
abbrev pub object_status : Object → ℕ
object_status (held.Refused refusal) = status_code Rejected
object_status _ = 0

-- what a handle holds after an object was made for it, or not: without memory it is unchanged
abbrev pub IsStored : Option Object → Result Object Failure → ℕ → Option Object → Type 0
IsStored old (Ok object) status new =
    ((status ≡ object_status object) × (new ≡ Some object)) ⊎ ((status ≡ status_code OutOfMemory) × (new ≡ old))
IsStored old (Err failure) status new = (status ≡ status_code failure) × (new ≡ old)

-- The outcome of a call that parses a text: the handle holds an object of which P holds, and the status is the object's;
-- or the call failed for another reason than the text's faults, and the handle is unchanged.
abbrev pub IsOutcome : (Object → Type 0) → Option Object → ℕ → Option Object → Type 0
IsOutcome P old status new =
    ((object : Object) × P object × (status ≡ object_status object) × (new ≡ Some object))
    ⊎ ((failure : Failure) × (failure ≢ Rejected) × (status ≡ status_code failure) × (new ≡ old))

-- the same for a workspace
abbrev pub IsWorkspaceStored : Option Object → Result Workspace Failure → ℕ → Option Object → Type 0
IsWorkspaceStored old (Ok workspace) status new =
    ((status ≡ 0) × (new ≡ Some (held.Workspace workspace))) ⊎ ((status ≡ status_code OutOfMemory) × (new ≡ old))
IsWorkspaceStored old (Err failure) status new = (status ≡ status_code failure) × (new ≡ old)
