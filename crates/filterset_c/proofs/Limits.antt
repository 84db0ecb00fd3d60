-- What was parsed is within the workspace's limit of levels.
use Rattle.std.proofs.Common.{◌≡◌, ℕ, List, subst}
use Rattle.std.specs.Prelude.{Err, IfOk, Ok, Result}
use Rattle.filterset_faults.specs.declared.{kind.FiltersetKind.FiltersetKind, span.SourceSpan.SourceSpan}
use Rattle.filterset_grammar.specs.{Grammar.Spells, Tree.Tree}
use Rattle.filterset_language.specs.Views.{tree_of}
use Rattle.filterset_rewriting.specs.Nesting.Depth.{depth}
use Rattle.nextest_filtering.specs.declared.filterset.Filterset.{Filterset}
use Rattle.filterset_c.specs.Parsing.{IsAccepted, IsFiltersetWithin, IsWithin}
use Rattle.filterset_c.specs.declared.{failure.Failure.Failure, object.Refusal.Refusal}
use Rattle.filterset_c.specs.declared.object.Workspace as object

-- whatever filterset a text is, it is within the limit
abbrev pub IsShallow : ℕ → List ℕ → Type 0
IsShallow limit text = (e : Tree SourceSpan) → Spells text e → IsWithin limit (depth e)

accepted_within : (w : object.Workspace) (text : List ℕ) (kind : FiltersetKind) (parsed : Result Filterset Refusal) → IsShallow w.depth text
    → IfOk parsed (IsAccepted w text kind) → IfOk parsed (IsFiltersetWithin w text kind)
accepted_within w text kind (Ok filterset) shallow is = (is, shallow (tree_of filterset.parsed) is.accepted.reads.spelled)
accepted_within w text kind (Err refusal) shallow is = tt

pub limited : (w : object.Workspace) (bytes text : List ℕ) (kind : FiltersetKind) (made : Result (Result Filterset Refusal) Failure) → text ≡ bytes → IsShallow w.depth bytes
    → IfOk made (λ parsed. IfOk parsed (IsAccepted w text kind)) → IfOk made (λ parsed. IfOk parsed (IsFiltersetWithin w bytes kind))
limited w bytes text kind (Ok parsed) same shallow is =
    accepted_within w bytes kind parsed shallow (subst (λ (t : List ℕ). IfOk parsed (IsAccepted w t kind)) same is)
limited w bytes text kind (Err failure) same shallow is = tt
