-- Why texts are refused.
use Rattle.std.proofs.Common.{◌≡◌, ◌≢◌, ◌⊎◌, inl, inr, ⊎_elim, ℕ, List, [], sym, ◌∙◌, subst}
use Rattle.std.proofs.lemmas.List.Elements.{All-weaker}
use Rattle.std.specs.Prelude.{All, Result, Ok, Err, IsErrAnd, IfErr, OnOk}
use Rattle.filterset_faults.specs.declared.{error.ParseSingleError.ParseSingleError, kind.FiltersetKind.FiltersetKind}
use Rattle.filterset_faults.specs.declared.span.SourceSpan.{SourceSpan}
use Rattle.filterset_graph.specs.declared.package.PackageMetadata.{PackageMetadata}
use Rattle.filterset_language.specs.Faults.{FaultStands}
use Rattle.filterset_language.specs.Parsed.{Reads, LiesOnBody, LiesOnLargeBody, Comes, HasRefusedBodies, IsUnreadWith}
use Rattle.filterset_language.specs.declared.parsing.parse.{ParseStop.ParseStop, Parsed.Parsed}
use Rattle.filterset_language.proofs.{LargeBodies.large_body, SpelledIsRead.one_tree}
use Rattle.filterset_grammar.specs.{Grammar.Spells, Tree.Tree, Tree.tree_leaves}
use Rattle.filterset_language.specs.declared.parsing.parse.ParseStop.TheVariants as stop
use Rattle.nextest_filtering.specs.Compiling.{IsFiltersetOf, IsRejectedWith, banned, unmatched, IsRefusedWith, found, rejected, IsStopOf, IsRejectionOf}
use Rattle.nextest_filtering.specs.declared.compile.context.KnownGroups.{KnownGroups}
use Rattle.nextest_filtering.proofs.{Banned.no_bans, Unmatched.all_matched}

-- faults of a parse refuse the text
pub refuted : (text : List ℕ) (p : Parsed) → p.faults.items ≢ [] → All (FaultStands text) p.faults.items
    → ((e : Tree SourceSpan) → Spells text e → (Comes p e × (p.faults.items ≡ [])) ⊎ HasRefusedBodies text e p) → IsUnreadWith text p.faults.items
refuted text p some stand spelled = record { some = some; stand = stand; bodies = λ e spells. ⊎_elim (λ clean. absurd (some clean.1)) (λ refuses. refuses.bodies) (spelled e spells) }

-- an error that a `?` hands on
pub handed_on : {T E : Type 0} (r : Result T E) (e : E) (P : E → Type 0) → IsErrAnd r (λ y. y ≡ e) → P e → IfErr r P
handed_on (Ok x) e P is h = tt
handed_on (Err y) e P is h = subst P (sym is) h

-- what holds anyway holds where a call returns
pub where_it_returns : {T E P : Type 0} (r : Result T E) → P → OnOk r P
where_it_returns (Ok x) p = p
where_it_returns (Err e) p = tt

module _ (text : List ℕ) (kind : FiltersetKind) (packages : List PackageMetadata) (groups : KnownGroups) where
  -- a stopped compiler stops the reading
  pub stopped : (e : Tree SourceSpan) (s : ParseStop) → Reads text e → IsRejectionOf kind packages groups e s → IsStopOf text kind packages groups s
  stopped e (stop.Faults faults) reads is = rejected e reads is
  stopped e (stop.OutOfMemory error) reads is = tt

  -- what the faults are where the text spells a tree: it is the one that was read
  pub of_tree : (faults : List ParseSingleError) (e : Tree SourceSpan) → Spells text e → IsRefusedWith text kind packages groups faults
      → All (LiesOnBody text e) faults ⊎ IsRejectedWith kind packages groups e faults
  of_tree faults e spells (found refutes) = inl (refutes.bodies e spells)
  of_tree faults e spells (rejected d reads is) =
      inr (subst (λ (t : Tree SourceSpan). IsRejectedWith kind packages groups t faults) (one_tree text d e reads.spelled spells) is)

  -- a tree that makes the text a filterset is not refused
  not_rejected : (e : Tree SourceSpan) (faults : List ParseSingleError) → IsFiltersetOf text kind packages groups e → IsRejectedWith kind packages groups e faults → ⊥
  not_rejected e faults is (banned are some) = some (are ∙ no_bans kind e is.allowed)
  not_rejected e faults is (unmatched allowed are some) = some (all_matched packages groups (tree_leaves e) faults is.checked are)

  -- so only bodies are
  pub of_filterset : (faults : List ParseSingleError) (e : Tree SourceSpan) → IsFiltersetOf text kind packages groups e → IsRefusedWith text kind packages groups faults
      → (faults ≢ []) × All (LiesOnLargeBody text e) faults
  of_filterset faults e is (found refutes) =
      (refutes.some, All-weaker (LiesOnBody text e) (LiesOnLargeBody text e) (λ fault. large_body text e fault is.reads.patterns) faults (refutes.bodies e is.reads.spelled))
  of_filterset faults e is (rejected d reads r) =
      absurd (not_rejected e faults is (subst (λ (t : Tree SourceSpan). IsRejectedWith kind packages groups t faults) (one_tree text d e reads.spelled is.reads.spelled) r))
