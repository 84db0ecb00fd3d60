-- Verdicts, and lists of filtersets.
use Rattle.std.proofs.Common.{◌≡◌, ◌⊎◌, ◌<◌, ◌+◌, ◌-◌, ◌*◌, ◌^◌, ℕ, take, arith, ap, drop, get_or, length, refl, List, [], ◌∷◌}
use Rattle.std.proofs.lemmas.List.{take_all}
use Rattle.std.specs.{Borrow.Bor, List.AllZip}
use Rattle.filterset_entries.specs.Checked.{TextRow, IsFiltersetFor}
use Rattle.filterset_deciding.specs.Deciding.{IsAlwaysMet, IsUnmetAt, leaves_asked, steps_asked}
use Rattle.filterset_deciding.specs.{declared.deciding.Verdict.Verdict, Demands.HasUncompared, Demands.IsDoubtAbout}
use Rattle.filterset_deciding.specs.Texts.{AreComparisons, HasUnsearched}
use Rattle.filterset_deciding.specs.declared.{demand.Doubt.Doubt, question.Question.Question, witness.Witness.Witness}
use Rattle.filterset_deciding.specs.declared.deciding.Verdict.TheVariants as verdicts
use Rattle.filterset_expression.specs.declared.expression.CompiledExpr.{CompiledExpr}
use Rattle.filterset_graph.specs.declared.package.PackageMetadata.{PackageMetadata}
use Rattle.nextest_filtering.specs.declared.{compile.context.KnownGroups.KnownGroups, filterset.Filterset.Filterset}
use Rattle.filterset_verdicts.specs.Verdicts.{IsRight}

-- the verdict is right, whatever it is
pub right_of : (default : CompiledExpr) (question : Question) (given : CompiledExpr) (exprs : List (Bor CompiledExpr)) (budget : ℕ) (verdict : Verdict)
    → (verdict ≡ verdicts.Always → IsAlwaysMet question given default exprs)
    → ((witness : Witness) → verdict ≡ verdicts.Fails witness → IsUnmetAt question given default exprs witness.test witness.picks.items)
    → ((doubt : Doubt) → verdict ≡ verdicts.Unknown doubt → IsDoubtAbout (leaves_asked given default exprs) doubt)
    → ((doubt : Doubt) → verdict ≡ verdicts.Unknown doubt → (¬ AreComparisons doubt.demands.items) × HasUnsearched doubt.demands.items)
    → (verdict ≡ verdicts.Stopped → (budget < 2 ^ (length (leaves_asked given default exprs) + 1) * length (steps_asked given default exprs))
    ⊎ HasUncompared (leaves_asked given default exprs))
    → IsRight question given default exprs budget verdict
right_of default question given exprs budget verdicts.Always always fails unknown decided stopped = always refl
right_of default question given exprs budget (verdicts.Fails witness) always fails unknown decided stopped = fails witness refl
right_of default question given exprs budget (verdicts.Unknown doubt) always fails unknown decided stopped =
    (unknown doubt refl, (decided doubt refl).0, (decided doubt refl).1)
right_of default question given exprs budget verdicts.Stopped always fails unknown decided stopped = stopped refl

-- a list is its first element and the others
pub first_and_others : {A : Type 0} (xs : List A) (x : A) → 0 < length xs → get_or xs 0 x ≡ x → xs ≡ x ∷ drop 1 xs
first_and_others [] x some at = absurd (omega (arith, some))
first_and_others (y ∷ xs) x some at = ap (λ z. z ∷ xs) at

-- there are as many filtersets as rows, so there is one
pub some_filterset : (packages : List PackageMetadata) (groups : KnownGroups) (rows : List TextRow) (filters : List Filterset)
    → AllZip (IsFiltersetFor packages groups) rows filters → 0 < length rows → 0 < length filters
some_filterset packages groups [] filters are some = absurd (omega (arith, some))
some_filterset packages groups (row ∷ rows) [] are some = absurd are
some_filterset packages groups (row ∷ rows) (f ∷ filters) are some = omega arith

-- the elements behind the first are all others
pub others_whole : {A : Type 0} (xs : List A) → take (length xs - 1) (drop 1 xs) ≡ drop 1 xs
others_whole [] = refl
others_whole (x ∷ xs) = take_all (length (x ∷ xs) - 1) xs (omega arith)
