-- Packages that are marked by their positions.
use Rattle.std.proofs.Common.{◌≡◌, ◌↔◌, ⊎_elim, ℕ, Bool, true, false, List, ◌&&◌, refl, sym, ◌∙◌, ap, arith}
use Rattle.std.specs.Prelude.{Some, slice_get}
use Rattle.std.proofs.lemmas.{Option.same_Some, Option.slice_get_within, Bool.cases_lt}
use Rattle.filterset_graph.proofs.Positions.{position_from_Contains, mapped_at}
use Rattle.filterset_graph.specs.Packages.{AllDiffer, Text, ids}
use Rattle.filterset_graph.specs.declared.package.PackageMetadata.{PackageMetadata}
use Rattle.filterset_matchers.specs.Matcher.{Matcher}
use Rattle.filterset_expression.specs.Meaning.{IsPackage}
use Rattle.nextest_filtering.specs.PackageMarks.{IsMarkedMember, MarksNamed}
use Rattle.nextest_filtering.proofs.PackageSets as sets

-- ids that differ are at one position each
same_position : (names : List Text) → AllDiffer names → (j k : ℕ) (id : Text) → slice_get names j ≡ Some id → slice_get names k ≡ Some id → j ≡ k
same_position names differ j k id at there =
    ⊎_elim (λ less. absurd (differ k (j, less, slice_get_within names k id there, at ∙ sym there)))
    (λ not. ⊎_elim (λ less. absurd (differ j (k, less, slice_get_within names j id at, there ∙ sym at))) (λ over. omega (arith, not, over)) (cases_lt k j)) (cases_lt j k)

-- if the packages with matching names are marked, the marked ones of the workspace are those
pub named_members : (packages : List PackageMetadata) (matcher : Matcher) (marks : List Bool) → MarksNamed packages matcher marks
    → (id : Text) → IsMarkedMember packages marks id ↔ IsPackage packages matcher id
named_members packages matcher marks are id = (to, from)
  where
    to : IsMarkedMember packages marks id → IsPackage packages matcher id
    to is =
        let named = sets.named_from packages matcher is.0 ((are is.0).0 is.1.2) in
        let same : named.0 ≡ is.1.0 = same_Some named.0 is.1.0 (sym named.1 ∙ is.1.1) in
        (named.0, named.2, ap (λ (p : PackageMetadata). p.id) same ∙ is.1.4)

    from : IsPackage packages matcher id → IsMarkedMember packages marks id
    from is =
        let at = position_from_Contains packages is.0 is.1.0.0 in
        (at.0, (is.0, at.1, (are at.0).1 (sets.named_at packages matcher at.0 is.0 at.1 is.1), is.1.0.1, is.2))

-- the package at a position is one of the marked ones of the workspace exactly if its own mark says so
pub member_here : (packages : List PackageMetadata) (marks : List Bool) → AllDiffer (ids packages) → (k : ℕ) (p : PackageMetadata) (mark : Bool)
    → slice_get packages k ≡ Some p → slice_get marks k ≡ Some mark
    → (((mark && p.in_workspace) ≡ true) → IsMarkedMember packages marks p.id)
    × (IsMarkedMember packages marks p.id → (mark && p.in_workspace) ≡ true)
member_here packages marks differ k p mark at own = (to mark own, from)
  where
    to : (b : Bool) → slice_get marks k ≡ Some b → (b && p.in_workspace) ≡ true → IsMarkedMember packages marks p.id
    to true is e = (k, (p, at, is, e, refl))
    to false is e = absurd (let h : false ≡ true = e in cc)

    from : IsMarkedMember packages marks p.id → (mark && p.in_workspace) ≡ true
    from is =
        let here = mapped_at (λ (q : PackageMetadata). q.id) packages k p at in
        let there = mapped_at (λ (q : PackageMetadata). q.id) packages is.0 is.1.0 is.1.1 ∙ ap (λ (t : Text). Some t) is.1.4 in
        let position : is.0 ≡ k = same_position (ids packages) differ is.0 k p.id there here in
        let same : is.1.0 ≡ p = same_Some is.1.0 p (sym is.1.1 ∙ ap (slice_get packages) position ∙ at) in
        let marked : mark ≡ true = same_Some mark true (sym own ∙ ap (slice_get marks) (sym position) ∙ is.1.2) in
        let member : p.in_workspace ≡ true = ap (λ (q : PackageMetadata). q.in_workspace) (sym same) ∙ is.1.3 in
        rw (marked, member) refl
