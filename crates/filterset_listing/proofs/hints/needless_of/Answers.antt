use Rattle.std.proofs.Common.{◌≡◌, true, false, List, [], ◌∷◌, ◌++◌, length, map, refl, sym, ◌∙◌, ap, subst}
use Rattle.std.specs.{Prelude.◌==◌, List.list_any, Option.unwrap_or}
use Rattle.std.proofs.lemmas.List.{length-map}
use Rattle.filterset_language.specs.Views.{tree_of}
use Rattle.filterset_listing.specs.{Columns.values_of, Finding.AreDeciding, Finding.found_of, Finding.unmatched_of}
use Rattle.filterset_listing.specs.Needless.{AreFound, picks_by_all}
use Rattle.filterset_listing.specs.{SubjectValues.Basis, declared.subjects.Subject.Subject}
use Rattle.filterset_listing.proofs.ColumnLemmas.{own_column}
use Rattle.filterset_listing.proofs.hints.needless_of.Goals as goal

-- the whole tree decides what is said of each subject
all_decide : (basis : Basis) (subjects : List Subject) → AreDeciding basis subjects [] (map (λ s. true) subjects)
all_decide basis [] = tt
all_decide basis (s ∷ subjects) = ((λ h. tt, λ h. refl), all_decide basis subjects)

pub returns-then-not-is_empty : goal.returns-then-not-is_empty
returns-then-not-is_empty c = λ basis fits.
    let columns = c.args.columns.now in
    let some : (length (unmatched_of c.args.unmatched.now) == 0) ≡ false = ap (λ n. n == 0) (length-map c.args.unmatched.now _) ∙ sym c.is_empty.ensures ∙ c.if-not-is_empty.true in
    let picks : picks_by_all (unmatched_of c.args.unmatched.now) (values_of columns) ≡ false = rw some refl in
    (values_of columns, own_column basis c.args.subjects.now (tree_of c.args.tree.now) columns fits, rw picks (ap found_of c.new-found.ensures.items))

pub returns-then-not-any_yes : goal.returns-then-not-any_yes
returns-then-not-any_yes c = λ basis fits.
    let columns = c.args.columns.now in
    let none : (length (unmatched_of c.args.unmatched.now) == 0) ≡ true = ap (λ n. n == 0) (length-map c.args.unmatched.now _) ∙ sym c.is_empty.ensures ∙ c.if-not-is_empty.false in
    let no : list_any (λ v. unwrap_or v false) (values_of columns) ≡ false = ap (list_any (λ v. unwrap_or v false)) (sym c.values.ensures) ∙ sym c.any_yes.ensures ∙ c.if-not-any_yes.true in
    let picks : picks_by_all (unmatched_of c.args.unmatched.now) (values_of columns) ≡ false = rw (none, no) refl in
    (values_of columns, own_column basis c.args.subjects.now (tree_of c.args.tree.now) columns fits, rw picks (ap found_of c.new-found.ensures.items))

pub returns : goal.returns
returns c = λ basis fits.
    let subjects = c.args.subjects.now in
    let tree = tree_of c.args.tree.now in
    let columns = c.args.columns.now in
    let none : (length (unmatched_of c.args.unmatched.now) == 0) ≡ true = ap (λ n. n == 0) (length-map c.args.unmatched.now _) ∙ sym c.is_empty.ensures ∙ c.if-not-is_empty.false in
    let yes : list_any (λ v. unwrap_or v false) (values_of columns) ≡ true = ap (list_any (λ v. unwrap_or v false)) (sym c.values.ensures) ∙ sym c.any_yes.ensures ∙ c.if-not-any_yes.false in
    let picks : picks_by_all (unmatched_of c.args.unmatched.now) (values_of columns) ≡ true = rw (none, yes) refl in
    let deciding = subst (AreDeciding basis subjects []) (sym (c.deref.ensures.value ∙ c.in_ok-deciding.ensures)) (all_decide basis subjects) in
    let (added, same, are) = c.in_ok-find_needless.ensures basis subjects [] fits deciding in
    let found = subst (AreFound basis subjects false [] tree) (sym (same ∙ ap (λ xs. found_of xs ++ added) c.new-found.ensures.items)) are in
    (values_of columns, own_column basis subjects tree columns fits, rw picks found)
