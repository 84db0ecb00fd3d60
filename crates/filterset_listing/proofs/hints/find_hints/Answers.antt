use Rattle.std.proofs.Common.{◌++◌, sym, ◌∙◌, ap, subst}
use Rattle.filterset_expression.specs.Contexts.{default_of}
use Rattle.filterset_language.specs.Views.{tree_of}
use Rattle.filterset_listing.specs.{Columns.Fits, Finding.unmatched_by, Finding.unmatched_of, SubjectValues.Basis}
use Rattle.filterset_listing.specs.Unmatched.{AreUnmatched}
use Rattle.filterset_listing.proofs.FindingLemmas.{unmatched_are}
use Rattle.filterset_listing.proofs.hints.find_hints.Goals as goal

pub returns-clause-unmatched : goal.returns-clause-unmatched
returns-clause-unmatched c packages is =
    let basis : Basis = record { packages = packages; default = default_of c.args.context.now } in
    let subjects = c.args.subjects.now in
    let tree = tree_of c.args.tree.now in
    let columns = c.deref.result.now in
    let fits = subst (Fits basis subjects tree) (sym c.deref.ensures) (c.in_ok-columns.ensures packages is) in
    subst (AreUnmatched basis subjects tree) (sym (c.in_ok-find_unmatched.ensures ∙ ap (λ xs. unmatched_of xs ++ unmatched_by tree columns) c.new-unmatched.ensures.items))
    (unmatched_are basis subjects tree columns fits)

pub returns-clause-needless : goal.returns-clause-needless
returns-clause-needless c packages is =
    let basis : Basis = record { packages = packages; default = default_of c.args.context.now } in
    let tree = tree_of c.args.tree.now in
    let fits = subst (Fits basis c.args.subjects.now tree) (sym c.deref-2.ensures) (c.in_ok-columns.ensures packages is) in
    rw c.deref-3.ensures.value at c.in_ok-needless.ensures basis fits
