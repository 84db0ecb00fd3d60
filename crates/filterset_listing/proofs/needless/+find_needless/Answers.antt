use Rattle.std.proofs.Common.{rules, ◌≡◌, true, false, None, ap, sym, ◌∙◌, subst}
use Rattle.std.proofs.lemmas.{List.map-append, Result.on_ok_weaker}
use Rattle.filterset_grammar.specs.Tree.{Not, Union, Join, Parens, Set}
use Rattle.filterset_grammar.specs.declared.operators.Joiner.TheVariants.{Both, Without, ExactlyOne}
use Rattle.filterset_language.specs.Views.{leaf_of, tree_of}
use Rattle.filterset_listing.specs.Columns.{values_of}
use Rattle.filterset_listing.specs.Finding.{constant_for, found_of, may_still, FindsFor}
use Rattle.filterset_listing.proofs.FindingLemmas.{finds_one, finds_not, finds_union, finds_both, finds_without, finds_exactly_one, finds_parens, finds_set}
use Rattle.filterset_listing.proofs.needless.+find_needless.Goals as goal

pub returns-in_ok-push-in-Some : goal.returns-in_ok-push-in-Some
returns-in_ok-push-in-Some t c =
    let before = c.args.found.now.items in
    finds_one (tree_of c.args.tree.now) c.args.columns.now c.args.deciding.now c.args.is_operand c.in-Some.is_all (found_of before) (found_of c.push.new.self.items)
    (sym c.in-Some.ensures) (rw c.in_ok-push-in-Some.ensures.items (map-append _ _ _))

pub returns-in-Not : goal.returns-in-Not
returns-in-Not t c =
    let columns = c.args.columns.now in
    let deciding = c.args.deciding.now in
    let a = tree_of c.deref.result.now in
    let of_tree : tree_of c.args.tree.now ≡ Not c.in-Not.field-0 a = search rules in
    let none : constant_for (Not c.in-Not.field-0 a) (values_of columns) deciding c.args.is_operand ≡ None = subst (λ e. constant_for e (values_of columns) deciding c.args.is_operand ≡ None) of_tree (sym c.in-None.ensures) in
    on_ok_weaker c.find_needless.result
    (λ finds. subst (λ e. FindsFor e columns deciding c.args.is_operand (found_of c.args.found.now.items) (found_of c.find_needless.new.found.items)) (sym of_tree)
    (finds_not c.in-Not.field-0 a columns c.first-first.result.now deciding c.args.is_operand (found_of c.args.found.now.items) (found_of c.find_needless.new.found.items) none c.first-first.ensures finds))
    c.find_needless.ensures

pub returns-in_ok-find_needless-in-Union : goal.returns-in_ok-find_needless-in-Union
returns-in_ok-find_needless-in-Union t c =
    let columns = c.args.columns.now in
    let deciding = c.args.deciding.now in
    let op = c.in-Union.field-0 in
    let l = tree_of c.deref-in-Union.result.now in
    let r = tree_of c.deref-in-Union-3.result.now in
    let before = found_of c.args.found.now.items in
    let mid = found_of c.find_needless-in-Union.new.found.items in
    let after = found_of c.find_needless-in-Union-2.new.found.items in
    let first = c.first-first.result.now in
    let second = c.second-second.result.now in
    let of_left = c.deref-in-Union-2.result.now in
    let of_right = c.deref-in-Union-4.result.now in
    let of_tree : tree_of c.args.tree.now ≡ Union op l r = search rules in
    let none : constant_for (Union op l r) (values_of columns) deciding c.args.is_operand ≡ None = subst (λ e. constant_for e (values_of columns) deciding c.args.is_operand ≡ None) of_tree (sym c.in-None.ensures) in
    let left_is : of_left ≡ may_still deciding (values_of second) false = c.deref-in-Union-2.ensures.value ∙ c.in_ok-of_left-in-Union.ensures.0 ∙ ap (λ k. may_still deciding (values_of k) false) (sym c.second-second.ensures) in
    let right_is : of_right ≡ may_still deciding (values_of first) false = c.deref-in-Union-4.ensures.value ∙ c.in_ok-of_left-in-Union.ensures.1 ∙ ap (λ k. may_still deciding (values_of k) false) (sym c.first-first.ensures) in
    on_ok_weaker c.find_needless-in-Union-2.result
    (λ finds. subst (λ e. FindsFor e columns deciding c.args.is_operand before after) (sym of_tree)
    (finds_union l r columns first second deciding of_left of_right before mid after c.first-first.ensures c.second-second.ensures op c.args.is_operand none left_is right_is c.in_ok-find_needless-in-Union.ensures finds))
    c.find_needless-in-Union-2.ensures

pub returns-in_ok-find_needless-in-Intersection : goal.returns-in_ok-find_needless-in-Intersection
returns-in_ok-find_needless-in-Intersection t c =
    let columns = c.args.columns.now in
    let deciding = c.args.deciding.now in
    let op = c.in-Intersection.field-0 in
    let l = tree_of c.deref-in-Intersection.result.now in
    let r = tree_of c.deref-in-Intersection-3.result.now in
    let before = found_of c.args.found.now.items in
    let mid = found_of c.find_needless-in-Intersection.new.found.items in
    let after = found_of c.find_needless-in-Intersection-2.new.found.items in
    let first = c.first-first.result.now in
    let second = c.second-second.result.now in
    let of_left = c.deref-in-Intersection-2.result.now in
    let of_right = c.deref-in-Intersection-4.result.now in
    let of_tree : tree_of c.args.tree.now ≡ Join (Both op) l r = search rules in
    let none : constant_for (Join (Both op) l r) (values_of columns) deciding c.args.is_operand ≡ None = subst (λ e. constant_for e (values_of columns) deciding c.args.is_operand ≡ None) of_tree (sym c.in-None.ensures) in
    let left_is : of_left ≡ may_still deciding (values_of second) true = c.deref-in-Intersection-2.ensures.value ∙ c.in_ok-of_left-in-Intersection.ensures.0 ∙ ap (λ k. may_still deciding (values_of k) true) (sym c.second-second.ensures) in
    let right_is : of_right ≡ may_still deciding (values_of first) true = c.deref-in-Intersection-4.ensures.value ∙ c.in_ok-of_left-in-Intersection.ensures.1 ∙ ap (λ k. may_still deciding (values_of k) true) (sym c.first-first.ensures) in
    on_ok_weaker c.find_needless-in-Intersection-2.result
    (λ finds. subst (λ e. FindsFor e columns deciding c.args.is_operand before after) (sym of_tree)
    (finds_both l r columns first second deciding of_left of_right before mid after c.first-first.ensures c.second-second.ensures op c.args.is_operand none left_is right_is c.in_ok-find_needless-in-Intersection.ensures finds))
    c.find_needless-in-Intersection-2.ensures

pub returns-in_ok-find_needless-in-Difference : goal.returns-in_ok-find_needless-in-Difference
returns-in_ok-find_needless-in-Difference t c =
    let columns = c.args.columns.now in
    let deciding = c.args.deciding.now in
    let op = c.in-Difference.field-0 in
    let l = tree_of c.deref-in-Difference.result.now in
    let r = tree_of c.deref-in-Difference-3.result.now in
    let before = found_of c.args.found.now.items in
    let mid = found_of c.find_needless-in-Difference.new.found.items in
    let after = found_of c.find_needless-in-Difference-2.new.found.items in
    let first = c.first-first.result.now in
    let second = c.second-second.result.now in
    let of_left = c.deref-in-Difference-2.result.now in
    let of_right = c.deref-in-Difference-4.result.now in
    let of_tree : tree_of c.args.tree.now ≡ Join (Without op) l r = search rules in
    let none : constant_for (Join (Without op) l r) (values_of columns) deciding c.args.is_operand ≡ None = subst (λ e. constant_for e (values_of columns) deciding c.args.is_operand ≡ None) of_tree (sym c.in-None.ensures) in
    let left_is : of_left ≡ may_still deciding (values_of second) false = c.deref-in-Difference-2.ensures.value ∙ c.in_ok-of_left-in-Difference.ensures.0 ∙ ap (λ k. may_still deciding (values_of k) false) (sym c.second-second.ensures) in
    let right_is : of_right ≡ may_still deciding (values_of first) true = c.deref-in-Difference-4.ensures.value ∙ c.in_ok-of_left-in-Difference.ensures.1 ∙ ap (λ k. may_still deciding (values_of k) true) (sym c.first-first.ensures) in
    on_ok_weaker c.find_needless-in-Difference-2.result
    (λ finds. subst (λ e. FindsFor e columns deciding c.args.is_operand before after) (sym of_tree)
    (finds_without l r columns first second deciding of_left of_right before mid after c.first-first.ensures c.second-second.ensures op c.args.is_operand none left_is right_is c.in_ok-find_needless-in-Difference.ensures finds))
    c.find_needless-in-Difference-2.ensures

pub returns-in_ok-find_needless-in-SymmetricDifference : goal.returns-in_ok-find_needless-in-SymmetricDifference
returns-in_ok-find_needless-in-SymmetricDifference t c =
    let columns = c.args.columns.now in
    let deciding = c.args.deciding.now in
    let op = c.in-SymmetricDifference.field-0 in
    let l = tree_of c.deref-in-SymmetricDifference.result.now in
    let r = tree_of c.deref-in-SymmetricDifference-2.result.now in
    let before = found_of c.args.found.now.items in
    let mid = found_of c.find_needless-in-SymmetricDifference.new.found.items in
    let after = found_of c.find_needless-in-SymmetricDifference-2.new.found.items in
    let first = c.first-first.result.now in
    let second = c.second-second.result.now in
    let of_tree : tree_of c.args.tree.now ≡ Join (ExactlyOne op) l r = search rules in
    let none : constant_for (Join (ExactlyOne op) l r) (values_of columns) deciding c.args.is_operand ≡ None = subst (λ e. constant_for e (values_of columns) deciding c.args.is_operand ≡ None) of_tree (sym c.in-None.ensures) in
    on_ok_weaker c.find_needless-in-SymmetricDifference-2.result
    (λ finds. subst (λ e. FindsFor e columns deciding c.args.is_operand before after) (sym of_tree)
    (finds_exactly_one l r columns first second deciding deciding deciding before mid after c.first-first.ensures c.second-second.ensures op c.args.is_operand none c.in_ok-find_needless-in-SymmetricDifference.ensures finds))
    c.find_needless-in-SymmetricDifference-2.ensures

pub returns-in-Parens : goal.returns-in-Parens
returns-in-Parens t c =
    let columns = c.args.columns.now in
    let deciding = c.args.deciding.now in
    let a = tree_of c.deref-in-Parens.result.now in
    let before = found_of c.args.found.now.items in
    let after = found_of c.find_needless-in-Parens.new.found.items in
    let of_tree : tree_of c.args.tree.now ≡ Parens a = search rules in
    on_ok_weaker c.find_needless-in-Parens.result
    (λ finds. subst (λ e. FindsFor e columns deciding c.args.is_operand before after) (sym of_tree) (finds_parens a columns deciding c.args.is_operand before after finds))
    c.find_needless-in-Parens.ensures

pub returns-in-Set : goal.returns-in-Set
returns-in-Set t c =
    let columns = c.args.columns.now in
    let deciding = c.args.deciding.now in
    let before = found_of c.args.found.now.items in
    let leaf = leaf_of c.in-Set.field-0 in
    let of_tree : tree_of c.args.tree.now ≡ Set leaf = search rules in
    let none : constant_for (Set leaf) (values_of columns) deciding c.args.is_operand ≡ None = subst (λ e. constant_for e (values_of columns) deciding c.args.is_operand ≡ None) of_tree (sym c.in-None.ensures) in
    subst (λ e. FindsFor e columns deciding c.args.is_operand before before) (sym of_tree) (finds_set leaf columns deciding c.args.is_operand before none)
