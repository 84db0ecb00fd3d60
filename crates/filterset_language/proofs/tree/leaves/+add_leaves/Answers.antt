use Rattle.std.proofs.Common.{◌≡◌, refl, sym, ◌∙◌, true, false, arith, append_assoc}
use Rattle.std.proofs.lemmas.List.{append-nil, map-append, Elements.filter-append}
use Rattle.filterset_language.specs.Views.{leaf_of}
use Rattle.filterset_language.proofs.tree.leaves.+add_leaves.Goals as goal

pub returns-in_ok-push-in-Set : goal.returns-in_ok-push-in-Set
returns-in_ok-push-in-Set g t c = λ kept computes.
    let answer : c.keep.result ≡ kept (leaf_of c.in-Set.leaf.now) = computes c.in-Set.leaf.now c.keep.result (record { shown = _; shows = refl; says = record { met = c.keep.ensures } }) in
    let is : kept (leaf_of c.in-Set.leaf.now) ≡ true = sym answer ∙ c.if-keep.true in
    rw (c.in-Set.ensures, is, c.in_ok-push-in-Set.ensures.items) (map-append _ _ _)

pub returns-else-keep : goal.returns-else-keep
returns-else-keep g t c = λ kept computes.
    let answer : c.keep.result ≡ kept (leaf_of c.in-Set.leaf.now) = computes c.in-Set.leaf.now c.keep.result (record { shown = _; shows = refl; says = record { met = c.keep.ensures } }) in
    let isnt : kept (leaf_of c.in-Set.leaf.now) ≡ false = sym answer ∙ c.if-keep.false in
    rw (c.in-Set.ensures, isnt) (sym (append-nil _))

pub returns-in_ok-add_leaves-in-Union : goal.returns-in_ok-add_leaves-in-Union
returns-in_ok-add_leaves-in-Union g t c = λ kept computes.
    let first = c.in_ok-add_leaves-in-Union.ensures kept computes in
    let second = c.add_leaves-in-Union.ensures kept computes in
    grind (arith, filter-append, append_assoc, first, second)
