use Rattle.std.proofs.Common.{◌≡◌, IfOk, IfSome, map, string_bytes, Option, Result, Ok, Err, Some, None, ap, ◌∙◌}
use Rattle.regex_extract.specs.{Exact.IsChoiceOf, Needles.AreFilled, Needles.needles_of}
use Rattle.regex_hir.specs.Meaning.{meaning}
use Rattle.filterset_matchers.proofs.ChoiceLemmas.{IsChoice-of_tree}
use Rattle.filterset_matchers.proofs.matcher.pattern.texts_of_tree.Goals as goal

found_both : {T E : Type 0} {P Q R : T → Type 0} (found : Result (Option T) E) → IfOk found (λ o. IfSome o P) → IfOk found (λ o. IfSome o Q) →
    ((t : T) → P t → Q t → R t) → IfOk found (λ o. IfSome o R)
found_both (Ok (Some t)) p q r = r t p q
found_both (Ok None) p q r = tt
found_both (Err e) p q r = tt

pub returns-in-Some : goal.returns-in-Some
returns-in-Some c =
    let tree = c.args.tree.now in
    let needles = needles_of c.in-Some.needles in
    let choice : IsChoiceOf (meaning tree) needles = rw c.in-Some.is at c.in_ok-needles.ensures.choice in
    let filled : AreFilled needles = rw c.in-Some.is at c.in_ok-needles.ensures.filled in
    found_both c.texts_of_needles.result c.texts_of_needles.ensures.same c.texts_of_needles.ensures.utf8 (λ texts same spelled pattern reading.
    let listed : map string_bytes texts.items ≡ needles = same ∙ ap (map (λ n. n.items)) c.deref.ensures.value in
    rw listed (IsChoice-of_tree pattern tree needles reading choice filled (rw listed at spelled)))
