use Rattle.std.proofs.Common.{Result, Ok, Err, IfSome, ◌≡◌, ◌==◌, ◌<◌, ◌++◌, ◌+◌, ◌∷◌, [], ℕ, zero, suc, false, true≢false, get_or, arith, List, length, take, drop, map, refl, sym, ap, ◌∙◌, subst}
use Rattle.std.proofs.lemmas.List.{take-append-drop}
use Rattle.std.specs.Result.{MatchResult, result_ok}
use Rattle.regex.specs.Patterns.{Re, literal, cat, cat_all}
use Rattle.regex_hir.specs.Meaning.{meaning}
use Rattle.regex_hir.proofs.{MeaningLemmas.meaning-Concat, MeaningLemmas.meaning-Literal, TextLemmas.has_bytes_at_parts}
use Rattle.filterset_matchers.specs.Compiled.{HasLiteral}
use Rattle.filterset_matchers.proofs.matcher.compiled.find_first_literal.Goals as goal

stands_first : (text : List ℕ) (rest : Re) → HasLiteral (cat (literal text) rest) text
stands_first text rest input i j (l, (has, end), others) =
    (take i input, drop (i + length text) input, sym (take-append-drop i input) ∙ ap (λ xs. take i input ++ xs) (has_bytes_at_parts input i text has))

some_of_test : (n : ℕ) → false ≡ (n == 0) → 0 < n
some_of_test zero test = absurd (true≢false (sym test))
some_of_test (suc n) test = omega arith

first_and_others : {A : Type 0} (xs : List A) (default : A) → 0 < length xs → xs ≡ get_or xs 0 default ∷ drop 1 xs
first_and_others [] default some = absurd (omega arith)
first_and_others (x ∷ xs) default some = refl

what_is_ok : {A E : Type 0} {P R : A → Type 0} (Q : E → Type 0) (r : Result A E) → MatchResult r P Q → ((x : A) → P x → R x) → IfSome (result_ok r) R
what_is_ok Q (Ok x) p f = f x p
what_is_ok Q (Err e) p f = tt

pub returns-in-Literal : goal.returns-in-Literal
returns-in-Literal c =
    let parts = c.in-Concat.parts in
    rw c.ok.ensures.value (what_is_ok _ c.from_utf8.result c.from_utf8.ensures.cases (λ text same.
    let is : meaning c.index.result.now ≡ literal text.now = ap meaning c.in-Literal.is ∙ meaning-Literal c.in-Literal.bytes ∙ ap literal (sym (same.0 ∙ c.deref.ensures.value)) in
    let sequence : meaning c.args.tree.now ≡ cat (literal text.now) (cat_all (map meaning (drop 1 parts.items))) =
    ap meaning c.in-Concat.is ∙ meaning-Concat parts
    ∙ ap (λ xs. cat_all (map meaning xs)) (first_and_others parts.items c.index.result.now (omega (arith, some_of_test _ c.if-is_empty.ensures, parts.ok)))
    ∙ ap (λ x. cat x (cat_all (map meaning (drop 1 parts.items)))) (ap meaning (sym c.index.ensures) ∙ is) in
    subst (λ x. HasLiteral x text.now) (sym sequence) (stands_first text.now (cat_all (map meaning (drop 1 parts.items))))))
