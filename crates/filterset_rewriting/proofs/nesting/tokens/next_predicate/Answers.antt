use Rattle.std.proofs.Common.{◌≡◌, ◌+◌, ◌-◌, ◌∷◌, ◌++◌, ◌∙◌, [], List, None, Some, ℕ, ap, append_assoc, arith, length, length-append, refl, subst, sym}
use Rattle.filterset_rewriting.specs.Nesting.Arguments.{IsArgument}
use Rattle.filterset_rewriting.specs.declared.nesting.arguments.ArgumentKind.{ArgumentKind}
use Rattle.filterset_rewriting.proofs.ArgumentLemmas.{cut}
use Rattle.filterset_rewriting.proofs.nesting.tokens.next_predicate.Goals as goal

pub returns-in_default-clause-token : goal.returns-in_default-clause-token
returns-in_default-clause-token c t after = absurd (let same : None ≡ Some after.argument = c.in_default.ensures ∙ after.named in cc)

pub returns-in-Some-argument_end-clause-token : goal.returns-in-Some-argument_end-clause-token
returns-in-Some-argument_end-clause-token c t after =
    let word = c.args.word.now in
    let rest = c.args.rest.now in
    let behind = c.in-Some-argument_end.behind.now in
    let same : Some c.in-Some.argument ≡ Some after.argument = c.in-Some.ensures ∙ after.named in
    let e : after.argument ≡ c.in-Some.argument = cc in
    let is_argument : IsArgument c.in-Some.argument after.inside = subst (λ (a : ArgumentKind). IsArgument a after.inside) e after.is_inside in
    let own : List ℕ = after.blanks ++ (40 ∷ (after.inside ++ 41 ∷ [])) in
    let parts : rest ≡ own ++ t = after.text ∙ simp append_assoc in
    let whole : word ++ rest ≡ (word ++ own) ++ t = ap (λ (x : List ℕ). word ++ x) parts ∙ sym (append_assoc word own t) in
    let left : length behind ≡ length t = ap length (c.in-Some-argument_end.ensures.behind after.blanks after.inside t after.are_blanks is_argument after.text) in
    let size : length word + (length rest - length behind) ≡ length (word ++ own) =
    omega (arith, left, ap length parts, length-append own t, length-append word own) in
    (refl, cut (word ++ rest) (word ++ own) t _ whole size)

pub returns-in-None-clause-token : goal.returns-in-None-clause-token
returns-in-None-clause-token c t after =
    let same : Some c.in-Some.argument ≡ Some after.argument = c.in-Some.ensures ∙ after.named in
    let e : after.argument ≡ c.in-Some.argument = cc in
    absurd (c.in-None.ensures.behind after.blanks after.inside t after.are_blanks (subst (λ (a : ArgumentKind). IsArgument a after.inside) e after.is_inside) after.text)
