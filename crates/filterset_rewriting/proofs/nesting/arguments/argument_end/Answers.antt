use Rattle.std.proofs.Common.{◌∷◌, ◌++◌, ◌∙◌, ap, subst}
use Rattle.filterset_language.proofs.{SpelledLeavesAreRead.open_stop, WhiteSpaceTest.white_close}
use Rattle.filterset_language.specs.Parsing.Front.{close_len}
use Rattle.filterset_rewriting.proofs.ArgumentLemmas.{cut}
use Rattle.filterset_rewriting.specs.Nesting.Arguments.{IsArgument}
use Rattle.filterset_rewriting.specs.declared.nesting.arguments.ArgumentKind.{ArgumentKind, TheVariants.Nothing}
use Rattle.filterset_rewriting.proofs.nesting.arguments.argument_end.Goals as goal

pub returns-in_err-inside-clause-behind : goal.returns-in_err-inside-clause-behind
returns-in_err-inside-clause-behind c blanks inside t are is_argument is =
    absurd (c.in_err-inside.ensures.behind (inside ++ 41 ∷ t) (c.skip_blanks.ensures.skipped blanks (40 ∷ (inside ++ 41 ∷ t)) are (open_stop (inside ++ 41 ∷ t)) is))

pub returns-in-Nothing-clause-behind : goal.returns-in-Nothing-clause-behind
returns-in-Nothing-clause-behind c blanks inside t are is_argument is =
    let e = c.in_ok-inside.ensures.behind (inside ++ 41 ∷ t) (c.skip_blanks.ensures.skipped blanks (40 ∷ (inside ++ 41 ∷ t)) are (open_stop (inside ++ 41 ∷ t)) is) in
    let white : IsArgument Nothing inside = subst (λ (a : ArgumentKind). IsArgument a inside) c.in-Nothing.is is_argument in
    c.after_byte-in-Nothing.ensures.behind t (c.split_at.ensures.back ∙ cut _ inside _ _ e (c.close_len.ensures.value ∙ ap close_len e ∙ white_close inside t white))

pub returns-in-Raw-clause-behind : goal.returns-in-Raw-clause-behind
returns-in-Raw-clause-behind c blanks inside t are is_argument is =
    let e = c.in_ok-inside.ensures.behind (inside ++ 41 ∷ t) (c.skip_blanks.ensures.skipped blanks (40 ∷ (inside ++ 41 ∷ t)) are (open_stop (inside ++ 41 ∷ t)) is) in
    c.raw_end.ensures.behind inside t (subst (λ (a : ArgumentKind). IsArgument a inside) c.in-Raw.is is_argument) e

pub returns-in-Matcher-clause-behind : goal.returns-in-Matcher-clause-behind
returns-in-Matcher-clause-behind c blanks inside t are is_argument is =
    let e = c.in_ok-inside.ensures.behind (inside ++ 41 ∷ t) (c.skip_blanks.ensures.skipped blanks (40 ∷ (inside ++ 41 ∷ t)) are (open_stop (inside ++ 41 ∷ t)) is) in
    c.matcher_end.ensures.behind inside t (subst (λ (a : ArgumentKind). IsArgument a inside) c.in-Matcher.is is_argument) e
