use Rattle.std.proofs.Common.{rules, ◌≡◌, inl, inr, true, [], ◌∷◌}
use Rattle.filterset_glob.specs.{Matching.MatchesToken, Tokens.any_char, Tokens.class, Tokens.literal, Tokens.star}
use Rattle.filterset_texts.specs.Parts.{Fits}
use Rattle.filterset_texts.proofs.{Cuts.together_then, Rows.made_so}
use Rattle.filterset_texts.proofs.TokenTexts.{any_char_fits, class_fits, first_run_fits, last_run_fits, literal_matches, middle_run_fits, star_fits}
use Rattle.filterset_texts.specs.declared.part.Part.TheVariants as part
use Rattle.filterset_texts.proofs.tokens.expand_plain.Goals as goal

pub returns-in_ok-make_literal-in-Literal-clause-matched : goal.returns-in_ok-make_literal-in-Literal-clause-matched
returns-in_ok-make_literal-in-Literal-clause-matched c =
    let own = c.in-Literal.c in
    let F = Fits (c.in_ok-make_literal-in-Literal.field-0 ∷ []) in
    rw c.in-Literal.is (made_so c.make_one.result F (MatchesToken (literal own)) (together_then F (λ text. text ≡ own ∷ []) (MatchesToken (literal own)) c.in_ok-make_literal-in-Literal.ensures (literal_matches own)) c.make_one.ensures.matched)

pub returns-in-AnyChar-clause-matched : goal.returns-in-AnyChar-clause-matched
returns-in-AnyChar-clause-matched c =
    let ranges = c.new.result in
    rw c.in-AnyChar.is (made_so c.make_one-in-AnyChar.result (Fits (part.One true ranges ∷ [])) (MatchesToken any_char) (any_char_fits ranges c.new.ensures.items) c.make_one-in-AnyChar.ensures.matched)

pub returns-in_ok-to_vec-in-Class-clause-matched : goal.returns-in_ok-to_vec-in-Class-clause-matched
returns-in_ok-to_vec-in-Class-clause-matched c =
    let negated = c.in-Class.negated in
    let own = c.in-Class.ranges.items in
    let ranges = c.in_ok-to_vec-in-Class.field-0 in
    let same : ranges.items ≡ own = search rules in
    rw c.in-Class.is (made_so c.make_one-in-Class.result (Fits (part.One negated ranges ∷ [])) (MatchesToken (class negated own)) (class_fits negated ranges own same) c.make_one-in-Class.ensures.matched)

pub returns-in_ok-vec-in-DeepFirst-clause-matched : goal.returns-in_ok-vec-in-DeepFirst-clause-matched
returns-in_ok-vec-in-DeepFirst-clause-matched c =
    rw (c.in-DeepFirst.is, c.in_ok-vec-in-DeepFirst.ensures.items) (first_run_fits c.new-in-DeepFirst.result c.in_ok-behind-in-DeepFirst.behind c.in_ok-slash-in-DeepFirst.slash c.new-in-DeepFirst.ensures.items c.in_ok-behind-in-DeepFirst.ensures.items c.in_ok-slash-in-DeepFirst.ensures)

pub returns-in_ok-vec-in-DeepMid-clause-matched : goal.returns-in_ok-vec-in-DeepMid-clause-matched
returns-in_ok-vec-in-DeepMid-clause-matched c =
    rw (c.in-DeepMid.is, c.in_ok-vec-in-DeepMid.ensures.items) (middle_run_fits c.in_ok-alone-in-DeepMid.alone c.in_ok-between-in-DeepMid.between c.in_ok-only-in-DeepMid.only c.in_ok-first-in-DeepMid.first c.in_ok-last-in-DeepMid.last c.in_ok-alone-in-DeepMid.ensures.items c.in_ok-between-in-DeepMid.ensures.items c.in_ok-only-in-DeepMid.ensures c.in_ok-first-in-DeepMid.ensures c.in_ok-last-in-DeepMid.ensures)

pub returns-in_ok-vec-in-DeepLast-clause-matched : goal.returns-in_ok-vec-in-DeepLast-clause-matched
returns-in_ok-vec-in-DeepLast-clause-matched c =
    rw (c.in-DeepLast.is, c.in_ok-vec-in-DeepLast.ensures.items) (last_run_fits c.in_ok-sequence-in-DeepLast.sequence c.in_ok-before-in-DeepLast.before c.in_ok-sequence-in-DeepLast.ensures.items c.in_ok-before-in-DeepLast.ensures)

pub returns-in-Star-clause-matched : goal.returns-in-Star-clause-matched
returns-in-Star-clause-matched c =
    elim c.in-Star.is [
      | inl e ↦ rw e (made_so c.make_one-in-Star.result (Fits (part.Any ∷ [])) (MatchesToken star) star_fits c.make_one-in-Star.ensures.matched)
      | inr e ↦ absurd (c.requires e.0 e.1)
    ]
