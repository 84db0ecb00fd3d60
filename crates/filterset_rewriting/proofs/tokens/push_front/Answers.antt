use Rattle.std.proofs.Common.{arith, ◌∙◌, ◌∷◌, ◌++◌, [], List, ap, subst, sym}
use Rattle.filterset_rewriting.specs.Tokens.{Advances, token, word_kind}
use Rattle.filterset_rewriting.specs.declared.tokens.{Token.Token, TokenKind.TokenKind}
use Rattle.filterset_rewriting.proofs.TokenLemmas.{over_other, over_sign, over_word}
use Rattle.filterset_rewriting.proofs.tokens.push_front.Goals as goal

pub returns-then-len-gt0-clause-tokens : goal.returns-then-len-gt0-clause-tokens
returns-then-len-gt0-clause-tokens c =
    let text = c.args.text.now in
    let len = c.word_len-len.result in
    let old : List Token = c.args.tokens.now.items in
    let with_kind : TokenKind → Token = λ kind. token c.args.at len kind in
    let with : Token → List Token = λ t. old ++ t ∷ [] in
    let kind = c.word_kind.ensures ∙ ap word_kind c.split_at.ensures.front in
    let items = c.in_ok-push.ensures.items ∙ ap with (c.make_token.ensures ∙ ap with_kind kind) in
    let Is : List Token → Type 0 = λ new. Advances c.args.at text len old new in
    subst Is (sym items) (over_word c.args.at text len old c.word_len-len.ensures (omega arith))

pub returns-in_ok-push-2-clause-tokens : goal.returns-in_ok-push-2-clause-tokens
returns-in_ok-push-2-clause-tokens c =
    let text = c.args.text.now in
    let old : List Token = c.args.tokens.now.items in
    let with : Token → List Token = λ t. old ++ t ∷ [] in
    let items = c.in_ok-push-2.ensures.items ∙ ap with c.make_token-then-is_sign.ensures in
    let Is : List Token → Type 0 = λ new. Advances c.args.at text 1 old new in
    subst Is (sym items) (over_sign c.args.at text old c.requires (omega arith) (sym c.is_sign.ensures ∙ c.if-is_sign.true))

pub returns-else-is_sign-clause-tokens : goal.returns-else-is_sign-clause-tokens
returns-else-is_sign-clause-tokens c =
    over_other c.args.at c.args.text.now c.args.tokens.now.items c.requires (omega arith) (sym c.is_sign.ensures ∙ c.if-is_sign.false)
