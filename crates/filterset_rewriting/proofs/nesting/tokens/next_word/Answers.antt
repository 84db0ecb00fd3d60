use Rattle.std.proofs.Common.{◌≡◌, ◌∙◌, ◌++◌, List, ℕ, ap, drop, subst, sym, take}
use Rattle.std.proofs.lemmas.List.{take-append-drop}
use Rattle.filterset_rewriting.specs.Nesting.Tokens.{IsPredicateAfter, word_token}
use Rattle.filterset_rewriting.proofs.Lexing.{by_operator, by_predicate, no_word, wordy}
use Rattle.filterset_rewriting.proofs.nesting.tokens.next_word.Goals as goal

pub returns-then-len-eq0-clause-token : goal.returns-then-len-eq0-clause-token
returns-then-len-eq0-clause-token c token t begins =
    absurd (no_word _ _ _ (wordy begins c.requires.no_sign) (sym c.word_len-len.ensures ∙ c.if-len-eq0.true))

pub returns-in-Some-clause-token : goal.returns-in-Some-clause-token
returns-in-Some-clause-token c token t begins =
    by_operator _ _ _ (wordy begins c.requires.no_sign) c.word_len-len.result c.word_len-len.ensures c.in-Some.token
    (ap word_token (sym c.split_at.ensures.front) ∙ sym c.in-Some.ensures)

pub returns-in-None-clause-token : goal.returns-in-None-clause-token
returns-in-None-clause-token c token t begins =
    let n = c.word_len-len.result in
    let text = c.args.text.now in
    let front = c.split_at.ensures.front in
    let back = c.split_at.ensures.back in
    let b = by_predicate _ _ _ (wordy begins c.requires.no_sign) n c.word_len-len.ensures (ap word_token (sym front) ∙ sym c.in-None.ensures) in
    let after : IsPredicateAfter c.split_at.result.0.now c.split_at.result.1.now t =
    subst (λ (x : List ℕ). IsPredicateAfter x c.split_at.result.1.now t) (sym front) (subst (λ (x : List ℕ). IsPredicateAfter (take n text) x t) (sym back) b.1) in
    let r = c.next_predicate.ensures.token t after in
    let whole : text ≡ c.split_at.result.0.now ++ c.split_at.result.1.now =
    sym (take-append-drop n text) ∙ (λ i. sym front i ++ sym back i) in
    (r.0 ∙ b.0, ap (drop c.next_predicate.result.len) whole ∙ r.1)
