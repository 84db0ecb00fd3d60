use Rattle.std.proofs.Common.{rules, arith, IsTrue}
use Rattle.filterset_c.proofs.matching.match_tests.Goals as goal

pub numbers_by_steps-requires : goal.numbers_by_steps-requires
numbers_by_steps-requires c = c.are_texts.ensures.0 (search (rules, c.if-not-are_texts.false))

pub returns-in_err-known-clause-not_utf8 : goal.returns-in_err-known-clause-not_utf8
returns-in_err-known-clause-not_utf8 c platform not =
    let yes : IsTrue c.are_texts.result = search (rules, c.if-not-are_texts.false) in
    let is = c.in_err-known.ensures.not_utf8 platform (λ texts. not (texts, c.are_texts.ensures.0 yes)) in
    first_of (search (rules, is, c.from_residual-in_err-known.ensures), grind (arith, is, c.from_residual-in_err-known.ensures))

pub returns-in_err-numbers-clause-not_utf8 : goal.returns-in_err-numbers-clause-not_utf8
returns-in_err-numbers-clause-not_utf8 c platform not =
    let yes : IsTrue c.are_texts.result = search (rules, c.if-not-are_texts.false) in
    absurd (not (c.in_ok-known.ensures.texts, c.are_texts.ensures.0 yes))

pub returns-clause-not_utf8 : goal.returns-clause-not_utf8
returns-clause-not_utf8 c platform not =
    let yes : IsTrue c.are_texts.result = search (rules, c.if-not-are_texts.false) in
    absurd (not (c.in_ok-known.ensures.texts, c.are_texts.ensures.0 yes))

pub returns-clause-numbers : goal.returns-clause-numbers
returns-clause-numbers c = c.in_ok-numbers.ensures c.args.binary.now (c.query.ensures c.args.binary.now c.in_ok-known.ensures.known)
