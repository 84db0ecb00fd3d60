use Rattle.std.proofs.Common.{◌≡◌, [], append-nil, sym, ◌∙◌, subst, string_bytes}
use Rattle.std.specs.Str.Iter.{HasSubslice}
use Rattle.filterset_matchers.proofs.Literals.{stands_in_name}
use Rattle.filterset_matchers.specs.{Literals.StandsInEach, Matchers.matcher_of}
use Rattle.nextest_filtering.proofs.Patterns.{alone_stands}
use Rattle.nextest_filtering.proofs.compile.literal.find_texts.Goals as goal

pub returns-in_ok-from_str-in-Equal-clause-stands : goal.returns-in_ok-from_str-in-Equal-clause-stands
returns-in_ok-from_str-in-Equal-clause-stands c =
    let text = string_bytes c.in_ok-from_str-in-Equal.field-0 in
    let same : text ≡ string_bytes c.in-Equal.value = c.in_ok-from_str-in-Equal.ensures.ok ∙ c.as_str.ensures.value in
    alone_stands (matcher_of c.args.matcher.now) text c.list_filled.result
    (λ name whole matches. let is : name ≡ string_bytes c.in-Equal.value = rw c.in-Equal.is at matches in ([], [], is ∙ sym same ∙ sym (append-nil text)))
    c.list_filled.ensures.alone

pub returns-in_ok-from_str-in-Contains-clause-stands : goal.returns-in_ok-from_str-in-Contains-clause-stands
returns-in_ok-from_str-in-Contains-clause-stands c =
    let text = string_bytes c.in_ok-from_str-in-Contains.field-0 in
    let same : text ≡ string_bytes c.in-Contains.value = c.in_ok-from_str-in-Contains.ensures.ok ∙ c.as_str-in-Contains.ensures.value in
    alone_stands (matcher_of c.args.matcher.now) text c.list_filled-in-Contains.result
    (λ name whole matches. let stands : HasSubslice name (string_bytes c.in-Contains.value) = rw c.in-Contains.is at matches in subst (HasSubslice name) (sym same) stands)
    c.list_filled-in-Contains.ensures.alone

pub returns-in_ok-find_rare_literal-in-Glob-clause-stands : goal.returns-in_ok-find_rare_literal-in-Glob-clause-stands
returns-in_ok-find_rare_literal-in-Glob-clause-stands c =
    let text = string_bytes c.in_ok-find_rare_literal-in-Glob.field-0 in
    let stands : StandsInEach c.in-Glob.glob.tokens text = subst (λ ts. StandsInEach ts text) c.tokens.ensures.tokens c.in_ok-find_rare_literal-in-Glob.ensures in
    alone_stands (matcher_of c.args.matcher.now) text c.list_filled-in-Glob.result
    (λ name whole matches. stands_in_name c.in-Glob.glob.tokens text name whole stands (rw c.in-Glob.is at matches))
    c.list_filled-in-Glob.ensures.alone
