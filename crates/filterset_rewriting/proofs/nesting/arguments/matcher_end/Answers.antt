use Rattle.std.proofs.Common.{◌≡◌, ◌++◌, ◌∷◌, ◌∙◌, List, ℕ, append_assoc, ap, refl, sym}
use Rattle.filterset_language.proofs.SpelledLeavesAreRead.{byte_stop, close_stop}
use Rattle.filterset_language.specs.Parsing.RawTexts.{body_len}
use Rattle.filterset_rewriting.specs.Nesting.Arguments.{raw, regex}
use Rattle.filterset_rewriting.proofs.ArgumentLemmas.{cut, over_body}
use Rattle.filterset_rewriting.proofs.nesting.arguments.matcher_end.Goals as goal

regex_text : (inside before body behind t : List ℕ) → inside ≡ before ++ (47 ∷ (body ++ 47 ∷ behind)) → inside ++ 41 ∷ t ≡ before ++ (47 ∷ (body ++ 47 ∷ (behind ++ 41 ∷ t)))
regex_text inside before body behind t is = ap (λ (x : List ℕ). x ++ 41 ∷ t) is ∙ simp append_assoc

raw_text : (inside before own t : List ℕ) → inside ≡ before ++ own → inside ++ 41 ∷ t ≡ before ++ (own ++ 41 ∷ t)
raw_text inside before own t is = ap (λ (x : List ℕ). x ++ 41 ∷ t) is ∙ append_assoc before own (41 ∷ t)

pub returns-in_default-clause-behind : goal.returns-in_default-clause-behind
returns-in_default-clause-behind c inside t (regex before body behind are is_body last whole) is =
    let more : List ℕ = body ++ 47 ∷ (behind ++ 41 ∷ t) in
    let start = c.skip_blanks-start.ensures.skipped before (47 ∷ more) are (byte_stop 47 more refl refl) (is ∙ regex_text inside before body behind t whole) in
    absurd (c.in_default.ensures.behind more start)
returns-in_default-clause-behind c inside t (raw before own are is_raw stop no_slash whole) is =
    c.raw_end.ensures.behind own t is_raw (c.skip_blanks-start.ensures.skipped before (own ++ 41 ∷ t) are (stop t) (is ∙ raw_text inside before own t whole))

pub returns-in_err-end-clause-behind : goal.returns-in_err-end-clause-behind
returns-in_err-end-clause-behind c inside t (regex before body behind are is_body last whole) is =
    let rest : List ℕ = behind ++ 41 ∷ t in
    let more : List ℕ = body ++ 47 ∷ rest in
    let start = c.skip_blanks-start.ensures.skipped before (47 ∷ more) are (byte_stop 47 more refl refl) (is ∙ regex_text inside before body behind t whole) in
    let own : c.in-Some.body.now ≡ more = c.in-Some.ensures.behind more start in
    absurd (c.in_err-end.ensures.behind rest (c.split_at.ensures.back ∙ cut _ body (47 ∷ rest) _ own (c.body_len.ensures.value ∙ ap (body_len 0) own ∙ over_body body rest is_body)))
returns-in_err-end-clause-behind c inside t (raw before own are is_raw stop no_slash whole) is =
    let start = c.skip_blanks-start.ensures.skipped before (own ++ 41 ∷ t) are (stop t) (is ∙ raw_text inside before own t whole) in
    absurd (no_slash t c.in-Some.body.now (sym start ∙ c.in-Some.ensures.there))

pub returns-clause-behind : goal.returns-clause-behind
returns-clause-behind c inside t (regex before body behind are is_body last whole) is =
    let rest : List ℕ = behind ++ 41 ∷ t in
    let more : List ℕ = body ++ 47 ∷ rest in
    let start = c.skip_blanks-start.ensures.skipped before (47 ∷ more) are (byte_stop 47 more refl refl) (is ∙ regex_text inside before body behind t whole) in
    let own : c.in-Some.body.now ≡ more = c.in-Some.ensures.behind more start in
    let end = c.in_ok-end.ensures.behind rest (c.split_at.ensures.back ∙ cut _ body (47 ∷ rest) _ own (c.body_len.ensures.value ∙ ap (body_len 0) own ∙ over_body body rest is_body)) in
    c.after_byte-3.ensures.behind t (c.skip_blanks.ensures.skipped behind (41 ∷ t) last (close_stop t) end)
returns-clause-behind c inside t (raw before own are is_raw stop no_slash whole) is =
    let start = c.skip_blanks-start.ensures.skipped before (own ++ 41 ∷ t) are (stop t) (is ∙ raw_text inside before own t whole) in
    absurd (no_slash t c.in-Some.body.now (sym start ∙ c.in-Some.ensures.there))
