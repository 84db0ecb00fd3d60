use Rattle.std.proofs.Common.{◌≡◌, ◌≢◌, ap, sym, subst, ◌∙◌, arith, ⊎_elim, slice_index}
use Rattle.std.specs.Int.{bit_at}
use Rattle.std.proofs.lemmas.Bool.{cases_eq}
use Rattle.filterset_glob.specs.{Matching.Admits, Tokens.token_of}
use Rattle.filterset_glob.proofs.words.keep_first.Goals as goal

pub returns-clause-kept : goal.returns-clause-kept
returns-clause-kept c k small within h =
    let bit = λ (i : _). bit_at c.args.word i ≡ 1 in
    let apart : c.lowest-second.result ≢ c.lowest-lowest.result = λ e. omega (arith, ap (bit_at c.remove-others.result) e, c.remove-others.ensures.clear, c.lowest-second.ensures.set) in
    let second = sym (c.remove-others.ensures.others c.lowest-second.result apart) ∙ c.lowest-second.ensures.set in
    ⊎_elim (λ one. let p = c.keep_alone-2.ensures.kept k within one in (subst bit (sym p.0) c.lowest-lowest.ensures.set, p.1))
    (λ one. let p = c.keep_alone-3.ensures.kept k within one in (subst bit (sym p.0) second, p.1)) (c.unite.ensures.joined k h)

pub returns-clause-keeps : goal.returns-clause-keeps
returns-clause-keeps c k small within set takes =
    let admits = λ (i : _). Admits (token_of c.args.token.now) (slice_index c.args.text.now i) in
    ⊎_elim (λ is. c.unite.ensures.kept k (subst (λ i. bit_at c.keep_alone-2.result i ≡ 1) (sym is) (c.keep_alone-2.ensures.keeps (omega (arith, is)) (subst admits is takes))))
    (λ ne.
    let there = c.remove-others.ensures.others k ne ∙ set in
    let is : k ≡ c.lowest-second.result = c.mask_of.ensures.alone k (ap (λ w. bit_at w k) (sym c.if-others-mask_of.false) ∙ there) in
    c.unite.ensures.added k (subst (λ i. bit_at c.keep_alone-3.result i ≡ 1) (sym is) (c.keep_alone-3.ensures.keeps (omega (arith, is)) (subst admits is takes))))
    (cases_eq k c.lowest-lowest.result)
