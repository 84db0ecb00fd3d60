use Rattle.std.proofs.Common.{◌≡◌, ◌≢◌, ℕ, ◌+◌, ◌*◌, ◌/◌, ◌%◌, ◌<◌, length, get_or, ap, sym, subst, ◌∙◌, arith, ⊎_elim, length-set}
use Rattle.std.specs.Int.{bit_at}
use Rattle.std.proofs.lemmas.{Bool.cases_lt, List.get_or-set_other}
use Rattle.filterset_glob.specs.{Matching.Admits, Tokens.token_of}
use Rattle.filterset_glob.proofs.PositionSets.{Has-word, Has-set_other, Has-set_same, Has-within}
use Rattle.filterset_glob.proofs.words.keep_later.Goals as goal

pub loop-at-preserved : goal.loop-at-preserved
loop-at-preserved c =
    let i = c.loop-at.invariant in
    let e = c.keep_block.ensures in
    let old = c.args.words.now in
    let ws = c.loop-at.words in
    let at = c.loop-at.at in
    let s = c.keep_block.result in
    let within : at < length ws = omega arith in
    let word : get_or ws at 0 ≡ get_or old at 0 = i.same at (omega arith) in
    let position = λ (k : ℕ) (here : k / 64 ≡ at). let z : 64 * (at + 1) + k % 64 ≡ 64 + k = omega arith in z in
    let admits = λ (k : ℕ). Admits (token_of c.args.token.now) (get_or c.args.text.now k 0) in
    record {
      long = omega (arith, length-set {A = ℕ});
      kept = λ k lt inside has. ⊎_elim (λ l. i.kept k l inside ((Has-set_other ws at s k (omega arith)).0 has))
          (λ ge. let here : k / 64 ≡ at = omega arith in
          let both = e.kept (k % 64) (omega arith) (omega arith) ((Has-set_same ws at s k within here).0 has) in
          ((Has-word old at k here).1 (ap (λ w. bit_at w (k % 64)) (sym word) ∙ both.0), subst admits (position k here) both.1)) (cases_lt k (64 * at));
      keeps = λ k lt inside has takes. ⊎_elim (λ l. (Has-set_other ws at s k (omega arith)).1 (i.keeps k l inside has takes))
          (λ ge. let here : k / 64 ≡ at = omega arith in
          (Has-set_same ws at s k within here).1 (e.keeps (k % 64) (omega arith) (omega arith) (ap (λ w. bit_at w (k % 64)) word ∙ (Has-word old at k here).0 has)
          (subst admits (sym (position k here)) takes))) (cases_lt k (64 * at));
      same = λ k le. let ne : k ≢ at = omega arith in get_or-set_other ws at k s 0 ne ∙ i.same k (omega arith);
    }

pub returns-clause-kept : goal.returns-clause-kept
returns-clause-kept c k inside h = c.loop-at.invariant.kept k (omega (arith, Has-within c.loop-at.words k h)) inside h

pub returns-clause-keeps : goal.returns-clause-keeps
returns-clause-keeps c k inside h takes = c.loop-at.invariant.keeps k (omega (arith, Has-within c.args.words.now k h)) inside h takes
