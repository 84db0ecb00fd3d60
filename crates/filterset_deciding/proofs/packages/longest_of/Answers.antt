use Rattle.std.proofs.Common.{arith, ◌≡◌, ◌≤◌, ℕ, List, length, ap, inl, inr, max, rules, ⊎_elim}
use Rattle.filterset_deciding.proofs.Rules.{passed_one, passed_all}
use Rattle.filterset_deciding.proofs.packages.longest_of.Goals as goal

pub loop-id-preserved : goal.loop-id-preserved
loop-id-preserved c =
    let Q : List ℕ → Type 0 = λ x. length x ≤ c.max-longest.result in
    let e : length c.repr.result.now ≡ length c.in-Some.id.now = ap length c.repr.ensures in
    let most : c.max-longest.result ≡ max c.loop-id.longest (length c.repr.result.now) = search rules in
    let own : length c.in-Some.id.now ≤ c.max-longest.result = omega (arith, e, most) in
    passed_one Q c.args.ids.now.keys c.loop-id.id-iterator c.next.new.self c.in-Some.id.now c.in-Some.ensures.steps own
    (λ x h. ⊎_elim (λ p. inl (let r : length x ≤ c.max-longest.result = omega (arith, p, most) in r)) (λ left. inr left) (c.loop-id.invariant x h))

pub returns : goal.returns
returns c = λ id has.
    passed_all (λ x. length x ≤ c.loop-id.longest) c.args.ids.now.keys c.loop-id.id-iterator c.in-None.ensures.steps.0 c.loop-id.invariant id has
