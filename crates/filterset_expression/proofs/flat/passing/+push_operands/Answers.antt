use Rattle.std.proofs.Common.{◌≡◌, List, Option, ◌+◌, ◌-◌, ◌∙◌, ap, arith, length-append, [], ◌∷◌, ◌++◌, length}
use Rattle.std.proofs.lemmas.Result.{on_ok_weaker}
use Rattle.filterset_expression.specs.Connectives.{Conjunction, Disjunction, ExclusiveDisjunction, Connective}
use Rattle.filterset_expression.specs.Expression.{with_default, CompiledLeaf}
use Rattle.filterset_expression.specs.FlatSteps.{Negate, Combine, postfix}
use Rattle.filterset_expression.proofs.Passing.{right_passed, of_compound, of_negation, pushed}
use Rattle.filterset_expression.specs.Formula.{Formula, Negation, Compound}
use Rattle.filterset_expression.specs.declared.flat.passing.RightOperand.{RightOperand}
use Rattle.filterset_expression.proofs.flat.passing.+push_operands.Goals as goal

-- what an operand of a negation adds, and the step of the negation
negation_counts : (f : Formula CompiledLeaf) (old begun new : List (Option RightOperand)) (last : Option RightOperand) → begun ≡ old ++ last ∷ [] → length new ≡ length begun + length (postfix f) → length new ≡ length old + length (postfix (Negation f))
negation_counts f old begun new last b n =
    omega (arith, n, ap length b ∙ length-append old (last ∷ []), length-append (postfix f) (Negate ∷ []))

-- what both operands of a connective add, and its step
compound_counts : (c : Connective) (f g : Formula CompiledLeaf) (old begun right new : List (Option RightOperand)) (last : Option RightOperand) → begun ≡ old ++ last ∷ [] → length right ≡ length begun + length (postfix g) → length new ≡ length right + length (postfix f) → length new ≡ length old + length (postfix (Compound c f g))
compound_counts c f g old begun right new last b r n =
    omega (arith, n, r, ap length b ∙ length-append old (last ∷ []), length-append (postfix f) (postfix g ++ Combine c ∷ []), length-append (postfix g) (Combine c ∷ []))

pub returns-in_ok-push-in-Not-clause-passed : goal.returns-in_ok-push-in-Not-clause-passed
returns-in_ok-push-in-Not-clause-passed t c =
    on_ok_weaker c.push_operands.result (λ inner default rest e d r l. rw (c.in-Not.is, ← c.deref.ensures) (of_negation (with_default default c.deref.result.now) rest _ (inner default (Negate ∷ rest) e d (pushed rest Negate c.args.operands.now.items c.push.new.self.items c.args.last c.in_ok-push-in-Not.ensures.items l r) tt))) c.push_operands.ensures.passed

pub returns-in_ok-push_operands-in-Union-clause-passed : goal.returns-in_ok-push_operands-in-Union-clause-passed
returns-in_ok-push_operands-in-Union-clause-passed t c = λ default rest e d r l.
    let f = with_default default c.deref-in-Union-2.result.now in
    let g = with_default default c.deref-in-Union.result.now in
    let start = pushed rest (Combine Disjunction) c.args.operands.now.items c.push-in-Union.new.self.items c.args.last c.in_ok-push-in-Union.ensures.items l r in
    let right = c.in_ok-cost-in-Union.ensures.passed default (Combine Disjunction ∷ rest) e d start tt in
    let counted : c.len.result - c.len-begin.result ≡ length (postfix g) + 1 = omega (arith, c.in_ok-cost-in-Union.ensures.length default e, c.len.ensures, c.len-begin.ensures, ap length c.in_ok-push-in-Union.ensures.items ∙ length-append c.args.operands.now.items (c.args.last ∷ [])) in
    let passed = right_passed c.right_operand-passed.result Disjunction _ g rest c.right_operand-passed.ensures counted in
    let both = c.in_ok-push_operands-in-Union.ensures.passed default (postfix g ++ Combine Disjunction ∷ rest) e d right passed in
    rw (c.in-Union.is, ← c.deref-in-Union.ensures, ← c.deref-in-Union-2.ensures) (of_compound Disjunction f g rest _ both)

pub returns-in_ok-push_operands-in-Intersection-clause-passed : goal.returns-in_ok-push_operands-in-Intersection-clause-passed
returns-in_ok-push_operands-in-Intersection-clause-passed t c = λ default rest e d r l.
    let f = with_default default c.deref-in-Intersection-2.result.now in
    let g = with_default default c.deref-in-Intersection.result.now in
    let start = pushed rest (Combine Conjunction) c.args.operands.now.items c.push-in-Intersection.new.self.items c.args.last c.in_ok-push-in-Intersection.ensures.items l r in
    let right = c.in_ok-cost-in-Intersection.ensures.passed default (Combine Conjunction ∷ rest) e d start tt in
    let counted : c.len-in-Intersection.result - c.len-begin-in-Intersection.result ≡ length (postfix g) + 1 = omega (arith, c.in_ok-cost-in-Intersection.ensures.length default e, c.len-in-Intersection.ensures, c.len-begin-in-Intersection.ensures, ap length c.in_ok-push-in-Intersection.ensures.items ∙ length-append c.args.operands.now.items (c.args.last ∷ [])) in
    let passed = right_passed c.right_operand-passed-in-Intersection.result Conjunction _ g rest c.right_operand-passed-in-Intersection.ensures counted in
    let both = c.in_ok-push_operands-in-Intersection.ensures.passed default (postfix g ++ Combine Conjunction ∷ rest) e d right passed in
    rw (c.in-Intersection.is, ← c.deref-in-Intersection.ensures, ← c.deref-in-Intersection-2.ensures) (of_compound Conjunction f g rest _ both)

pub returns-in_ok-push_operands-in-SymmetricDifference-clause-passed : goal.returns-in_ok-push_operands-in-SymmetricDifference-clause-passed
returns-in_ok-push_operands-in-SymmetricDifference-clause-passed t c = λ default rest e d r l.
    let f = with_default default c.deref-in-SymmetricDifference-2.result.now in
    let g = with_default default c.deref-in-SymmetricDifference.result.now in
    let start = pushed rest (Combine ExclusiveDisjunction) c.args.operands.now.items c.push-in-SymmetricDifference.new.self.items c.args.last c.in_ok-push-in-SymmetricDifference.ensures.items l r in
    let right = c.in_ok-cost-in-SymmetricDifference.ensures.passed default (Combine ExclusiveDisjunction ∷ rest) e d start tt in
    let both = c.in_ok-push_operands-in-SymmetricDifference.ensures.passed default (postfix g ++ Combine ExclusiveDisjunction ∷ rest) e d right tt in
    rw (c.in-SymmetricDifference.is, ← c.deref-in-SymmetricDifference.ensures, ← c.deref-in-SymmetricDifference-2.ensures) (of_compound ExclusiveDisjunction f g rest _ both)

pub returns-in_ok-push-in-Not-clause-grows : goal.returns-in_ok-push-in-Not-clause-grows
returns-in_ok-push-in-Not-clause-grows t c =
    on_ok_weaker c.push_operands.result (λ grows. omega (arith, grows, ap length c.in_ok-push-in-Not.ensures.items ∙ length-append c.args.operands.now.items (c.args.last ∷ []))) c.push_operands.ensures.grows

pub returns-in_ok-push-in-Not-clause-length : goal.returns-in_ok-push-in-Not-clause-length
returns-in_ok-push-in-Not-clause-length t c =
    on_ok_weaker c.push_operands.result (λ inner default e. rw (c.in-Not.is, ← c.deref.ensures) (negation_counts (with_default default c.deref.result.now) c.args.operands.now.items c.push.new.self.items c.push_operands.new.operands.items c.args.last c.in_ok-push-in-Not.ensures.items (inner default e))) c.push_operands.ensures.length

pub returns-in_ok-push_operands-in-Union-clause-grows : goal.returns-in_ok-push_operands-in-Union-clause-grows
returns-in_ok-push_operands-in-Union-clause-grows t c =
    omega (arith, c.in_ok-push_operands-in-Union.ensures.grows, c.in_ok-cost-in-Union.ensures.grows, ap length c.in_ok-push-in-Union.ensures.items ∙ length-append c.args.operands.now.items (c.args.last ∷ []))

pub returns-in_ok-push_operands-in-Union-clause-length : goal.returns-in_ok-push_operands-in-Union-clause-length
returns-in_ok-push_operands-in-Union-clause-length t c = λ default e.
    let f = with_default default c.deref-in-Union-2.result.now in
    let g = with_default default c.deref-in-Union.result.now in
    rw (c.in-Union.is, ← c.deref-in-Union.ensures, ← c.deref-in-Union-2.ensures) (compound_counts Disjunction f g c.args.operands.now.items c.push-in-Union.new.self.items c.push_operands-in-Union.new.operands.items c.push_operands-in-Union-2.new.operands.items c.args.last c.in_ok-push-in-Union.ensures.items (c.in_ok-cost-in-Union.ensures.length default e) (c.in_ok-push_operands-in-Union.ensures.length default e))

pub returns-in_ok-push_operands-in-Intersection-clause-grows : goal.returns-in_ok-push_operands-in-Intersection-clause-grows
returns-in_ok-push_operands-in-Intersection-clause-grows t c =
    omega (arith, c.in_ok-push_operands-in-Intersection.ensures.grows, c.in_ok-cost-in-Intersection.ensures.grows, ap length c.in_ok-push-in-Intersection.ensures.items ∙ length-append c.args.operands.now.items (c.args.last ∷ []))

pub returns-in_ok-push_operands-in-Intersection-clause-length : goal.returns-in_ok-push_operands-in-Intersection-clause-length
returns-in_ok-push_operands-in-Intersection-clause-length t c = λ default e.
    let f = with_default default c.deref-in-Intersection-2.result.now in
    let g = with_default default c.deref-in-Intersection.result.now in
    rw (c.in-Intersection.is, ← c.deref-in-Intersection.ensures, ← c.deref-in-Intersection-2.ensures) (compound_counts Conjunction f g c.args.operands.now.items c.push-in-Intersection.new.self.items c.push_operands-in-Intersection.new.operands.items c.push_operands-in-Intersection-2.new.operands.items c.args.last c.in_ok-push-in-Intersection.ensures.items (c.in_ok-cost-in-Intersection.ensures.length default e) (c.in_ok-push_operands-in-Intersection.ensures.length default e))

pub returns-in_ok-push_operands-in-SymmetricDifference-clause-grows : goal.returns-in_ok-push_operands-in-SymmetricDifference-clause-grows
returns-in_ok-push_operands-in-SymmetricDifference-clause-grows t c =
    omega (arith, c.in_ok-push_operands-in-SymmetricDifference.ensures.grows, c.in_ok-cost-in-SymmetricDifference.ensures.grows, ap length c.in_ok-push-in-SymmetricDifference.ensures.items ∙ length-append c.args.operands.now.items (c.args.last ∷ []))

pub returns-in_ok-push_operands-in-SymmetricDifference-clause-length : goal.returns-in_ok-push_operands-in-SymmetricDifference-clause-length
returns-in_ok-push_operands-in-SymmetricDifference-clause-length t c = λ default e.
    let f = with_default default c.deref-in-SymmetricDifference-2.result.now in
    let g = with_default default c.deref-in-SymmetricDifference.result.now in
    rw (c.in-SymmetricDifference.is, ← c.deref-in-SymmetricDifference.ensures, ← c.deref-in-SymmetricDifference-2.ensures) (compound_counts ExclusiveDisjunction f g c.args.operands.now.items c.push-in-SymmetricDifference.new.self.items c.push_operands-in-SymmetricDifference.new.operands.items c.push_operands-in-SymmetricDifference-2.new.operands.items c.args.last c.in_ok-push-in-SymmetricDifference.ensures.items (c.in_ok-cost-in-SymmetricDifference.ensures.length default e) (c.in_ok-push_operands-in-SymmetricDifference.ensures.length default e))

pub overflow_sub-len : goal.overflow_sub-len
overflow_sub-len t c = omega (arith, c.in_ok-cost-in-Union.ensures.grows, c.len.ensures, c.len-begin.ensures, ap length c.in_ok-push-in-Union.ensures.items ∙ length-append c.args.operands.now.items (c.args.last ∷ []))

pub overflow_sub-len-in-Intersection : goal.overflow_sub-len-in-Intersection
overflow_sub-len-in-Intersection t c = omega (arith, c.in_ok-cost-in-Intersection.ensures.grows, c.len-in-Intersection.ensures, c.len-begin-in-Intersection.ensures, ap length c.in_ok-push-in-Intersection.ensures.items ∙ length-append c.args.operands.now.items (c.args.last ∷ []))

pub returns-in-Set-clause-grows : goal.returns-in-Set-clause-grows
returns-in-Set-clause-grows t c = c.push_leaf.ensures.grows

pub returns-in-Set-clause-length : goal.returns-in-Set-clause-length
returns-in-Set-clause-length t c = rw c.in-Set.is c.push_leaf.ensures.length

pub returns-in-Set-clause-passed : goal.returns-in-Set-clause-passed
returns-in-Set-clause-passed t c = rw c.in-Set.is c.push_leaf.ensures.passed
