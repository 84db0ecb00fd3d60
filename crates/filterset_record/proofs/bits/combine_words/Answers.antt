use Rattle.filterset_record.proofs.BitLemmas.{and_bit, or_bit, xor_bit}
use Rattle.filterset_record.proofs.bits.combine_words.Goals as goal

pub returns-in-Conjunction : goal.returns-in-Conjunction
returns-in-Conjunction c = λ i. rw c.in-Conjunction.is (and_bit c.args.left c.args.right i)

pub returns-in-Disjunction : goal.returns-in-Disjunction
returns-in-Disjunction c = λ i. rw c.in-Disjunction.is (or_bit c.args.left c.args.right i)

pub returns-in-ExclusiveDisjunction : goal.returns-in-ExclusiveDisjunction
returns-in-ExclusiveDisjunction c = λ i. rw c.in-ExclusiveDisjunction.is (xor_bit c.args.left c.args.right i)
