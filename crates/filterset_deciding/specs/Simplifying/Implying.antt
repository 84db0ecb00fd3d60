-- Implications between trees that can be seen without asking what their predicates match.
use Rattle.std.specs.Prelude.{◌||◌, ◌++◌, ◌∷◌, [], Bool, List}
use Rattle.filterset_grammar.specs.Tree.{Tree, Union, Join}
use Rattle.filterset_grammar.specs.declared.operators.Joiner.TheVariants.{Both, Without}
use Rattle.filterset_deciding.specs.Simplifying.Alike.{alike}

-- the operands of a chain of unions, from left to right
abbrev pub disjuncts : {S : Type 0} → Tree S → List (Tree S)
disjuncts (Union op l r) = disjuncts l ++ disjuncts r
disjuncts e = e ∷ []

-- the operands of a chain of intersections, from left to right
abbrev pub conjuncts : {S : Type 0} → Tree S → List (Tree S)
conjuncts (Join (Both op) l r) = conjuncts l ++ conjuncts r
conjuncts e = e ∷ []

-- those operands, and with a difference the facts of its left operand: where the chain holds, each of them does
abbrev pub facts : {S : Type 0} → Tree S → List (Tree S)
facts (Join (Both op) l r) = facts l ++ facts r
facts (Join (Without op) l r) = Join (Without op) l r ∷ facts l
facts e = e ∷ []

-- the tree says the other: it is like it, or an operand of an intersection or the left operand of a difference says it
abbrev pub says : {S : Type 0} → Tree S → Tree S → Bool
says (Join (Both op) l r) other = alike (Join (Both op) l r) other || says l other || says r other
says (Join (Without op) l r) other = alike (Join (Without op) l r) other || says l other
says e other = alike e other

-- the tree admits the other: the other is like it, or an operand of a union admits it
abbrev pub admits : {S : Type 0} → Tree S → Tree S → Bool
admits (Union op l r) other = alike other (Union op l r) || admits l other || admits r other
admits e other = alike other e

-- the tree says the other, or an operand of the other if that is a union
abbrev pub implies : {S : Type 0} → Tree S → Tree S → Bool
implies e (Union op l r) = says e (Union op l r) || implies e l || implies e r
implies e other = says e other

-- ---- what only contracts of private functions cite

-- the tree says a disjunct of the other
abbrev pub says_one_of : {S : Type 0} → Tree S → Tree S → Bool
says_one_of e (Union op l r) = says_one_of e l || says_one_of e r
says_one_of e other = says e other

-- the tree admits a fact of the other
abbrev pub admits_fact_of : {S : Type 0} → Tree S → Tree S → Bool
admits_fact_of e (Join (Both op) l r) = admits_fact_of e l || admits_fact_of e r
admits_fact_of e (Join (Without op) l r) = admits e (Join (Without op) l r) || admits_fact_of e l
admits_fact_of e other = admits e other
