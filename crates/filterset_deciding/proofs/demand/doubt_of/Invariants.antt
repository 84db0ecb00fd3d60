use Rattle.std.proofs.Common.{◌↔◌, take}
use Rattle.std.specs.{Prelude.Contains, List.AllByRecursion}
use Rattle.filterset_expression.specs.{Expression.CompiledLeaf, FlatSteps.Push}
use Rattle.filterset_deciding.specs.{AnyTest.AnyTest, Aspects.AgreesOn, Aspects.IsOfField, Aspects.text_of}
use Rattle.filterset_deciding.specs.{Demands.IsOfLeaf, Known.steps_in, Texts.Meets}
use Rattle.filterset_deciding.proofs.demand.doubt_of.Given as goal

-- the demands so far are of leaves of the branch, and a text meets them exactly if the steps so far agree with it
abbrev pub invariant-loop-placed : goal.invariant-loop-placed
invariant-loop-placed l =
    record {
      about : AllByRecursion (λ demand. (leaf : CompiledLeaf) × Contains (steps_in l.branch) (Push leaf) × IsOfLeaf l.field demand leaf) l.demands.items;
      meets : (test : AnyTest) → Meets (text_of l.field test) l.demands.items ↔ AgreesOn (IsOfField l.field) test (take l.placed-index l.branch);
    }
