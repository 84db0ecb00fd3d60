use Rattle.std.proofs.Common.{arith, ◌≡◌, ◌≢◌, ◌<◌, ◌+◌, ℕ, Bool, List, Option, Some, None, get_or, length, refl, take}
use Rattle.std.specs.List.{AllByRecursion}
use Rattle.std.proofs.lemmas.List.{get_or_default, take_all, Elements.Contains-get_or}
use Rattle.filterset_deciding.specs.{Waiting.IsSettled, Waiting.WaitsAt, declared.running.StackValue.StackValue}
use Rattle.filterset_deciding.proofs.Agreeing.{each_taken}
use Rattle.filterset_deciding.proofs.judging.find_open.Goals as goal

waits_here : (values : List StackValue) (i : ℕ) (d : StackValue) → i < length values → (get_or values i d).value ≡ None → WaitsAt (get_or values i d).waits_for values
waits_here values i d lt none = (get_or values i d, Contains-get_or values i d lt, none, refl)

settled_here : (values : List StackValue) (i : ℕ) (d : StackValue) → i < length values → AllByRecursion IsSettled (take i values) → (get_or values i d).value ≢ None
    → AllByRecursion IsSettled (take (i + 1) values)
settled_here values i d lt all known = each_taken IsSettled values i (get_or values i d) lt (get_or_default values i (get_or values i d) d lt) all known

some_known : (v : Option Bool) (b : Bool) → v ≡ Some b → v ≢ None
some_known v b e none = let both : Some b ≡ None = cc in cc

pub returns-in-None : goal.returns-in-None
returns-in-None c = waits_here c.args.values.now c.loop-one.one-index _ (omega (arith, c.loop-one-test.true)) c.in-None.is

pub loop-one-preserved : goal.loop-one-preserved
loop-one-preserved c = settled_here c.args.values.now c.loop-one.one-index _ (omega (arith, c.loop-one-test.true)) c.loop-one.invariant (some_known _ _ c.in-Some.is)

pub returns : goal.returns
returns c = absurd (c.requires (rw (take_all c.loop-one.one-index c.args.values.now c.loop-one-test.false) at c.loop-one.invariant))
