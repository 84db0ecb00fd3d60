use Rattle.std.proofs.{Common.◌≡◌, Common.Result, Common.Ok, Common.Err, Common.refl, lemmas.Result.IfOk-weaker}
use Rattle.std.specs.Result.{IfOk}
use Rattle.filterset_expression.specs.{declared.flat.asked.AskedLeaf.AskedLeaf, Connectives.Decides}
use Rattle.filterset_expression.specs.{Expression.CompiledLeaf, Expression.compiled_leaf, FlatExpressions.flat_steps}
use Rattle.filterset_expression.proofs.Decoding.{leaf_folds}
use Rattle.filterset_expression.proofs.flat.FlatExpr.run.Goals as goal

-- what holds of a result holds of its value
of_value : {T E : Type 0} (Holds : Result T E → Type 0) (result : Result T E) → Holds result → IfOk result (λ value. Holds (Ok value))
of_value Holds (Ok value) h = h
of_value Holds (Err error) h = tt

pub returns-in-Some : goal.returns-in-Some
returns-in-Some g c =
    let not_of = g.L.Logic.not_of in
    let connect = g.L.Logic.connect in
    let decides = Decides g.L.Logic.top_value g.L.Logic.bottom_value in
    let gives = λ (leaf : CompiledLeaf) (x : g.row.L.Denot). (asked : AskedLeaf) × (compiled_leaf asked.leaf.now ≡ leaf) × goal.F-post g c.args.of_leaf.now asked (Ok x) in
    let asked : AskedLeaf = record { leaf = c.in-Some.leaf; kept = c.first-kept.result } in
    IfOk-weaker c.of_leaf.result _ _ (λ x given f same. leaf_folds not_of connect decides gives (flat_steps c.args.self.now) (compiled_leaf c.in-Some.leaf.now) x c.in-Some.ensures (asked, refl, given) f same) (of_value (goal.F-post g c.args.of_leaf.now asked) c.of_leaf.result c.of_leaf.ensures)
