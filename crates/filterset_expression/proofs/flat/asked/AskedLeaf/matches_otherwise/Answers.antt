use Rattle.std.proofs.{Common.◌↔◌, lemmas.Result.IfOk-weaker}
use Rattle.std.specs.Bool.{IsTrue}
use Rattle.filterset_expression.specs.Expression.{compiled_leaf, HoldsOfTest}
use Rattle.filterset_expression.proofs.LeafAnswers.{no_group, decides_with_groups}
use Rattle.filterset_expression.proofs.flat.asked.AskedLeaf.matches_otherwise.Goals as goal

pub returns-in_default : goal.returns-in_default
returns-in_default g c =
    let lookup = (goal.GroupLookup-dyn g c.args.groups.now).GroupLookup.matches_group c.args.groups.now.1 in
    let leaf = c.args.self.now.leaf.now in
    IfOk-weaker c.matches_test.result _ (λ value. (IsTrue value ↔ (HoldsOfTest c.args.query.now lookup (compiled_leaf leaf)))) (λ value h. decides_with_groups value c.args.query.now lookup (compiled_leaf leaf) (no_group leaf c.in_default.not-Group) h) c.matches_test.ensures
