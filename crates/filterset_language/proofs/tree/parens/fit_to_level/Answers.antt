use Rattle.std.proofs.{Common.◌≡◌, Common.sym, Common.◌∙◌, lemmas.Bool.false≢true, lemmas.Result.IfOk-weaker}
use Rattle.filterset_grammar.specs.Tree.{Parens}
use Rattle.filterset_language.specs.{Views.tree_of, Levels.IsOfLevel, Levels.IsOperand}
use Rattle.filterset_language.proofs.AddingParens.{stays, goes_in}
use Rattle.filterset_language.proofs.tree.parens.fit_to_level.Goals as goal

pub returns-then-is_of_level : goal.returns-then-is_of_level
returns-then-is_of_level g c =
    record { tree = stays (IsOfLevel c.args.level (tree_of c.args.expr.now)) c.requires.tree (c.is_of_level.ensures.0 c.if-is_of_level.true) }

pub returns : goal.returns
returns g c =
    let e = tree_of c.args.expr.now in
    let may = IsOfLevel c.args.level e in
    let isnt : may → ⊥ = λ h. false≢true (sym c.if-is_of_level.false ∙ c.is_of_level.ensures.1 h) in
    record { tree = IfOk-weaker c.enclose.result (λ new. tree_of new.value ≡ Parens (tree_of c.args.copy.value)) (λ new. IsOperand may e (tree_of new.value)) (λ new is. rw is (goes_in may c.requires.tree isnt)) c.enclose.ensures }
