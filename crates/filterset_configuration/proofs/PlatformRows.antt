-- The expressions of a row are those of the list of its items.
use Rattle.std.proofs.Common.{◌≡◌, ap, ◌∙◌, refl}
use Rattle.std.specs.declared.{vec.Vec.Vec, alloc.Global.Global}
use Rattle.filterset_configuration.specs.declared.platforms.expressions.CfgExpr.{CfgExpr, All, Any, Row_of-CfgExpr, end_of-CfgExpr, more_of-CfgExpr, items-the_row-CfgExpr, items_hidden-the_row-CfgExpr-0}
use Rattle.filterset_configuration.specs.declared.platforms.expressions.CfgExpr.TheBlock.{hidden-the_row-CfgExpr-0}
use Rattle.filterset_configuration.specs.PlatformTrees.{all, any, more, expr_of, exprs_of, exprs_of_row}

exprs_of_items : {n : _} (row : Row_of-CfgExpr n) → exprs_of_row row ≡ exprs_of (items-the_row-CfgExpr n row)
exprs_of_items end_of-CfgExpr = refl
exprs_of_items (more_of-CfgExpr e row) = ap (more (expr_of e)) (exprs_of_items row)

pub expr_of_all : (v : Vec CfgExpr Global) → expr_of (All v) ≡ all (exprs_of v.items)
expr_of_all v = ap all (exprs_of_items (hidden-the_row-CfgExpr-0 v) ∙ ap exprs_of (items_hidden-the_row-CfgExpr-0 v))

pub expr_of_any : (v : Vec CfgExpr Global) → expr_of (Any v) ≡ any (exprs_of v.items)
expr_of_any v = ap any (exprs_of_items (hidden-the_row-CfgExpr-0 v) ∙ ap exprs_of (items_hidden-the_row-CfgExpr-0 v))

pub all_is : (e : CfgExpr) (v : Vec CfgExpr Global) → e ≡ All v → expr_of e ≡ all (exprs_of v.items)
all_is e v is = ap expr_of is ∙ expr_of_all v

pub any_is : (e : CfgExpr) (v : Vec CfgExpr Global) → e ≡ Any v → expr_of e ≡ any (exprs_of v.items)
any_is e v is = ap expr_of is ∙ expr_of_any v
