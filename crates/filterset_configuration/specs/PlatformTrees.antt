-- Platforms of a configuration, and what is known of a platform, as plain values.
use Rattle.std.specs.Prelude.{Bool, List, [], ◌∷◌, Option, map, string_bytes}
use Rattle.std.specs.Option.{option_map}
use Rattle.filterset_json.specs.Shape.{Text}
use Rattle.filterset_configuration.specs.declared.platforms.settings.Cfg.{Cfg, TheVariants.Name, TheVariants.KeyValue}
use Rattle.filterset_configuration.specs.declared.platforms.expressions.CfgExpr.{CfgExpr, Value, Literal, Not', All', Any', Row_of-CfgExpr, end_of-CfgExpr, more_of-CfgExpr}
use Rattle.filterset_configuration.specs.declared.platforms.facts.PlatformFacts.{PlatformFacts}
use Rattle.filterset_configuration.specs.declared.platforms.specification.PlatformSpec.{PlatformSpec}
use Rattle.filterset_configuration.specs.declared.platforms.specification.PlatformSpec.TheVariants as platforms

-- what rustc sets: a name, or one of a key's values
pub data Setting : Type 0 where
  name : Text → Setting
  key_value : Text → Text → Setting

abbrev pub setting_of : Cfg → Setting
setting_of (Name n) = name (string_bytes n)
setting_of (KeyValue key value) = key_value (string_bytes key) (string_bytes value)

mutual
  -- an expression of `cfg(..)`
  pub data Expr : Type 0 where
    set : Setting → Expr
    literal : Bool → Expr
    negated : Expr → Expr
    all : Exprs → Expr
    any : Exprs → Expr

  -- the expressions in `all` or `any`, in order
  pub data Exprs : Type 0 where
    none : Exprs
    more : Expr → Exprs → Exprs

abbrev mutual
  pub expr_of : CfgExpr → Expr
  expr_of (Value s) = set (setting_of s)
  expr_of (Literal b) = literal b
  expr_of (Not' p e) = negated (expr_of e)
  expr_of (All' shape row) = all (exprs_of_row row)
  expr_of (Any' shape row) = any (exprs_of_row row)

  pub exprs_of_row : {n : _} → Row_of-CfgExpr n → Exprs
  exprs_of_row end_of-CfgExpr = none
  exprs_of_row (more_of-CfgExpr e row) = more (expr_of e) (exprs_of_row row)

abbrev pub exprs_of : List CfgExpr → Exprs
exprs_of [] = none
exprs_of (e ∷ es) = more (expr_of e) (exprs_of es)

-- what a configuration asks of a platform: that it has this triple, or that this expression is true
pub data Spec : Type 0 where
  is_named : Text → Spec
  satisfies : Expr → Spec

abbrev pub spec_of : PlatformSpec → Spec
spec_of (platforms.Triple t) = is_named (string_bytes t)
spec_of (platforms.Cfg e) = satisfies (expr_of e)

-- what is known of a platform
pub record Facts : Type 0 where
  pub triple : Option Text
  pub settings : Option (List Setting)

abbrev pub facts_of : PlatformFacts → Facts
facts_of facts =
    record { triple = option_map string_bytes facts.triple; settings = option_map (λ v. map setting_of v.items) facts.cfg }
