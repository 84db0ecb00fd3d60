-- What the laid out filter of an override answers. Only contracts of private functions cite this.
use Rattle.std.specs.Prelude.{◌≡◌, Bool, true, false, Option, Some, None, MatchOption, if◌then◌else◌}
use Rattle.filterset_expression.specs.{Expression.All, Expression.formula, Formula.Leaf, FlatExpressions.IsFlat}
use Rattle.filterset_expression.specs.declared.{expression.CompiledExpr.CompiledExpr, flat.FlatExpr.FlatExpr}
use Rattle.filterset_overrides.specs.Applying.{Text, sets, verdict}
use Rattle.filterset_overrides.specs.declared.applying.ExplainedOverride.{ExplainedOverride}
use Rattle.filterset_overrides.specs.declared.explaining.Giver.{Giver, TheVariants.Override, TheVariants.Unknown}
use Rattle.filterset_overrides.specs.declared.asked.AskedOverride.{AskedOverride}

-- the expression is all tests
abbrev pub is_all : CompiledExpr → Type 0
is_all expr = formula expr ≡ Leaf All

-- the expression is the override's filter, or all tests if it has none
abbrev pub IsFilterOf : AskedOverride → CompiledExpr → Type 0
IsFilterOf o expr = MatchOption o.filter (is_all expr) (λ filter. filter.now ≡ expr)

-- the steps are those of that expression
abbrev pub IsLaidOut : CompiledExpr → AskedOverride → FlatExpr → Type 0
IsLaidOut default o flat = (expr : CompiledExpr) × IsFilterOf o expr × IsFlat flat expr default

-- the giver is the override at this path, which applies or may
abbrev pub NamesOverride : Option Bool → Text → Giver → Type 0
NamesOverride (Some true) path (Override p) = p.now ≡ path
NamesOverride None path (Unknown p) = p.now ≡ path
NamesOverride _ path giver = ⊥

-- the override as what gives the setting, if it sets it and applies, or may
abbrev pub IsGivenBy : Text → ExplainedOverride → Option Giver → Type 0
IsGivenBy key e None = (if sets e.asked.settings.now key then verdict e.application else Some false) ≡ Some false
IsGivenBy key e (Some giver) =
    (sets e.asked.settings.now key ≡ true) × NamesOverride (verdict e.application) e.asked.path.now giver
