use Rattle.std.proofs.Common.{rules, ◌≡◌, ◌∙◌}
use Rattle.filterset_configuration.proofs.PlatformFaults.{true_along}
use Rattle.filterset_configuration.proofs.PlatformPhrases.{no_value, one_name, one_value}
use Rattle.filterset_configuration.proofs.PlatformWords.{rest_along}
use Rattle.filterset_configuration.specs.PlatformTrees.{expr_of, key_value, set}
use Rattle.filterset_configuration.specs.declared.platforms.expressions.CfgExpr.{Value}
use Rattle.filterset_configuration.specs.declared.platforms.settings.Cfg.TheVariants.{KeyValue}
use Rattle.filterset_configuration.proofs.platforms.parsing.read_setting.Goals as goal

pub returns-in_default-clause-only : goal.returns-in_default-clause-only
returns-in_default-clause-only c = λ e r g.
    one_name c.args.word.now c.args.text.now (expr_of c.in_ok-name_of.field-0) e r c.requires c.in_default.ensures.found c.in_ok-name_of.ensures g

pub returns-in_default-read_quoted-clause-only : goal.returns-in_default-read_quoted-clause-only
returns-in_default-read_quoted-clause-only c = λ e r g.
    absurd (no_value c.args.word.now c.args.text.now c.in-Some.behind.now e r c.requires c.in-Some.ensures.found c.in_default-read_quoted.ensures.found g)

pub returns-in_default-read_quoted-clause-place : goal.returns-in_default-read_quoted-clause-place
returns-in_default-read_quoted-clause-place c =
    true_along c.args.text.now c.in-Some.behind.now _ c.in-Some.ensures.place c.expect.ensures

pub returns-clause-only : goal.returns-clause-only
returns-clause-only c = λ e r g.
    let one = one_value c.args.word.now c.args.text.now c.in-Some.behind.now _ _ e r c.requires c.in-Some.ensures.found c.in-Some-read_quoted.ensures.found g in
    let made : expr_of (Value (KeyValue c.in_ok-key.key c.in_ok-value.value)) ≡ set (key_value c.args.word.now c.in-Some-read_quoted.value.now) = search (rules, c.in_ok-key.ensures, c.in_ok-value.ensures) in
    (made ∙ one.0, one.1)

pub returns-clause-place : goal.returns-clause-place
returns-clause-place c = rest_along c.args.text.now c.in-Some.behind.now _ c.in-Some.ensures.place c.in-Some-read_quoted.ensures.place
