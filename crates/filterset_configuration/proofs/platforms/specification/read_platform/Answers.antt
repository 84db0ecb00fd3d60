use Rattle.std.proofs.Common.{◌++◌, sym, ap, ◌∙◌}
use Rattle.std.specs.Prelude.{codes}
use Rattle.filterset_configuration.specs.PlatformTrees.{satisfies, spec_of}
use Rattle.filterset_json.specs.Shape.{Text}
use Rattle.filterset_configuration.proofs.PlatformFaults.{returns_error, true_along, true_error}
use Rattle.filterset_configuration.proofs.PlatformPhrases.{cfg_only}
use Rattle.filterset_configuration.proofs.platforms.specification.read_platform.Goals as goal

pub returns-in_err-read_whole-in-Some-clause-only : goal.returns-in_err-read_whole-in-Some-clause-only
returns-in_err-read_whole-in-Some-clause-only c = λ spec spells.
    let cut = c.in-Some.ensures.cases in
    let p = cfg_only c.args.text.now c.in-Some.inside.now spec (cut.1.1 ∙ ap (λ (t : Text). codes "cfg(" ++ t) (sym cut.2)) spells in
    returns_error spec_of c.from_residual.result c.in_err-read_whole-in-Some.field-0.0 spec c.from_residual.ensures.1 (c.in_err-read_whole-in-Some.ensures.only p.0 p.2)

pub returns-in_err-read_whole-in-Some-clause-place : goal.returns-in_err-read_whole-in-Some-clause-place
returns-in_err-read_whole-in-Some-clause-place c =
    let cut = c.in-Some.ensures.cases in
    let error = c.in_err-read_whole-in-Some.field-0.0 in
    true_error c.args.text.now c.from_residual.result error c.from_residual.ensures.1
    (true_along c.args.text.now c.in-Some.inside.now error (codes "cfg(", cut.1.1 ∙ ap (λ (t : Text). codes "cfg(" ++ t) (sym cut.2)) c.in_err-read_whole-in-Some.ensures.place)

pub returns-in_ok-read_whole-in-Some-clause-only : goal.returns-in_ok-read_whole-in-Some-clause-only
returns-in_ok-read_whole-in-Some-clause-only c = λ spec spells.
    let cut = c.in-Some.ensures.cases in
    let p = cfg_only c.args.text.now c.in-Some.inside.now spec (cut.1.1 ∙ ap (λ (t : Text). codes "cfg(" ++ t) (sym cut.2)) spells in
    ap satisfies (c.in_ok-read_whole-in-Some.ensures.only p.0 p.2) ∙ sym p.1
