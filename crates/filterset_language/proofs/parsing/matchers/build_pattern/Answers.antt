use Rattle.std.proofs.Common.{[], ◌∷◌, refl, arith}
use Rattle.std.specs.Prelude.{string_bytes}
use Rattle.std.proofs.lemmas.List.Elements.{All-cons, All-nil}
use Rattle.filterset_matchers.specs.{Matcher.Regex, Pattern.MayBeRejected}
use Rattle.filterset_language.specs.Parsing.Outcome.{refused, RefusesBody}
use Rattle.filterset_faults.specs.declared.error.ParseSingleError.TheVariants.{InvalidRegexWithoutMessage}
use Rattle.filterset_language.proofs.parsing.matchers.build_pattern.Goals as goal

pub returns-in_ok-push-in-Err-NotBuilt : goal.returns-in_ok-push-in-Err-NotBuilt
returns-in_ok-push-in-Err-NotBuilt c =
    let at = c.args.span in
    let rejected : MayBeRejected (string_bytes c.args.pattern) = c.in-Err-NotBuilt.ensures.refused c.in-Err-NotBuilt.field-0-is in
    let On = RefusesBody at (Regex (string_bytes c.args.pattern)) in
    refused (InvalidRegexWithoutMessage at ∷ []) c.in_ok-push-in-Err-NotBuilt.ensures.items (omega arith) (All-cons On (InvalidRegexWithoutMessage at) [] (refl, rejected) (All-nil On)) refl
