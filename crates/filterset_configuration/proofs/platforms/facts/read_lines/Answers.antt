use Rattle.std.proofs.Common.{arith, ◌≡◌, ◌+◌, ◌∷◌, [], length, map, get_or, sym, ◌∙◌, subst}
use Rattle.std.proofs.lemmas.Iterator.Consumers.{YieldsList-end, YieldsList-so_far, YieldsList-turn}
use Rattle.std.proofs.lemmas.Iterator.Splits.{YieldsList-from_lines}
use Rattle.std.proofs.lemmas.List.{get_or_default, length-map, map-append}
use Rattle.std.specs.Str.Lines.{lines}
use Rattle.filterset_configuration.specs.{PlatformTrees.Setting, PlatformTrees.setting_of, PlatformGrammar.IsLine}
use Rattle.filterset_configuration.proofs.PlatformLines.{as_many, line_at, one_more_line}
use Rattle.filterset_json.specs.Shape.{Text}
use Rattle.filterset_configuration.proofs.platforms.facts.read_lines.Goals as goal

pub returns-in_default-clause-refused : goal.returns-in_default-clause-refused
returns-in_default-clause-refused c =
    let chain = YieldsList-from_lines {s = c.into_iter-line-iterator.result} c.args.text.now (cc) in
    let turn = YieldsList-turn chain c.loop-line.yielded _ c.loop-line.yielded_by _ _ c.in-Some.line c.in-Some.is c.next.ensures.steps in
    let so_far = YieldsList-so_far chain c.loop-line.yielded _ c.loop-line.yielded_by in
    let all = lines c.args.text.now in
    let at = length c.loop-line.yielded in
    let settings = c.loop-line.settings.items in
    let known = c.loop-line.invariant in
    let number : c.len.result + 1 ≡ at + 1 =
    omega (arith, as_many _ _ known, c.len.ensures, c.loop-line.settings.ok.0, length-map c.loop-line.yielded (λ s. s.now), length-map settings setting_of) in
    let line : c.in-Some.line.now ≡ get_or all at [] = turn.1 ∙ get_or_default all at c.in-Some.line.now [] turn.0 in
    let none = rw c.in_default.is at c.in_ok-setting.ensures in
    let refuted : (s : Setting) → ¬ IsLine (get_or all at []) s = λ s is. none s (let P : Text → Type 0 = λ t. IsLine t s in subst P (sym line) is) in
    (at, map setting_of settings, number, rw so_far at known, line_at all at (λ t. (s : Setting) → ¬ IsLine t s) turn.0 refuted)

pub loop-line-preserved : goal.loop-line-preserved
loop-line-preserved c =
    rw (c.in_ok-push.ensures.items, map-append (λ s. s.now) c.loop-line.yielded (c.in-Some.line ∷ []), map-append setting_of c.loop-line.settings.items (c.in-Some-2.setting ∷ []))
    (one_more_line _ _ c.in-Some.line.now (setting_of c.in-Some-2.setting) c.loop-line.invariant (rw c.in-Some-2.is at c.in_ok-setting.ensures))

pub returns-clause-read : goal.returns-clause-read
returns-clause-read c =
    let chain = YieldsList-from_lines {s = c.into_iter-line-iterator.result} c.args.text.now (cc) in
    let whole = YieldsList-end chain c.loop-line.yielded _ c.loop-line.yielded_by _ _ c.in-None.is c.next.ensures.steps in
    rw whole.0 at c.loop-line.invariant
