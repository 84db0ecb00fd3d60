use Rattle.std.proofs.Common.{rules, ◌≡◌, ◌≤◌, arith, length-append, drop, refl, ℕ, List, length, ◌++◌, ◌+◌, ap, sym, ◌∙◌}
use Rattle.std.specs.Option.{option_map}
use Rattle.std.proofs.lemmas.List.{drop_at}
use Rattle.filterset_language.specs.Parsing.Position.{position}
use Rattle.filterset_language.proofs.Positions.{seam_on, behind_some, behind_none}
use Rattle.filterset_language.proofs.parsing.input.Input.after.Goals as goal

pub returns-in-Some-clause-value : goal.returns-in-Some-clause-value
returns-in-Some-clause-value c =
    let h = c.in-Some.ensures.cases in
    let word = c.args.text.now in
    let e = behind_some word c.args.self.rest.now c.in-Some.rest.now (h.1.1 ∙ ap (λ (t : List ℕ). word ++ t) (sym h.2)) in
    sym (ap (option_map (λ (t : List ℕ). position (c.args.self.offset + length word) t)) e)

pub returns-in-None-clause-value : goal.returns-in-None-clause-value
returns-in-None-clause-value c =
    let e = behind_none c.args.text.now c.args.self.rest.now c.in-None.ensures.cases in
    sym (ap (option_map (λ (t : List ℕ). position (c.args.self.offset + length c.args.text.now) t)) e)

pub invariant_of-result-clause-seam : goal.invariant_of-result-clause-seam
invariant_of-result-clause-seam c =
    let h = c.in-Some.ensures.cases in
    let word = c.args.text.now in
    let left = c.args.self.rest.now in
    let parts : left ≡ word ++ c.in-Some.rest.now = h.1.1 ∙ ap (λ (t : List ℕ). word ++ t) (sym h.2) in
    let within : length word ≤ length left = let n = ap length parts in omega (arith, n, length-append word c.in-Some.rest.now) in
    seam_on c.args.self (length word) c.in-Some.rest.now within (ap (drop (length word)) parts ∙ drop_at word c.in-Some.rest.now (length word) refl) (search rules)
