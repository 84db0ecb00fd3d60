use Rattle.std.proofs.Common.{◌≡◌, ℕ, List, Bool, true, false, Some, string_bytes, refl, ap, sym, ◌∙◌}
use Rattle.std.specs.Prelude.{bytes_eq}
use Rattle.std.proofs.lemmas.Option.{slice_get-get_or}
use Rattle.filterset_configuration.specs.declared.profiles.Profile.{Profile}
use Rattle.filterset_configuration.proofs.Finds.{find_here, find_later, find_none}
use Rattle.filterset_configuration.proofs.inheritance.find_named.Goals as goal

abbrev has_name : List ℕ → Profile → Bool
has_name name p = bytes_eq (string_bytes p.name) name

pub loop-at-init : goal.loop-at-init
loop-at-init c = refl

pub returns-then-eq-clause-found : goal.returns-then-eq-clause-found
returns-then-eq-clause-found c =
    let name = c.args.name.now in
    let profile = c.index-profiles-at.result in
    let same : has_name name profile ≡ true = ap (λ t. bytes_eq t name) (sym c.as_str.ensures.value) ∙ sym c.eq.ensures ∙ c.if-eq.true in
    sym (find_here (has_name name) c.args.profiles.now c.loop-at.at profile c.loop-at-test.true c.index-profiles-at.is same) ∙ c.loop-at.invariant

pub returns-then-eq-clause-position : goal.returns-then-eq-clause-position
returns-then-eq-clause-position c = (
  c.loop-at-test.true,
  slice_get-get_or c.args.profiles.now c.loop-at.at c.index-profiles-at.result c.loop-at-test.true ∙ ap Some (sym c.index-profiles-at.is),
)

pub loop-at-preserved : goal.loop-at-preserved
loop-at-preserved c =
    let name = c.args.name.now in
    let profile = c.index-profiles-at.result in
    let other : has_name name profile ≡ false = ap (λ t. bytes_eq t name) (sym c.as_str.ensures.value) ∙ sym c.eq.ensures ∙ c.if-eq.false in
    sym (find_later (has_name name) c.args.profiles.now c.loop-at.at profile c.loop-at-test.true c.index-profiles-at.is other) ∙ c.loop-at.invariant

pub returns-clause-found : goal.returns-clause-found
returns-clause-found c = sym (find_none (has_name c.args.name.now) c.args.profiles.now c.loop-at.at c.loop-at-test.false) ∙ c.loop-at.invariant
