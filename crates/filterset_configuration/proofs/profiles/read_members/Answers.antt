use Rattle.std.proofs.Common.{rules, ◌≡◌, [], ◌∷◌, ◌++◌, ap, append_assoc, refl, string_bytes, sym, ◌∙◌}
use Rattle.toml.specs.View.{members_view, view}
use Rattle.toml.proofs.Views.{Entry}
use Rattle.filterset_configuration.specs.Profiles.{IsProfile}
use Rattle.filterset_configuration.proofs.Reading.{handed_on}
use Rattle.filterset_configuration.proofs.Zips.{members_at, members_by, members_of_table, members_push, zip_push}
use Rattle.filterset_configuration.proofs.profiles.read_members.Goals as goal

pub loop-name-init : goal.loop-name-init
loop-name-init c =
    let first : c.args.members.now.entries ≡ c.into_iter-name-iterator.result = search (rules, c.iter-name-items.ensures.rest, c.into_iter-name-iterator.ensures.into_iter_gives) in
    ([], first, [], rw c.in_ok-profiles.ensures.items refl, rw c.in_ok-profiles.ensures.items tt)

pub returns-in_err-read_profile-clause-refused : goal.returns-in_err-read_profile-clause-refused
returns-in_err-read_profile-clause-refused c =
    let done = c.loop-name.invariant.0 in
    let e : Entry = (c.in-Some.name.now, c.in-Some.value.now) in
    let are = c.loop-name.invariant.1 ∙ ap (λ t. done ++ t) (search (rules, c.in-Some.ensures.steps)) in
    handed_on c.from_residual-in_err-read_profile.result c.in_err-read_profile.field-0.0 c.from_residual-in_err-read_profile.ensures.1
    (λ fact.
    members_at (IsProfile (view c.args.file.now)) done e c.next.new.self fact.0 fact.1.0 fact.1.2 (ap members_view (sym are) ∙ members_of_table _ _ fact.1.1))
    c.in_err-read_profile.ensures.refused

pub loop-name-preserved : goal.loop-name-preserved
loop-name-preserved c =
    let done = c.loop-name.invariant.0 in
    let ds = c.loop-name.invariant.2 in
    let profiles = c.loop-name.profiles.items in
    let e : Entry = (c.in-Some.name.now, c.in-Some.value.now) in
    let step : c.loop-name.name-iterator ≡ e ∷ c.next.new.self = search (rules, c.in-Some.ensures.steps) in
    let at : string_bytes e.0 ≡ c.as_str.result.now = search (rules, c.as_str.ensures.value) in
    let read = c.in_ok-read_profile.field-0 in
    let is = IsProfile (view c.args.file.now) in (
      done ++ e ∷ [],
      c.loop-name.invariant.1 ∙ ap (λ t. done ++ t) step ∙ sym (append_assoc done (e ∷ []) c.next.new.self),
      ds ++ view e.1 ∷ [],
      rw c.in_ok-push.ensures.items
          (members_push is done e profiles read ds c.loop-name.invariant.4 c.loop-name.invariant.3 (c.in_ok-read_profile.ensures.name ∙ sym at)),
      rw c.in_ok-push.ensures.items (zip_push is ds profiles (view e.1) read c.loop-name.invariant.4 c.in_ok-read_profile.ensures.read),
    )
