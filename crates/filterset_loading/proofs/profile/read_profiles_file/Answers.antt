use Rattle.std.proofs.Common.{refl, subst, sym}
use Rattle.toml.specs.View.{view}
use Rattle.filterset_display.specs.Columns.{Text}
use Rattle.filterset_configuration.specs.Profiles.{HasProfiles}
use Rattle.filterset_sources.specs.Configurations.{IsFile}
use Rattle.filterset_loading.proofs.profile.read_profiles_file.Goals as goal

pub invariant_of-parsed : goal.invariant_of-parsed
invariant_of-parsed g c =
    let IsHere : Text → Type 0 = λ bytes. IsFile bytes (view c.in_ok-text.field-0.configuration.file) in
    record { is_file = subst IsHere (sym c.as_str.ensures.value) c.in_ok-text.ensures.read.1.0 }

pub returns-clause-read : goal.returns-clause-read
returns-clause-read g c =
    let AreHere : Text → Type 0 = λ bytes. HasProfiles bytes c.in_ok-profiles_in.field-0.items in (
      c.in_ok-text.field-0.configuration,
      c.in_ok-text.ensures.read,
      refl,
      refl,
      refl,
      subst AreHere c.as_str.ensures.value c.in_ok-profiles_in.ensures.read,
      c.in_ok-read_facts.ensures.read,
    )
