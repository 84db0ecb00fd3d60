-- Which override or profile gives a test a setting.
use Rattle.std.specs.Prelude.{◌≡◌, ◌≢◌, ◌↔◌, Bool, true, false, List, [], ◌∷◌, ◌++◌, Option, Some, None, All, AllPairs, Contains, if◌then◌else◌, map, string_bytes}
use Rattle.std.specs.List.{flat_map}
use Rattle.filterset_expression.specs.Connectives.{kleene, kleene_not}
use Rattle.filterset_expression.specs.declared.logic.Connective.TheVariants.{Conjunction, Disjunction}
use Rattle.filterset_expression.specs.declared.expression.CompiledExpr.{CompiledExpr}
use Rattle.filterset_graph.specs.declared.package.PackageMetadata.{PackageMetadata}
use Rattle.filterset_overrides.specs.Applying.{AppliesAs, DoesApply, Test, Text, sets}
use Rattle.filterset_overrides.specs.declared.asked.{AskedOverride.AskedOverride, AskedProfile.AskedProfile}
use Rattle.filterset_overrides.specs.declared.applying.ExplainedOverride.{ExplainedOverride}
use Rattle.filterset_overrides.specs.declared.explaining.{ExplainedSetting.ExplainedSetting, Giver.Giver}
use Rattle.filterset_overrides.specs.declared.explaining.Giver.TheVariants.{Override, Unknown, Profile, Nextest}
use Rattle.filterset_overrides.specs.declared.explaining.TestOverrides.{TestOverrides}

-- whether one of the overrides sets the key and applies to the test
abbrev pub Takes : (AskedOverride → Option Bool → Type 0) → Text → List AskedOverride → Option Bool → Type 0
Takes Applies key [] taken = taken ≡ Some false
Takes Applies key (o ∷ os) taken = (first others : Option Bool) × Applies o first × Takes Applies key os others
    × (taken ≡ (if sets o.settings.now key then kleene Disjunction first others else others))

-- whether the override gives the test the setting: it applies, and none of those before it takes the setting
abbrev pub Gives : (AskedOverride → Option Bool → Type 0) → Text → List AskedOverride → AskedOverride → Option Bool → Type 0
Gives Applies key before o given = (applies taken : Option Bool) × Applies o applies × Takes Applies key before taken
    × (given ≡ kleene Conjunction applies (kleene_not taken))

-- the override at this path is the first that sets the key and applies to the test, or may: this says whether it does
abbrev pub IsFirst : (AskedOverride → Option Bool → Type 0) → Text → List AskedOverride → Option Bool → Text → Type 0
IsFirst Applies key overrides applies path = (before after : List AskedOverride) × (o : AskedOverride)
    × (overrides ≡ before ++ o ∷ after) × (sets o.settings.now key ≡ true) × (o.path.now ≡ path)
    × Takes Applies key before (Some false) × Applies o applies

-- the first profile that sets the key, or nextest itself if none does
abbrev pub IsProfileGiver : Text → List AskedProfile → Giver → Type 0
IsProfileGiver key profiles (Profile name) = (before after : List AskedProfile) × (p : AskedProfile)
    × (profiles ≡ before ++ p ∷ after) × (sets p.settings.now key ≡ true) × (p.name.now ≡ name.now)
    × All (λ q. sets q.settings.now key ≡ false) before
IsProfileGiver key profiles Nextest = All (λ p. sets p.settings.now key ≡ false) profiles
IsProfileGiver key profiles _ = ⊥

-- what gives the test the setting: the first override that sets it and applies, unless one before it may apply; if none
-- applies or may, a profile or nextest itself
abbrev pub IsGiver : (AskedOverride → Option Bool → Type 0) → Text → List AskedOverride → List AskedProfile → Giver → Type 0
IsGiver Applies key overrides profiles (Override path) = IsFirst Applies key overrides (Some true) path.now
IsGiver Applies key overrides profiles (Unknown path) = IsFirst Applies key overrides None path.now
IsGiver Applies key overrides profiles giver = Takes Applies key overrides (Some false) × IsProfileGiver key profiles giver

-- the settings of overrides, and of profiles, as often as they are set
abbrev pub override_settings : List AskedOverride → List Text
override_settings overrides = flat_map (λ o. map string_bytes o.settings.now) overrides

abbrev pub profile_settings : List AskedProfile → List Text
profile_settings profiles = flat_map (λ p. map string_bytes p.settings.now) profiles

abbrev pub all_settings : List AskedOverride → List AskedProfile → List Text
all_settings overrides profiles = override_settings overrides ++ profile_settings profiles

-- the texts are those of the list, each once
abbrev pub AreDistinctOf : List Text → List Text → Type 0
AreDistinctOf all texts = AllPairs (λ s t. s ≢ t) texts × ((text : Text) → Contains texts text ↔ Contains all text)

abbrev pub asked_of : List ExplainedOverride → List AskedOverride
asked_of explained = map (λ e. e.asked) explained

-- each override with how it applies to the test
abbrev pub AreExplained : List PackageMetadata → CompiledExpr → Test → List ExplainedOverride → Type 0
AreExplained packages default test explained = All (λ e. AppliesAs packages default test e.asked e.application) explained

-- each override with how it applies to the test, and each setting with what gives it
abbrev pub Explains : List PackageMetadata → CompiledExpr → Test → List AskedOverride → List AskedProfile → TestOverrides → Type 0
Explains packages default test overrides profiles explained =
    (asked_of explained.overrides.items ≡ overrides)
    × AreExplained packages default test explained.overrides.items
    × AreDistinctOf (all_settings overrides profiles) (map (λ (s : ExplainedSetting). s.key.now) explained.settings.items)
    × All (λ s. IsGiver (DoesApply packages default test) s.key.now overrides profiles s.giver) explained.settings.items
