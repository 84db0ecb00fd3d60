-- Which override takes a setting.
use Rattle.std.proofs.Common.{◌≡◌, ◌<◌, ◌+◌, ℕ, suc, Bool, true, false, List, [], ◌∷◌, ◌++◌, Option, Some, None, length, map, take, drop, get_or, replicate, refl, sym, ap, subst, ◌∙◌}
use Rattle.std.specs.{Prelude.if◌then◌else◌, List.AllZip, List.zip}
use Rattle.filterset_graph.specs.declared.package.PackageMetadata.{PackageMetadata}
use Rattle.filterset_expression.specs.Connectives.{kleene, kleene_not}
use Rattle.filterset_expression.specs.declared.expression.CompiledExpr.{CompiledExpr}
use Rattle.filterset_expression.specs.declared.logic.Connective.TheVariants.{Conjunction, Disjunction}
use Rattle.filterset_overrides.specs.Applied.{AreTaken}
use Rattle.filterset_overrides.specs.Applying.{AppliesAs, DoesApply, Test, Text, sets, verdict}
use Rattle.filterset_overrides.specs.Asking.{NamesOverride}
use Rattle.filterset_overrides.specs.Giving.{AreExplained, Gives, IsFirst, IsGiver, IsProfileGiver, Takes, asked_of}
use Rattle.filterset_overrides.specs.declared.applying.ExplainedOverride.{ExplainedOverride}
use Rattle.filterset_overrides.specs.declared.asked.{AskedOverride.AskedOverride, AskedProfile.AskedProfile}
use Rattle.filterset_overrides.specs.declared.explaining.Giver.{Giver}
use Rattle.filterset_overrides.specs.declared.explaining.Giver.TheVariants.{Override, Unknown, Profile, Nextest}
use Rattle.filterset_overrides.proofs.ListLemmas.{AllZip-both, AllZip-replicate, AllZip-zip, map_append, map_more, split_at}

or_false : (v : Option Bool) → kleene Disjunction v (Some false) ≡ v
or_false None = refl
or_false (Some true) = refl
or_false (Some false) = refl

or_assoc : (x y z : Option Bool) → kleene Disjunction (kleene Disjunction x y) z ≡ kleene Disjunction x (kleene Disjunction y z)
or_assoc (Some true) y z = refl
or_assoc (Some false) y z = refl
or_assoc None (Some true) z = refl
or_assoc None (Some false) z = refl
or_assoc None None (Some true) = refl
or_assoc None None (Some false) = refl
or_assoc None None None = refl

-- whether an override takes the setting, if none is before it
one_takes : (s : Bool) (taken v : Option Bool) → taken ≡ Some false → (if s then kleene Disjunction taken v else taken) ≡ (if s then kleene Disjunction v (Some false) else Some false)
one_takes true taken v none = ap (λ t. kleene Disjunction t v) none ∙ sym (or_false v)
one_takes false taken v none = none

more_take : (s s' : Bool) (first others v : Option Bool) →
    (if s' then kleene Disjunction (if s then kleene Disjunction first others else others) v else (if s then kleene Disjunction first others else others))
    ≡ (if s then kleene Disjunction first (if s' then kleene Disjunction others v else others) else (if s' then kleene Disjunction others v else others))
more_take true true first others v = or_assoc first others v
more_take true false first others v = refl
more_take false true first others v = refl
more_take false false first others v = refl

-- one more override
pub Takes-push : (Applies : AskedOverride → Option Bool → Type 0) (key : Text) (before : List AskedOverride) (o : AskedOverride) (taken v : Option Bool)
    → Takes Applies key before taken → Applies o v → Takes Applies key (before ++ o ∷ []) (if sets o.settings.now key then kleene Disjunction taken v else taken)
Takes-push Applies key [] o taken v none applies = (v, Some false, applies, refl, one_takes (sets o.settings.now key) taken v none)
Takes-push Applies key (p ∷ before) o taken v (first, others, is, rest, whole) applies =
    let s' = sets o.settings.now key in (
      first,
      (if s' then kleene Disjunction others v else others),
      is,
      Takes-push Applies key before o others v rest applies,
      ap (λ t. if s' then kleene Disjunction t v else t) whole ∙ more_take (sets p.settings.now key) s' first others v,
    )

-- one more that does not take it
pub Takes-pass : (Applies : AskedOverride → Option Bool → Type 0) (key : Text) (before : List AskedOverride) (o : AskedOverride) (v : Option Bool)
    → Takes Applies key before (Some false) → Applies o v → (if sets o.settings.now key then v else Some false) ≡ Some false → Takes Applies key (before ++ o ∷ []) (Some false)
Takes-pass Applies key before o v none applies is =
    subst (λ t. Takes Applies key (before ++ o ∷ []) t) is (Takes-push Applies key before o (Some false) v none applies)

module _ (packages : List PackageMetadata) (default : CompiledExpr) (tests : List Test) (key : Text) (before : List AskedOverride) (o : AskedOverride)
    (answers taken : List (Option Bool)) (applies : AllZip (λ test. DoesApply packages default test o) tests answers) (are : AreTaken packages default tests key before taken) where
  -- an override that sets the key takes the setting of tests
  pub more_taken : sets o.settings.now key ≡ true → AreTaken packages default tests key (before ++ o ∷ []) (map (λ (p : Option Bool × Option Bool). kleene Disjunction p.0 p.1) (zip taken answers))
  more_taken is_set =
      AllZip-zip (λ test. Takes (DoesApply packages default test) key before) (λ test. DoesApply packages default test o) (λ test. Takes (DoesApply packages default test) key (before ++ o ∷ []))
      (λ (p : Option Bool × Option Bool). kleene Disjunction p.0 p.1)
      (λ test t v takes is. subst (λ (s : Bool). Takes (DoesApply packages default test) key (before ++ o ∷ []) (if s then kleene Disjunction t v else t)) is_set
      (Takes-push (DoesApply packages default test) key before o t v takes is)) tests taken answers are applies

  -- one that does not set it takes none
  pub same_taken : sets o.settings.now key ≡ false → AreTaken packages default tests key (before ++ o ∷ []) taken
  same_taken is_unset =
      AllZip-both (λ test. DoesApply packages default test o) (λ test. Takes (DoesApply packages default test) key before) (λ test. Takes (DoesApply packages default test) key (before ++ o ∷ []))
      (λ test v t is takes. subst (λ (s : Bool). Takes (DoesApply packages default test) key (before ++ o ∷ []) (if s then kleene Disjunction t v else t)) is_unset
      (Takes-push (DoesApply packages default test) key before o t v takes is)) tests answers taken applies are

  -- and so it gives the setting to tests
  pub given_tests : AllZip (λ test. Gives (DoesApply packages default test) key before o) tests (map (λ (p : Option Bool × Option Bool). kleene Conjunction p.0 (kleene_not p.1)) (zip answers taken))
  given_tests =
      AllZip-zip (λ test. DoesApply packages default test o) (λ test. Takes (DoesApply packages default test) key before) (λ test. Gives (DoesApply packages default test) key before o)
      (λ (p : Option Bool × Option Bool). kleene Conjunction p.0 (kleene_not p.1)) (λ test v t is takes. (v, t, is, takes, refl)) tests answers taken applies are

-- no override takes a setting
pub none_taken : (packages : List PackageMetadata) (default : CompiledExpr) (tests : List Test) (key : Text) → AreTaken packages default tests key [] (replicate (length tests) (Some false))
none_taken packages default tests key =
    AllZip-replicate (λ test. Takes (DoesApply packages default test) key []) (Some false) (λ test. refl) tests

named : (Applies : AskedOverride → Option Bool → Type 0) (key : Text) (overrides : List AskedOverride) (profiles : List AskedProfile) (v : Option Bool) (path : Text) (giver : Giver)
    → IsFirst Applies key overrides v path → NamesOverride v path giver → IsGiver Applies key overrides profiles giver
named Applies key overrides profiles (Some true) path (Override p) first same = subst (λ (t : Text). IsFirst Applies key overrides (Some true) t) (sym same) first
named Applies key overrides profiles (Some true) path (Unknown p) first same = absurd same
named Applies key overrides profiles (Some true) path (Profile name) first same = absurd same
named Applies key overrides profiles (Some true) path Nextest first same = absurd same
named Applies key overrides profiles (Some false) path giver first same = absurd same
named Applies key overrides profiles None path (Unknown p) first same = subst (λ (t : Text). IsFirst Applies key overrides None t) (sym same) first
named Applies key overrides profiles None path (Override p) first same = absurd same
named Applies key overrides profiles None path (Profile name) first same = absurd same
named Applies key overrides profiles None path Nextest first same = absurd same

-- no override takes the setting
pub by_profile : (Applies : AskedOverride → Option Bool → Type 0) (key : Text) (overrides : List AskedOverride) (profiles : List AskedProfile) (giver : Giver)
    → Takes Applies key overrides (Some false) → IsProfileGiver key profiles giver → IsGiver Applies key overrides profiles giver
by_profile Applies key overrides profiles (Profile name) none is = (none, is)
by_profile Applies key overrides profiles Nextest none is = (none, is)
by_profile Applies key overrides profiles (Override path) none is = absurd is
by_profile Applies key overrides profiles (Unknown path) none is = absurd is

module _ (packages : List PackageMetadata) (default : CompiledExpr) (test : Test) (key : Text) (explained : List ExplainedOverride) (i : ℕ) (one : ExplainedOverride)
    (lt : i < length explained) (at : get_or explained i one ≡ one) (are : AreExplained packages default test explained)
    (none : Takes (DoesApply packages default test) key (asked_of (take i explained)) (Some false)) where
  applies_here : DoesApply packages default test one.asked (verdict one.application)
  applies_here = (one.application, subst (λ (e : ExplainedOverride). AppliesAs packages default test e.asked e.application) at (are i one lt), refl)

  -- the first override that gives the setting or may
  pub first_is : (giver : Giver) → sets one.asked.settings.now key ≡ true → NamesOverride (verdict one.application) one.asked.path.now giver
      → (profiles : List AskedProfile) → IsGiver (DoesApply packages default test) key (asked_of explained) profiles giver
  first_is giver is_set names profiles =
      let whole = ap asked_of (split_at explained i one lt at) ∙ map_append (λ (e : ExplainedOverride). e.asked) (take i explained) (one ∷ drop (suc i) explained) in
      named (DoesApply packages default test) key (asked_of explained) profiles (verdict one.application) one.asked.path.now giver
      (asked_of (take i explained), asked_of (drop (suc i) explained), one.asked, whole, is_set, refl, none, applies_here) names

  -- one that does not
  pub passed : (if sets one.asked.settings.now key then verdict one.application else Some false) ≡ Some false
      → Takes (DoesApply packages default test) key (asked_of (take (i + 1) explained)) (Some false)
  passed is =
      subst (λ (os : List AskedOverride). Takes (DoesApply packages default test) key os (Some false)) (sym (map_more (λ (e : ExplainedOverride). e.asked) explained i one lt at))
      (Takes-pass (DoesApply packages default test) key (asked_of (take i explained)) one.asked (verdict one.application) none applies_here is)
