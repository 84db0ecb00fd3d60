-- Values of a configuration, and refusals of them.
use Rattle.std.proofs.Common.{◌≡◌, List, Result, Ok, Err, Option, Some, None, false, subst, sym}
use Rattle.std.specs.Prelude.{IfErr, IsErrAnd, IsSomeAnd, MatchOption, codes, is_some, unwrap_or}
use Rattle.std.proofs.lemmas.{Bool.true≢false, Grind.not_there}
use Rattle.toml.specs.Data.{Data, string, integer, float, boolean, datetime, array, table, Items, Members, no_members, as_array, as_table, get}
use Rattle.filterset_json.specs.Shape.{Text}
use Rattle.filterset_sources.specs.Configurations.{IsFile}
use Rattle.filterset_configuration.specs.declared.profiles.Profile.{Profile}
use Rattle.filterset_configuration.specs.declared.platforms.filter.PlatformFilter.{PlatformFilter}
use Rattle.filterset_configuration.specs.Profiles.{AreProfiles, ArePlatforms, HasProfiles, IsPlatform, Under}
use Rattle.filterset_configuration.specs.Refusals.{IsWrong, Refuses}
use Rattle.filterset_configuration.specs.declared.refusal.ProfileRefusal.{ProfileRefusal}
use Rattle.filterset_configuration.specs.declared.refusal.ProfileRefusal.TheVariants.{Wrong, OutOfMemory}

-- a value that is seen as a list is one
pub as_array-Some : (d : Data) (ds : Items) → Some ds ≡ as_array d → d ≡ array ds
as_array-Some (string s) ds h = cc
as_array-Some (integer z) ds h = cc
as_array-Some (float x) ds h = cc
as_array-Some (boolean b) ds h = cc
as_array-Some (datetime dt) ds h = cc
as_array-Some (array es) ds h = cc
as_array-Some (table ms) ds h = cc

-- what is refused is refused for each fact from which that follows
pub Refuses-if : {A B : Type 0} (r : ProfileRefusal) → (B → A) → Refuses A r → Refuses B r
Refuses-if (Wrong path expected) f h = λ b. h (f b)
Refuses-if (OutOfMemory e) f h = tt

-- a refusal that a `?` hands on
pub handed_on : {T A B : Type 0} (r : Result T ProfileRefusal) (e : ProfileRefusal) → IsErrAnd r (λ y. y ≡ e) → (B → A) → Refuses A e → IfErr r (Refuses B)
handed_on (Ok v) e same f h = absurd same
handed_on {B} (Err y) e same f h = subst (Refuses B) (sym same) (Refuses-if e f h)

-- a value that is wrong, where the fact does not hold
pub refused_wrong : {A : Type 0} (r : ProfileRefusal) → IsWrong r → (A → ⊥) → Refuses A r
refused_wrong (Wrong path expected) h refuted = refuted
refused_wrong (OutOfMemory e) h refuted = absurd h

-- profiles that are refused of a file are refused of its text
pub of_text : (text : Text) (file : Data) (r : ProfileRefusal) → IsFile text file
    → Refuses ((ps : List Profile) × AreProfiles file (unwrap_or (get (codes "profile") file) (table no_members)) ps) r
    → Refuses ((ps : List Profile) × HasProfiles text ps) r
of_text text file (Wrong path expected) is refuted = λ has.
    let (d, other, are) = has.1 in
    let Are : Data → Type 0 = λ d. AreProfiles d (unwrap_or (get (codes "profile") d) (table no_members)) has.0 in
    not_there is (λ a. not_there other (λ b. let same : d ≡ file = cc in refuted (has.0, subst Are same are)))
of_text text file (OutOfMemory e) is refuted = tt

no_table : (e : Data) (p : PlatformFilter) (o : Option Members) → is_some o ≡ false
    → MatchOption o ((p.host ≡ None) × IsSomeAnd p.target (IsPlatform e)) (λ ms. Under IsPlatform (codes "host") e p.host × Under IsPlatform (codes "target") e p.target)
    → (p.host ≡ None) × IsSomeAnd p.target (IsPlatform e)
no_table e p None text h = h
no_table e p (Some ms) text h = absurd (true≢false text)

-- the target's platform, where a text stands for it
pub target_of : (d e : Data) (p : PlatformFilter) → get (codes "platform") d ≡ Some e → is_some (as_table e) ≡ false
    → ArePlatforms (unwrap_or (get (codes "platform") d) (table no_members)) p → Under IsPlatform (codes "platform") d p.target
target_of d e p found text h = rw found (no_table e p (as_table e) text (rw found at h)).1
