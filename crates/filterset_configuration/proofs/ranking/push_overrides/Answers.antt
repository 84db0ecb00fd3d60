use Rattle.std.proofs.Common.{◌≡◌, ◌<◌, List, ◌∷◌, [], ◌++◌, length, get_or, take, string_bytes, refl, ap, append_assoc, arith, subst, ◌∙◌}
use Rattle.std.proofs.lemmas.List.{take_all}
use Rattle.std.specs.List.{AllZip}
use Rattle.filterset_configuration.specs.{PlatformTrees.facts_of, Paths.override_path, Paths.profile_path}
use Rattle.filterset_configuration.specs.Ranking.{IsRanked, placed}
use Rattle.filterset_configuration.specs.declared.{overrides.Override.Override, ranking.RankedOverride.RankedOverride}
use Rattle.filterset_configuration.proofs.{Ranks.length-placed, Ranks.placed_more, Zips.zip_push}
use Rattle.filterset_json.specs.Shape.{Text}
use Rattle.filterset_configuration.proofs.ranking.push_overrides.Goals as goal

-- one more override is ranked
one_more : (Is : Text × Override → RankedOverride → Type 0) (all : List (Text × Override)) (x : Text × Override) (first old new more : List RankedOverride)
    (one : RankedOverride) → new ≡ old ++ one ∷ [] → old ≡ first ++ more → AllZip Is all more → Is x one
    → (rest : List RankedOverride) × (new ≡ first ++ rest) × AllZip Is (all ++ x ∷ []) rest
one_more Is all x first old new more one pushed was are is =
    (more ++ one ∷ [], pushed ∙ ap (λ xs. xs ++ one ∷ []) was ∙ append_assoc first more (one ∷ []), zip_push Is all more x one are is)

pub loop-at-preserved : goal.loop-at-preserved
loop-at-preserved c =
    let profile = c.args.profile.now in
    let i = c.loop-at.at in
    let read = c.read-item.result in
    let items : c.deref-read-items.result.now ≡ profile.overrides.items = c.deref-read-items.ensures.value in
    let lt : i < length profile.overrides.items = subst (λ (os : List Override). i < length os) items c.loop-at-test.true in
    let is : read ≡ get_or profile.overrides.items i read = subst (λ (os : List Override). read ≡ get_or os i read) items c.read-item.is in
    let inv = c.loop-at.invariant in
    let is_ranked = IsRanked (facts_of c.args.host.now) (facts_of c.args.target.now) in
    let path : c.as_str-in-loop-at.result.now ≡ profile_path (string_bytes profile.name) =
    c.as_str-in-loop-at.ensures.value ∙ c.in_ok-path.ensures ∙ ap profile_path c.as_str.ensures.value in
    rw (placed_more profile i read lt is)
    (one_more is_ranked (take i (placed profile)) (override_path (profile_path (string_bytes profile.name)) i, read) c.args.ranked.now.items _ _ inv.0 _
    c.in_ok-push.ensures.items inv.1 inv.2 (c.in_ok-override_path.ensures ∙ ap (λ t. override_path t i) path, refl, c.applies.ensures.value, c.applies-in-loop-at.ensures.value))

pub returns : goal.returns
returns c =
    let profile = c.args.profile.now in
    let items = ap length c.deref-read-items.ensures.value in
    let many = length-placed profile in
    let inv = c.loop-at.invariant in
    (inv.0, inv.1, rw (take_all c.loop-at.at (placed profile) (omega (arith, c.loop-at-test.false))) at inv.2)
