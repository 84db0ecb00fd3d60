use Rattle.std.proofs.Common.{◌+◌, ◌++◌, List, map, string_bytes, subst, sym, take}
use Rattle.std.proofs.lemmas.List.{append-nil, take_all}
use Rattle.filterset_overrides.specs.Applying.{Text}
use Rattle.filterset_overrides.specs.Giving.{AreDistinctOf, override_settings, profile_settings}
use Rattle.filterset_overrides.specs.declared.asked.{AskedOverride.AskedOverride, AskedProfile.AskedProfile}
use Rattle.filterset_overrides.proofs.{KeyLemmas.none_distinct, ListLemmas.behind, ListLemmas.flat_more}
use Rattle.filterset_overrides.proofs.keys.keys_of.Goals as goal

pub loop-asked-init : goal.loop-asked-init
loop-asked-init c = rw c.new-keys.ensures.items none_distinct

pub loop-asked-preserved : goal.loop-asked-preserved
loop-asked-preserved c =
    let items = c.args.overrides.now in
    let i = c.loop-asked.asked-index in
    let one = c.asked-item.result in
    subst (λ (texts : List Text). AreDistinctOf texts (map (λ k. k.now) c.push_keys.new.keys.items))
    (sym (flat_more (λ (o : AskedOverride). map string_bytes o.settings.now) items i one c.loop-asked-test.true (sym c.asked-item.is))) (c.in_ok-push_keys.ensures (override_settings (take i items)) c.loop-asked.invariant)

pub loop-profile-init : goal.loop-profile-init
loop-profile-init c =
    rw (append-nil (override_settings c.args.overrides.now)) (rw (take_all c.loop-asked.asked-index c.args.overrides.now c.loop-asked-test.false) at c.loop-asked.invariant)

pub loop-profile-preserved : goal.loop-profile-preserved
loop-profile-preserved c =
    let items = c.args.profiles.now in
    let i = c.loop-profile.profile-index in
    let one = c.profile-item.result in
    let all = override_settings c.args.overrides.now in
    let so_far = profile_settings (take i items) in
    subst (λ (texts : List Text). AreDistinctOf texts (map (λ k. k.now) c.push_keys-in-loop-profile.new.keys.items))
    (behind all so_far (map string_bytes one.settings.now) (profile_settings (take (i + 1) items)) (flat_more (λ (p : AskedProfile). map string_bytes p.settings.now) items i one c.loop-profile-test.true (sym c.profile-item.is)))
    (c.in_ok-push_keys-2.ensures (all ++ so_far) c.loop-profile.invariant)

pub returns : goal.returns
returns c = rw (take_all c.loop-profile.profile-index c.args.profiles.now c.loop-profile-test.false) at c.loop-profile.invariant
