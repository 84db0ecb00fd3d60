use Rattle.std.proofs.Common.{◌≡◌, All, List, false, take, drop, suc, refl, subst, sym}
use Rattle.std.proofs.lemmas.List.{take_all, Elements.All-push}
use Rattle.filterset_overrides.specs.{Applying.sets, declared.asked.AskedProfile.AskedProfile}
use Rattle.filterset_overrides.proofs.ListLemmas.{one_more, split_at}
use Rattle.filterset_overrides.proofs.explaining.first_profile.Goals as goal

pub returns-then-sets : goal.returns-then-sets
returns-then-sets c =
    let all = c.args.profiles.now in
    let i = c.loop-profile.profile-index in
    let one = c.profile-item.result in
    (take i all, drop (suc i) all, one, split_at all i one c.loop-profile-test.true (sym c.profile-item.is), sym c.if-sets.ensures, refl, c.loop-profile.invariant)

pub loop-profile-preserved : goal.loop-profile-preserved
loop-profile-preserved c =
    let all = c.args.profiles.now in
    let i = c.loop-profile.profile-index in
    let one = c.profile-item.result in
    let P = λ (p : AskedProfile). sets p.settings.now c.args.key.now ≡ false in
    subst (λ (ps : List AskedProfile). All P ps) (sym (one_more all i one c.loop-profile-test.true (sym c.profile-item.is))) (All-push P (take i all) one c.loop-profile.invariant (sym c.if-sets.ensures))

pub returns : goal.returns
returns c =
    subst (λ (ps : List AskedProfile). All (λ (p : AskedProfile). sets p.settings.now c.args.key.now ≡ false) ps)
    (take_all c.loop-profile.profile-index c.args.profiles.now c.loop-profile-test.false) c.loop-profile.invariant
