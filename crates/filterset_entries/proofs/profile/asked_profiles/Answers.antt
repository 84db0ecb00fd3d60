use Rattle.std.proofs.Common.{arith, ◌<◌, Bor, length, map, sym, take}
use Rattle.std.proofs.lemmas.List.{take_all}
use Rattle.filterset_configuration.specs.declared.profiles.Profile.{Profile}
use Rattle.filterset_entries.specs.Profile.{IsProfileOf}
use Rattle.filterset_entries.proofs.RowsLemmas.{AllZip-push, rows_more}
use Rattle.filterset_entries.proofs.profile.asked_profiles.Goals as goal

pub returns : goal.returns
returns c =
    let all = c.loop-profile.invariant in
    rw (take_all c.loop-profile.profile-index c.args.profiles.now c.loop-profile-test.false) at all

pub loop-profile-preserved : goal.loop-profile-preserved
loop-profile-preserved c =
    let profiles = c.args.profiles.now in
    let i = c.loop-profile.profile-index in
    let profile = c.profile-item.result in
    let lt : i < length profiles = omega (arith, c.loop-profile-test.true) in
    let f = λ (p : Bor Profile). p.now in
    rw (c.in_ok-push.ensures.items, rows_more f profiles i profile lt (sym c.profile-item.is))
    (AllZip-push IsProfileOf (map f (take i profiles)) _ profile.now _ c.loop-profile.invariant (c.as_str.ensures.value, c.as_slice.ensures.value))
