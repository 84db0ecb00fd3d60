use Rattle.std.proofs.Common.{◌<◌, ◌≤◌, arith, length, refl, take, sym}
use Rattle.filterset_listing.specs.NamedPackages.{members}
use Rattle.filterset_listing.proofs.ListingLemmas.{one_more}
use Rattle.filterset_listing.proofs.NamedLemmas.{no_member, one_member, one_named, one_other}
use Rattle.filterset_listing.proofs.explaining.packages.name_members.Goals as goal

pub loop-package-preserved-then-not-contains : goal.loop-package-preserved-then-not-contains
loop-package-preserved-then-not-contains c =
    let packages = c.packages-package-items.result.now in
    let i = c.loop-package.package-index in
    let p = c.package-item.result in
    let keys = c.args.ids.now.keys in
    rw (one_more packages i p c.loop-package-test.true (sym c.package-item.is), no_member keys (take i packages) p c.contains.result c.contains.ensures c.if-not-contains.true) c.loop-package.invariant

pub loop-package-preserved-then-len-lt-NAMED : goal.loop-package-preserved-then-len-lt-NAMED
loop-package-preserved-then-len-lt-NAMED c =
    let packages = c.packages-package-items.result.now in
    let i = c.loop-package.package-index in
    let p = c.package-item.result in
    let keys = c.args.ids.now.keys in
    let few : length c.loop-package.named.names.items < 10 = omega (arith, c.if-len-lt-NAMED.true, c.len.ensures, c.loop-package.named.names.ok) in
    rw (one_more packages i p c.loop-package-test.true (sym c.package-item.is), one_member keys (take i packages) p c.contains.result c.contains.ensures c.if-not-contains.false)
    (one_named (members keys (take i packages)) p c.loop-package.named (record c.loop-package.named { names = c.push.new.self }) c.name.result c.loop-package.invariant few c.name.ensures c.in_ok-push.ensures.items refl)

pub loop-package-preserved : goal.loop-package-preserved
loop-package-preserved c =
    let packages = c.packages-package-items.result.now in
    let i = c.loop-package.package-index in
    let p = c.package-item.result in
    let keys = c.args.ids.now.keys in
    let named = c.loop-package.named in
    let many : 10 ≤ length named.names.items = omega (arith, c.if-len-lt-NAMED.false, c.len.ensures, c.loop-package.named.names.ok) in
    rw (one_more packages i p c.loop-package-test.true (sym c.package-item.is), one_member keys (take i packages) p c.contains.result c.contains.ensures c.if-not-contains.false)
    (one_other (members keys (take i packages)) p named (record named { others = c.in_ok-named.field-0 }) c.loop-package.invariant many refl c.in_ok-named.ensures)
