use Rattle.std.proofs.Common.{rules, arith, ◌≡◌, ◌<◌, length, get_or, refl, string_bytes}
use Rattle.std.proofs.lemmas.List.{take_all}
use Rattle.filterset_server.proofs.BecomingLemmas.{now_of, text_next}
use Rattle.filterset_server.proofs.becoming.list_strings.Goals as goal

pub returns : goal.returns
returns c =
    let are = c.loop-string.invariant in
    rw (take_all c.loop-string.string-index c.args.strings.now c.loop-string-test.false) at are

pub loop-string-init : goal.loop-string-init
loop-string-init c = rw c.in_ok-texts.ensures.items refl

pub loop-string-preserved : goal.loop-string-preserved
loop-string-preserved c =
    let strings = c.args.strings.now in
    let i = c.loop-string.string-index in
    let string = c.string-item.result in
    let lt : i < length strings = omega (arith, c.loop-string-test.true) in
    let at : get_or strings i string ≡ string = search (rules, c.string-item.is) in
    rw c.in_ok-push.ensures.items
    (text_next (λ s. string_bytes s) now_of strings i string c.loop-string.texts.items _ lt at c.loop-string.invariant c.as_str.ensures.value)
