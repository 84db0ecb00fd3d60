use Rattle.std.proofs.Common.{◌≡◌, ◌∙◌, Some, ap, false, inl, inr, length, refl, rules, string_bytes, true}
use Rattle.filterset_display.specs.Positions.{Text}
use Rattle.filterset_server.proofs.mending.mend.Goals as goal

pub returns-in_default : goal.returns-in_default
returns-in_default c = inl (rw (c.in_default.is, c.from_ref.ensures.value) at c.in_ok-new.ensures.none, refl)

pub returns-then-branch : goal.returns-then-branch
returns-then-branch c =
    let len : c.len.result ≡ length (string_bytes c.args.edit.now.text) = search rules in
    let some = rw (c.in-Some.is, c.from_ref.ensures.value) at c.in_ok-new.ensures.some in
    let made = rw (c.in-Some.is, c.from_ref.ensures.value) at c.in_ok-new.ensures.text in
    let clear = rw (c.as_str.ensures.value ∙ made, len, c.if-branch.true) at c.in_ok-is_clear.ensures in
    inr (some, (true, clear, ap (λ (t : Text). Some t) made))

pub returns-else-branch : goal.returns-else-branch
returns-else-branch c =
    let len : c.len.result ≡ length (string_bytes c.args.edit.now.text) = search rules in
    let some = rw (c.in-Some.is, c.from_ref.ensures.value) at c.in_ok-new.ensures.some in
    let made = rw (c.in-Some.is, c.from_ref.ensures.value) at c.in_ok-new.ensures.text in
    let clear = rw (c.as_str.ensures.value ∙ made, len, c.if-branch.false) at c.in_ok-is_clear.ensures in
    inr (some, (false, clear, refl))
