use Rattle.std.specs.Prelude.{string_bytes}
use Rattle.std.proofs.lemmas.Str.{IsUtf8-string_bytes}
use Rattle.filterset_deciding.proofs.seeking.seek_text.Goals as goal

pub returns-in-Text : goal.returns-in-Text
returns-in-Text c =
    let are = rw c.in-Some.is at c.in_ok-conditions.ensures.some in
    let text = string_bytes c.in-Text.text in
    let met = rw (c.deref-2.ensures.value, c.in-Text.is) at c.in_ok-found.ensures.found in
    (are text (IsUtf8-string_bytes c.in-Text.text)).0 met

pub returns-in-Nothing : goal.returns-in-Nothing
returns-in-Nothing c = λ text utf8 met.
    let are = rw c.in-Some.is at c.in_ok-conditions.ensures.some in
    let none = rw (c.deref-2.ensures.value, c.in-Nothing.is) at c.in_ok-found.ensures.found in
    none text utf8 ((are text utf8).1 met)
