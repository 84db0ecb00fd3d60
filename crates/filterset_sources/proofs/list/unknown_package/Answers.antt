use Rattle.std.proofs.Common.{◌≡◌, [], ap, ◌∙◌}
use Rattle.std.specs.Prelude.{codes}
use Rattle.filterset_json.specs.{Paths.joined, Paths.key_text, Places.After, Places.Place, Shape.Text}
use Rattle.filterset_json.proofs.RefusalLemmas.{Names-whole}
use Rattle.filterset_sources.proofs.ShapeLemmas.{Names-by, Refuses-source}
use Rattle.filterset_sources.proofs.list.unknown_package.Goals as goal

pub returns : goal.returns
returns c =
    let must = codes "the id of a package of cargo's metadata" in
    let package_key : Text = codes "package-id" in
    let suites : Text = codes "rust-suites" in
    let id : Text = c.args.suite.now.binary_id in
    let read : Text = c.as_str.result.now in
    let Whole : Place → Type 0 = λ place. place ≡ ([], must) in
    let first = Names-by Whole (key_text package_key) c.wrong.result c.after.result
    (λ v w inner outer. rw (inner, outer) at c.after.ensures) (λ e w inner outer. absurd (cc (rw (inner, outer) at c.after.ensures)))
    (Names-whole c.wrong.result must c.wrong.ensures) in
    let second = Names-by (After (key_text package_key) Whole) (key_text read) c.after.result c.after-2.result
    (λ v w inner outer. rw (inner, outer) at c.after-2.ensures) (λ e w inner outer. absurd (cc (rw (inner, outer) at c.after-2.ensures)))
    first in
    let third = Names-by (After (key_text read) (After (key_text package_key) Whole)) (key_text suites) c.after-2.result c.after-wrong.result
    (λ v w inner outer. rw (inner, outer) at c.after-wrong.ensures) (λ e w inner outer. absurd (cc (rw (inner, outer) at c.after-wrong.ensures)))
    second in
    let Named : Place → Type 0 = λ place. place ≡ (joined suites (joined (key_text id) package_key), must) in
    rw c.from.ensures
    (Refuses-source (After (key_text suites) (After (key_text read) (After (key_text package_key) Whole))) Named c.after-wrong.result
    (λ place at.
    ap (λ (path : Text). (path, place.1)) (at.1 ∙ ap (joined suites) (at.2.1 ∙ ap (joined (key_text read)) at.2.2.1))
    ∙ ap (λ (q : Place). (joined suites (joined (key_text read) (joined package_key q.0)), q.1)) at.2.2.2
    ∙ ap (λ (text : Text). (joined suites (joined (key_text text) package_key), must)) c.as_str.ensures)
    third)
