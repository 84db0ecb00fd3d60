use Rattle.std.proofs.Common.{rules, ◌≡◌, ◌∙◌, ap, codes, string_bytes}
use Rattle.serde_json.specs.{Data.put, View.members_view, View.view}
use Rattle.serde_json.proofs.Views.{members_view-insert_entry}
use Rattle.filterset_listing.specs.ListJson.{answer_in, match_data}
use Rattle.filterset_listing.proofs.MarkingLemmas.{marked_object, marked_other}
use Rattle.filterset_listing.proofs.listing.json.AnswersMark.mark.Goals as goal

pub returns-in_ok-put_in-in-Ok : goal.returns-in_ok-put_in-in-Ok
returns-in_ok-put_in-in-Ok c =
    let before = members_view c.in-Ok.members.entries in
    let key : string_bytes c.in_ok-key-in-Ok.key ≡ codes "filter-match" = search (rules, c.in_ok-key-in-Ok.ensures.ok) in
    let answer : c.unwrap_or-mark.result ≡ answer_in c.args.self.now.0 c.args.name.now = search rules in
    marked_object (view c.args.test) before c.put_in.new.members c.in-Ok.ensures.members
    (ap members_view c.in_ok-put_in-in-Ok.ensures ∙ members_view-insert_entry c.in-Ok.members.entries c.in_ok-key-in-Ok.key c.in_ok-match_value-in-Ok.field-0
    ∙ ap (λ k. put k (view c.in_ok-match_value-in-Ok.field-0) before) key ∙ ap (λ d. put (codes "filter-match") d before) (c.in_ok-match_value-in-Ok.ensures ∙ ap match_data answer))

pub returns-in-Err : goal.returns-in-Err
returns-in-Err c = marked_other c.args.test c.in-Err.other c.in-Err.ensures.other.0 c.in-Err.ensures.other.1
