use Rattle.std.proofs.Common.{rules, ◌≡◌, [], ◌∷◌, ◌++◌, ap, append_assoc, map, string_bytes, subst, sym, ◌∙◌}
use Rattle.std.proofs.lemmas.List.{map-append}
use Rattle.serde_json.specs.View.{members_view, view}
use Rattle.serde_json.proofs.Views.{Entry}
use Rattle.filterset_json.specs.{Paths.key_text, Places.After, declared.path.Step.TheVariants.Key}
use Rattle.filterset_json.proofs.RefusalLemmas.{Names-after, Refuses-after}
use Rattle.filterset_sources.specs.Shape.{EachMember, WrongMembers}
use Rattle.filterset_sources.proofs.ShapeLemmas.{EachMember-at, EachMember-push, WrongMembers-at}
use Rattle.filterset_sources.proofs.members.entries_of.Goals as goal

pub loop-key-preserved : goal.loop-key-preserved
loop-key-preserved g c =
    let P = g.T.Member.stands_for in
    let done = c.loop-key.invariant.0 in
    let e : Entry = (c.in-Some.key.now, c.in-Some.value.now) in
    let key : c.as_str-key.result.now ≡ string_bytes e.0 = search (rules, c.as_str-key.ensures.value) in
    let step : c.loop-key.key-iterator ≡ e ∷ c.next.new.self = search (rules, c.in-Some.ensures.steps) in (
      done ++ e ∷ [],
      c.loop-key.invariant.1 ∙ ap (λ t. done ++ t) step ∙ sym (append_assoc done (e ∷ []) c.next.new.self),
      rw (c.in_ok-push-in-Ok.ensures.items, map-append g.T.Member.row_of c.loop-key.all.items (c.in-Ok.entry ∷ []))
          (EachMember-push P done (map g.T.Member.row_of c.loop-key.all.items) e (g.T.Member.row_of c.in-Ok.entry) c.loop-key.invariant.2
          (subst (λ k. P k (view e.1) (g.T.Member.row_of c.in-Ok.entry)) key c.in-Ok.ensures.read)),
    )

pub returns-in-Err-clause-refused : goal.returns-in-Err-clause-refused
returns-in-Err-clause-refused g c =
    let P = g.T.Member.stands_for in
    let done = c.loop-key.invariant.0 in
    let e : Entry = (c.in-Some.key.now, c.in-Some.value.now) in
    let key : c.as_str-key.result.now ≡ string_bytes e.0 = search (rules, c.as_str-key.ensures.value) in
    let step : c.loop-key.key-iterator ≡ e ∷ c.next.new.self = search (rules, c.in-Some.ensures.steps) in
    let are = c.loop-key.invariant.1 ∙ ap (λ t. done ++ t) step in
    Refuses-after (Key c.as_str-key.result) c.in-Err.refusal c.after.result c.after.ensures
    (λ fact.
    let found = EachMember-at P done e c.next.new.self fact.0 (subst (λ es. EachMember P (members_view es) fact.0) are fact.1) in
    (found.0, subst (λ k. P k (view e.1) found.0) (sym key) found.1))
    c.in-Err.ensures.refused

pub returns-in-Err-clause-place : goal.returns-in-Err-clause-place
returns-in-Err-clause-place g c =
    λ wrong same.
    let P = g.T.Member.stands_for in
    let W = g.T.Member.is_wrong in
    let done = c.loop-key.invariant.0 in
    let e : Entry = (c.in-Some.key.now, c.in-Some.value.now) in
    let key : c.as_str-key.result.now ≡ string_bytes e.0 = search (rules, c.as_str-key.ensures.value) in
    let step : c.loop-key.key-iterator ≡ e ∷ c.next.new.self = search (rules, c.in-Some.ensures.steps) in
    let are = c.loop-key.invariant.1 ∙ ap (λ t. done ++ t) step in
    let named = Names-after (W c.as_str-key.result.now (view e.1)) (Key c.as_str-key.result) c.in-Err.refusal c.after.result c.after.ensures c.in-Err.ensures.place wrong same in
    subst (λ es. WrongMembers P W (members_view es) (string_bytes wrong.path, wrong.expected.now)) (sym are)
    (WrongMembers-at P W done (map g.T.Member.row_of c.loop-key.all.items) e c.next.new.self (string_bytes wrong.path, wrong.expected.now) c.loop-key.invariant.2
    (subst (λ k. After (key_text k) (W k (view e.1)) (string_bytes wrong.path, wrong.expected.now)) key named))
