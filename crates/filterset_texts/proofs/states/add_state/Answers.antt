use Rattle.std.proofs.Common.{rules, ◌≡◌, sym, subst, ◌∙◌, List}
use Rattle.filterset_texts.specs.{declared.states.State.State, Searching.AreSeen}
use Rattle.filterset_texts.proofs.Remembering.{seen_more}
use Rattle.filterset_texts.proofs.states.add_state.Goals as goal

pub returns-clause-seen : goal.returns-clause-seen
returns-clause-seen c =
    let state : State = c.args.state in
    let same : c.in_ok-to_vec.field-0.items ≡ c.deref.result.now = search rules in
    subst (λ (list : List State). AreSeen list c.insert.new.self) (sym c.in_ok-push.ensures.items)
    (seen_more c.args.states.now.list.items state c.args.states.now.seen c.insert.new.self c.in_ok-to_vec.field-0 (same ∙ c.deref.ensures.value) c.requires c.in_ok-insert.ensures.updates)
