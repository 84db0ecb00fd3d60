use Rattle.std.proofs.Common.{rules, ◌≡◌, ◌∙◌, sym}
use Rattle.serde_json.specs.View.{view, members_view}
use Rattle.filterset_json.proofs.{RefusalLemmas.Refuses-not, ShapeLemmas.as_object-Some, ShapeLemmas.keys-Decides}
use Rattle.filterset_json.proofs.object.check_keys.Goals.{in_default-via-in-Some+else-has_keys_among, in_default-via-in_default}
use Rattle.filterset_json.proofs.object.check_keys.Goals as goal

pub returns-in-Some-clause-ok : goal.returns-in-Some-clause-ok
returns-in-Some-clause-ok c =
    let entries = c.in-Some.members.now.entries in
    let is = as_object-Some (view c.args.value.now) _ c.in-Some.ensures in
    (members_view entries, is, (keys-Decides c.args.names.now entries).0 (sym c.has_keys_among.ensures ∙ c.if-has_keys_among.true))

pub returns-in_default-clause-refused : goal.returns-in_default-clause-refused
returns-in_default-clause-refused c =
    Refuses-not c.wrong.result
    (λ found. elim c.in_default.branch [
      | in_default-via-in-Some+else-has_keys_among w ↦
          let entries = w.in-Some.members.now.entries in
          let is = as_object-Some (view c.args.value.now) _ w.in-Some.ensures in
          let same : found.0 ≡ members_view entries = cc (found.1, is) in
          cc (w.has_keys_among.ensures, (keys-Decides c.args.names.now entries).1 (rw same at found.2), w.if-has_keys_among.false)
      | in_default-via-in_default w ↦ search rules
    ])
