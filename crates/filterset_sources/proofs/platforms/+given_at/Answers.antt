use Rattle.std.proofs.Common.{◌-◌, [], map, string_bytes, length, take, drop, get_or, Bor}
use Rattle.serde_json.specs.View.{view}
use Rattle.filterset_json.specs.{Places.Place, Shape.Text, declared.path.Step.TheVariants.Key}
use Rattle.filterset_json.proofs.RefusalLemmas.{Names-after}
use Rattle.filterset_sources.specs.Platforms.{WrongAt}
use Rattle.filterset_sources.proofs.PlatformLemmas.{wrong_behind}
use Rattle.filterset_sources.proofs.platforms.+given_at.Goals as goal

pub returns-in-Err-clause-place : goal.returns-in-Err-clause-place
returns-in-Err-clause-place g t c =
    let keys = c.args.keys.now in
    let none : Bor Text = record { ref_ptr = (0, 0); now = [] } in
    let W = g.T.Entry.is_wrong in
    let found = view c.in-Some.found.now in
    let P : Place → Type 0 = WrongAt (map (λ k. k.now) (take (length keys - 1) (drop 1 keys))) W found in
    λ wrong same.
    wrong_behind keys W (view c.args.value.now) found (string_bytes wrong.path, wrong.expected.now) none c.in-len1-up.len_at_least c.in-Some.ensures
    (Names-after P (Key (get_or keys 0 none)) c.in-Err.refusal c.after.result c.after.ensures c.in-Err.ensures.place wrong same)
