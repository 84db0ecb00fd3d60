use Rattle.std.proofs.Common.{rules, ◌≡◌, None, ap, string_bytes, sym, ◌∙◌, []}
use Rattle.serde_json.specs.{Find.get, View.view}
use Rattle.filterset_json.specs.{Paths.joined, Paths.key_text, Places.Place, declared.path.Step.TheVariants.Key}
use Rattle.filterset_json.proofs.RefusalLemmas.{Names-after, Names-whole, missing_key}
use Rattle.filterset_json.proofs.object.required.Goals as goal

-- the key is missing
pub returns-in-None-clause-place : goal.returns-in-None-clause-place
returns-in-None-clause-place g c =
    λ wrong same.
    let key = c.args.key.now in
    let d = view c.args.value.now in
    let none : None ≡ get key d = search (rules, c.in-None.ensures) in
    let must = c.EXPECTED.result.now in
    let named = Names-after (λ (place : Place). place ≡ ([], must)) (Key c.args.key) c.wrong.result c.after.result c.after.ensures (Names-whole c.wrong.result must c.wrong.ensures) wrong same in
    missing_key g.T.Entry.is_wrong key d (string_bytes wrong.path, wrong.expected.now) none (sym c.is_object.ensures ∙ c.if-is_object.true)
    (named.1 ∙ ap (joined (key_text key)) (ap (λ (q : Place). q.0) named.2))
