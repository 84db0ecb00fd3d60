use Rattle.std.proofs.Common.{◌≡◌, ◌<◌, ◌+◌, [], ◌∷◌, ◌++◌, List, length, take, ap, subst, sym, ◌∙◌}
use Rattle.std.proofs.lemmas.List.{map-append, take_all, take_more}
use Rattle.toml.specs.View.{view}
use Rattle.filterset_configuration.specs.Keys.{Finds, Judged, KeyRow, found_keys, key_row, key_rows}
use Rattle.filterset_configuration.specs.declared.keys.FoundKey.{FoundKey}
use Rattle.filterset_configuration.proofs.KeyLemmas.{found-next}
use Rattle.filterset_configuration.proofs.unknown.find_unknown_keys.Goals as goal

pub loop-found-preserved : goal.loop-found-preserved
loop-found-preserved c =
    let text = c.args.parsed.text.now in
    let keys = c.as_slice-keys.result.now in
    let all = key_rows keys in
    let i = c.loop-found.found-index in
    let key : FoundKey = c.found-item.result in
    let rows = key_rows (take i keys) in
    let (front, pushed, judged) = c.in_ok-push_unknown.ensures in
    let more : key_rows (take (i + 1) keys) ≡ rows ++ key_row key ∷ [] =
    ap key_rows (take_more keys i key c.loop-found-test.true ∙ ap (λ (x : FoundKey). take i keys ++ x ∷ []) (sym c.found-item.is)) ∙ map-append key_row (take i keys) (key ∷ []) in
    subst (λ rs. Finds (Judged text all) 0 rs c.push_unknown.new.output.items) (sym more)
    (subst (λ fs. Finds (Judged text all) 0 (rows ++ key_row key ∷ []) fs) (sym pushed)
    (found-next (Judged text all) 0 rows (key_row key) c.loop-found.unknown.items front c.loop-found.invariant judged))

pub returns : goal.returns
returns c =
    let text = c.args.parsed.text.now in
    let file = view c.args.parsed.file.now in
    let keys = c.as_slice-keys.result.now in
    let unknown = c.loop-found.unknown.items in
    let all : key_rows keys ≡ found_keys file = ap key_rows c.as_slice-keys.ensures.value ∙ c.in_ok-all.ensures in
    let done = subst (λ (ks : List FoundKey). Finds (Judged text (key_rows keys)) 0 (key_rows ks) unknown)
    (take_all c.loop-found.found-index keys c.loop-found-test.false) c.loop-found.invariant in
    (file, c.args.parsed.is_file, subst (λ (rs : List KeyRow). Finds (Judged text rs) 0 rs unknown) all done)
