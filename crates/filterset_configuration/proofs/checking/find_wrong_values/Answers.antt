use Rattle.std.proofs.Common.{arith, ◌≡◌, ◌<◌, ◌+◌, [], ◌∷◌, ◌++◌, length, take, ap, subst, sym, ◌∙◌}
use Rattle.std.proofs.lemmas.List.{length-map, length-take-le, map-append, take_all, take_more}
use Rattle.toml.specs.View.{view}
use Rattle.filterset_configuration.specs.{Keys.Finds, Wrong.Judged, Wrong.value_row, Wrong.value_rows, Wrong.values_of}
use Rattle.filterset_configuration.proofs.KeyLemmas.{found-next}
use Rattle.filterset_configuration.proofs.checking.find_wrong_values.Goals as goal

pub loop-at-preserved : goal.loop-at-preserved
loop-at-preserved c =
    let text = c.args.parsed.text.now in
    let file = view c.args.parsed.file.now in
    let values = c.as_slice-values.result.now in
    let i = c.loop-at.at in
    let value = c.index-values-at.result in
    let lt : i < length values = c.loop-at-test.true in
    let rows = value_rows (take i values) in
    let (front, pushed, judged) = c.in_ok-push_wrong.ensures in
    let long : 0 + length rows ≡ i = omega (arith, length-map (take i values) value_row, length-take-le i values (omega arith)) in
    let more : value_rows (take (i + 1) values) ≡ rows ++ value_row value ∷ [] =
    ap value_rows (take_more values i value lt ∙ ap (λ x. take i values ++ x ∷ []) (sym c.index-values-at.is)) ∙ map-append value_row (take i values) (value ∷ []) in
    subst (λ rs. Finds (Judged text file) 0 rs c.push_wrong.new.found.items) (sym more)
    (subst (λ fs. Finds (Judged text file) 0 (rows ++ value_row value ∷ []) fs) (sym pushed)
    (found-next (Judged text file) 0 rows (value_row value) c.loop-at.wrong.items front c.loop-at.invariant
    (subst (λ n. Judged text file n (value_row value) front) (sym long) judged)))

pub returns : goal.returns
returns c =
    let values = c.as_slice-values.result.now in
    let all : value_rows (take c.loop-at.at values) ≡ values_of (view c.args.parsed.file.now) =
    ap value_rows (take_all c.loop-at.at values c.loop-at-test.false ∙ c.as_slice-values.ensures.value) ∙ c.in_ok-found.ensures in (
      view c.args.parsed.file.now,
      c.args.parsed.is_file,
      subst (λ rs. Finds (Judged c.args.parsed.text.now (view c.args.parsed.file.now)) 0 rs c.loop-at.wrong.items) all c.loop-at.invariant,
    )
