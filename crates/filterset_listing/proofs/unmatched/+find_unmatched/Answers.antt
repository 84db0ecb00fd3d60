use Rattle.std.proofs.Common.{◌≡◌, true, false, sym, ◌∙◌, ap}
use Rattle.std.proofs.lemmas.List.{append-nil, map-append}
use Rattle.std.specs.{List.count_by, List.list_any, Option.is_none, Option.unwrap_or}
use Rattle.filterset_listing.specs.Columns.{values_of}
use Rattle.filterset_listing.proofs.unmatched.+find_unmatched.Goals as goal

pub returns-then-any_yes : goal.returns-then-any_yes
returns-then-any_yes t c =
    let matched : list_any (λ v. unwrap_or v false) (values_of c.args.columns.now) ≡ true = ap (list_any (λ v. unwrap_or v false)) (sym c.values-values.ensures) ∙ sym c.any_yes.ensures ∙ c.if-any_yes.true in
    rw (c.in-Set.ensures, matched) (sym (append-nil _))

pub returns-in_ok-push-in-Set : goal.returns-in_ok-push-in-Set
returns-in_ok-push-in-Set t c =
    let values = c.values-values.ensures in
    let matched : list_any (λ v. unwrap_or v false) (values_of c.args.columns.now) ≡ false = ap (list_any (λ v. unwrap_or v false)) (sym values) ∙ sym c.any_yes.ensures ∙ c.if-any_yes.false in
    let skipped = c.count_unknown-skipped.ensures ∙ ap (count_by is_none) values in
    rw (c.in-Set.ensures, matched, c.in_ok-push-in-Set.ensures.items, skipped) (map-append _ _ _)
