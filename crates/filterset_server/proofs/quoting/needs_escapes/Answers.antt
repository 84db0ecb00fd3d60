use Rattle.std.proofs.Common.{◌≡◌, ◌==◌, ◌||◌, ◌<◌, ◌≤◌, ◌∙◌, ℕ, Bool, true, ap, get_or, length, lit<, sym}
use Rattle.std.proofs.lemmas.{Bool.Decides.Decides-eqb, Bool.Decides.same_from_decides, List.get_or_default}
use Rattle.std.proofs.lemmas.{List.Folds.Any-from_list_any, List.Folds.list_any_at, Str.Pattern.contains_char}
use Rattle.std.specs.{List.list_any, Prelude.MatchBool, Prelude.None, Prelude.Some, Str.Pattern.FindsChar}
use Rattle.filterset_display.specs.Positions.{Text}
use Rattle.filterset_server.proofs.quoting.needs_escapes.Goals as goal

-- the search for an ASCII character finds whether the text has its byte
finds_byte : (b : ℕ) (bs : Text) (found : Bool)
    → MatchBool found ((i : ℕ) × (j : ℕ) × FindsChar b bs (Some (i, j)) × (i ≤ j) × (j ≤ length bs)) (FindsChar b bs None)
    → b < 128 → found ≡ list_any (λ x. x == b) bs
finds_byte b bs found is ascii =
    let test : ℕ → Bool = λ x. x == b in
    let P : Type 0 = list_any test bs ≡ true in
    let (some, at) = contains_char b bs found is ascii in
    same_from_decides {P = P} found (list_any test bs) (
      λ yes. let (k, within, has) = some yes in list_any_at test bs k 0 within ((Decides-eqb (get_or bs k 0) b).1 has),
      λ any.
          let (k, x, within, has, same) = Any-from_list_any test bs any in
          at k within (get_or_default bs k 0 x within ∙ has ∙ (Decides-eqb x b).0 same),
    )
    (λ any. any, λ any. any)

pub returns-else-contains : goal.returns-else-contains
returns-else-contains c =
    let text = c.args.text.now in
    let first = finds_byte 39 text c.contains.result c.contains.ensures.cases (lit< tt) in
    let second = finds_byte 10 text c.contains-else-contains.result c.contains-else-contains.ensures.cases (lit< tt) in
    second ∙ ap (λ b. b || list_any (λ x. x == 10) text) (sym c.if-contains.false ∙ first)
