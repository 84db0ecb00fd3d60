use Rattle.std.proofs.Common.{◌≡◌, ◌<◌, ◌+◌, ◌-◌, List, [], ◌∷◌, ◌++◌, length, get_or, map, take, arith, ap, sym, ◌∙◌}
use Rattle.std.specs.{Prelude.codes, Borrow.Bor}
use Rattle.std.proofs.lemmas.List.{map-append, take_all, take_more}
use Rattle.filterset_configuration.specs.{Paths.profile_path, declared.profiles.Profile.Profile}
use Rattle.filterset_configuration.proofs.inheritance.missing.Goals as goal

-- a list ends in its last element
last_cut : (xs : List (Bor Profile)) (x : Bor Profile) → 0 < length xs → x ≡ get_or xs (length xs - 1) x
    → map (λ p. p.now) xs ≡ map (λ p. p.now) (take (length xs - 1) xs) ++ x.now ∷ []
last_cut xs x some is =
    let n = length xs - 1 in
    let more : take (n + 1) xs ≡ take n xs ++ get_or xs n x ∷ [] = take_more xs n x (omega arith) in
    ap (map (λ p. p.now)) (sym (take_all (n + 1) xs (omega arith)) ∙ more ∙ ap (λ y. take n xs ++ y ∷ []) (sym is)) ∙ map-append (λ p. p.now) (take n xs) (x ∷ [])

pub returns : goal.returns
returns c =
    let chain = c.args.chain.now in
    let child = c.in-Some.child.now in
    let last = c.in-Some.ensures.item in (
      map (λ p. p.now) (take (length chain - 1) chain),
      child.now,
      last_cut chain child last.3.0 last.1,
      c.in_ok-path-2.ensures.ok ∙ ap (λ t. t ++ codes ".inherits") (c.in_ok-path.ensures ∙ ap profile_path c.as_str.ensures.value),
      c.in_ok-name.ensures.ok,
    )
