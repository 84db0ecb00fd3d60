use Rattle.std.proofs.Common.{rules, ◌≡◌, ◌++◌, List, [], ◌∷◌, append-nil, inl, inr, refl, string_bytes, subst, sym}
use Rattle.filterset_json.specs.{Paths.key_text, Shape.Text}
use Rattle.filterset_configuration.specs.{Edits.IsMeant, declared.unknown.UnknownKey.UnknownKey}
use Rattle.filterset_configuration.proofs.unknown.push_unknown.Goals as goal

pub returns-in_default : goal.returns-in_default
returns-in_default c =
    let P : List Text → Type 0 = λ names. ¬ ((name : Text) × IsMeant names c.args.found.now.key.now name) in
    ([], sym (append-nil c.args.output.now.items), inl (subst P c.names_of.ensures c.in_default.ensures.none, refl))

pub returns : goal.returns
returns c =
    let key = c.args.found.now in
    let meant = c.in-Some.meant in
    let P : List Text → Type 0 = λ names. IsMeant names key.key.now meant.now in
    let u : UnknownKey = record { path = c.in_ok-format.field-0; key = c.in_ok-from_str.field-0; meant = meant; span = c.in_ok-place_of.field-0 } in
    let path : string_bytes u.path ≡ string_bytes key.prefix ++ key_text key.key.now = search (rules, c.in_ok-format.ensures, c.in_ok-key.ensures) in
    let same : string_bytes u.key ≡ key.key.now = search (rules, c.in_ok-from_str.ensures) in
    (u ∷ [], c.in_ok-push.ensures.items, inr (meant.now, u, subst P c.names_of.ensures c.in-Some.ensures.some, refl, (path, same, refl, c.in_ok-place_of.ensures)))
