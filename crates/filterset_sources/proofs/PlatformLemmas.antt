-- What stands at the end of keys.
use Rattle.std.proofs.Common.{◌≡◌, ◌-◌, ◌≤◌, List, [], ◌∷◌, length, map, take, drop, get_or, Bor, Some, arith, subst}
use Rattle.std.proofs.lemmas.List.{take_all}
use Rattle.serde_json.specs.{Data.Data, Find.get}
use Rattle.filterset_json.specs.{Paths.key_text, Places.After, Places.Place, Shape.Text}
use Rattle.filterset_sources.specs.Platforms.{WrongAt}

-- what is wrong behind the first of the keys
pub wrong_behind : (keys : List (Bor Text)) (W : Data → Place → Type 0) (d e : Data) (place : Place) (none : Bor Text) → 1 ≤ length keys → Some e ≡ get (get_or keys 0 none).now d →
    After (key_text (get_or keys 0 none).now) (WrongAt (map (λ k. k.now) (take (length keys - 1) (drop 1 keys))) W e) place → WrongAt (map (λ k. k.now) keys) W d place
wrong_behind [] W d e place none some found wrong = absurd (omega arith)
wrong_behind (key ∷ keys) W d e place none some found wrong =
    let rest : take (length (key ∷ keys) - 1) keys ≡ keys = take_all _ keys (omega arith) in
    rw (← found) (subst (λ (ks : List (Bor Text)). After (key_text key.now) (WrongAt (map (λ k. k.now) ks) W e) place) rest wrong)
