-- The names of groups that were collected.
use Rattle.std.proofs.Common.{◌≡◌, ◌↔◌, ◌||◌, ◌∙◌, true, List, [], ◌∷◌, map, Contains, Global, String, string_bytes, sym, ap, subst, refl}
use Rattle.std.specs.HashSet.{HashSet, keys}
use Rattle.std.specs.{List.list_any, Str.bytes_eq, String.string_eq, String.string_eq_equiv}
use Rattle.std.proofs.lemmas.{List.Folds.Any-from_list_any, Map.Made.is_member-Decides}
use Rattle.std.proofs.lemmas.{Map.Views.list_any-from_Contains, Slice.Eq.bytes_eq-Decides}
use Rattle.std.specs.HashSet as bag
use Rattle.filterset_graph.specs.Packages.{Text}

abbrev texts : List (String Global) → List Text
texts names = map (λ s. string_bytes s) names

-- a text is sought among names as among their texts
any_text : (text : Text) (names : List (String Global)) → list_any (bytes_eq text) (texts names) ≡ list_any (λ name. bytes_eq text (string_bytes name)) names
any_text text [] = refl
any_text text (name ∷ names) = ap (λ b. bytes_eq text (string_bytes name) || b) (any_text text names)

-- names of which each is equal to one of the others have no text that the others have not
texts_among : (names others : List (String Global)) → ((q : String Global) → list_any (string_eq q) names ≡ list_any (string_eq q) others) →
    (text : Text) → Contains (texts names) text → Contains (texts others) text
texts_among names others same text found =
    let any = Any-from_list_any (λ (name : String Global). bytes_eq text (string_bytes name)) names (sym (any_text text names) ∙ (is_member-Decides bytes_eq-Decides (texts names) text).1 found) in
    let name = any.1 in
    let is : text ≡ string_bytes name = (bytes_eq-Decides text (string_bytes name)).0 any.4 in
    let there : list_any (string_eq name) others ≡ true = sym (same name) ∙ list_any-from_Contains string_eq_equiv name names (any.0, any.2, any.3) in
    let sought : list_any (λ other. bytes_eq text (string_bytes other)) others ≡ true = subst (λ (t : Text). list_any (λ other. bytes_eq t (string_bytes other)) others ≡ true) (sym is) there in
    (is_member-Decides bytes_eq-Decides (texts others) text).0 (any_text text others ∙ sought)

-- a set that was collected of names has their texts
pub collected_names : {S : Type 0} (names : List (String Global)) (set : HashSet (String Global) S) → bag.IsFromIterResult string_eq names set →
    (text : Text) → Contains (texts (keys set)) text ↔ Contains (texts names) text
collected_names names set is text =
    (texts_among (keys set) names (λ q. is.0 q) text, texts_among names (keys set) (λ q. sym (is.0 q)) text)
