-- The keys of a table without others.
use Rattle.std.proofs.Common.{◌≡◌, Bool, true, false, not, cond, Bor, List, [], ◌∷◌, ◌++◌, String, Global, append_assoc, map, string_bytes, refl, ap, sym, ◌∙◌}
use Rattle.std.proofs.lemmas.List.{map-append}
use Rattle.std.specs.{List.list_any, Prelude.filter, Str.bytes_eq}
use Rattle.filterset_json.specs.Shape.{Text}

abbrev pub keys_but : List Text → List Text → List Text
keys_but others keys = filter (λ key. not (list_any (λ other. bytes_eq other key) others)) keys

abbrev pub texts_of : List (Bor Text) → List Text
texts_of others = map (λ o. o.now) others

any_text : (others : List (Bor Text)) (key : Text) → list_any (λ o. bytes_eq o key) (texts_of others) ≡ list_any (λ o. bytes_eq o.now key) others
any_text [] key = refl
any_text (o ∷ others) key = let more = any_text others key in cc

chosen : (others : List (Bor Text)) (key : Text) (keys : List Text) (is : Bool) → list_any (λ o. bytes_eq o.now key) others ≡ is
    → keys_but (texts_of others) (key ∷ keys) ≡ cond (not is) (key ∷ keys_but (texts_of others) keys) (keys_but (texts_of others) keys)
chosen others key keys is same =
    ap (λ b. cond (not b) (key ∷ keys_but (texts_of others) keys) (keys_but (texts_of others) keys)) (any_text others key ∙ same)

-- a key among the others is left out, and each other one is kept
pub key_passed : (others : List (Bor Text)) (key : Text) (keys : List Text) → list_any (λ o. bytes_eq o.now key) others ≡ true
    → keys_but (texts_of others) (key ∷ keys) ≡ keys_but (texts_of others) keys
key_passed others key keys same = chosen others key keys true same

key_kept : (others : List (Bor Text)) (key : Text) (keys : List Text) → list_any (λ o. bytes_eq o.now key) others ≡ false
    → keys_but (texts_of others) (key ∷ keys) ≡ key ∷ keys_but (texts_of others) keys
key_kept others key keys same = chosen others key keys false same

-- one more key that is kept
pub kept_push : (others : List (Bor Text)) (keys : List (String Global)) (copy : String Global) (key : Text) (rest whole : List Text) → string_bytes copy ≡ key
    → list_any (λ o. bytes_eq o.now key) others ≡ false → map string_bytes keys ++ keys_but (texts_of others) (key ∷ rest) ≡ whole
    → map string_bytes (keys ++ copy ∷ []) ++ keys_but (texts_of others) rest ≡ whole
kept_push others keys copy key rest whole same among known =
    let front = map string_bytes keys in
    let left = keys_but (texts_of others) rest in
    ap (λ ks. ks ++ left) (map-append string_bytes keys (copy ∷ []))
    ∙ (append_assoc front (string_bytes copy ∷ []) left
    ∙ (ap (λ k. front ++ k ∷ left) same ∙ (ap (λ ks. front ++ ks) (sym (key_kept others key rest among)) ∙ known)))
