-- Characters of a text.
use Rattle.std.proofs.Common.{◌≡◌, ℕ, List, ◌∷◌, ◌++◌, refl, Bool, true, cond, IsUtf8}
use Rattle.std.specs.Prelude.{chars, encode_utf8}
use Rattle.std.proofs.lemmas.Str.{chars_past_char}
use Rattle.filterset_matchers.specs.PrintedMatcher.{printed_first, printed_value, printed_implicit}

-- what prints without a sign: its first character, and the rest
pub implicit_text : (value rest behind : List ℕ) (c : ℕ) (implicit : Bool) (sign : List ℕ) → IsUtf8 value → value ≡ encode_utf8 c ++ rest → behind ≡ rest → implicit ≡ true
    → printed_first c ++ printed_value behind ≡ cond implicit (printed_implicit (chars value)) (sign ++ printed_value value)
implicit_text value rest behind c implicit sign utf8 text same is =
    let e : chars value ≡ c ∷ chars rest = chars_past_char value rest c utf8 text in
    rw (is, e, same) refl
