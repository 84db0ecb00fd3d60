-- A platform's name with white space round it is what trims to the name.
use Rattle.std.proofs.Common.{◌≡◌, ℕ, Bool, true, false, cond, eqb, List, [], ◌∷◌, ◌++◌, length, Option, Some, None, refl, sym, ap, ◌∙◌, arith, IsUtf8}
use Rattle.std.specs.{Prelude.All, Prelude.encode_utf8_all, Prelude.codes, Prelude.◌&&◌, Char.is_whitespace}
use Rattle.std.specs.Str.{is_utf8, bytes_eq, trim, trim_start, trim_end, skip_leading_whitespace, drop_trailing_whitespace}
use Rattle.std.proofs.lemmas.{Bool.and_from, Bool.and_parts, Bool.eqb-true, List.append-nil}
use Rattle.std.proofs.lemmas.List.Elements.{All-cons, All-nil, All-tail, All-head}
use Rattle.std.proofs.lemmas.Slice.Eq.{bytes_eq-Decides}
use Rattle.std.proofs.lemmas.Str.{chars-encodes, encodes-append, IsUtf8-from_is_utf8, is_utf8-from_IsUtf8}
use lib.Utf8.{encode, scalar, scalars}
use Rattle.filterset_grammar.specs.Platforms.{Names}
use Rattle.filterset_language.specs.Parsing.PlatformNames.{platform_from, platform_in}
use Rattle.filterset_language.proofs.WhiteSpaceTest.{IsWhite, white_skipped, white_scalars}
use Rattle.filterset_graph.specs.Platforms.{platform_text}
use Rattle.filterset_graph.specs.declared.package.BuildPlatform.{BuildPlatform, TheVariants.Target, TheVariants.Host}

-- ---- what names a platform is trimmed to its name

pub scalars_append : (xs ys : List ℕ) → scalars xs ≡ true → scalars ys ≡ true → scalars (xs ++ ys) ≡ true
scalars_append [] ys h i = i
scalars_append (x ∷ xs) ys h i =
    let both = and_parts (scalar x) (scalars xs) h in
    and_from (scalar x) (scalars (xs ++ ys)) both.0 (scalars_append xs ys both.1 i)

white_dropped : (cs : List ℕ) → All IsWhite cs → drop_trailing_whitespace cs ≡ []
white_dropped [] h = refl
white_dropped (c ∷ cs) h =
    let is : is_whitespace c ≡ true = (All-head IsWhite c cs h).1 in
    let rest = white_dropped cs (All-tail IsWhite c cs h) in
    let first : drop_trailing_whitespace (c ∷ cs) ≡ cond (is_whitespace c && eqb (length {A = ℕ} []) 0) [] (c ∷ []) =
    ap (λ (x : List ℕ). cond (is_whitespace c && eqb (length x) 0) [] (c ∷ x)) rest
    in
    first ∙ ap (λ (v : Bool). cond (v && true) [] (c ∷ [])) is

name_encoded : (p : BuildPlatform) → encode_utf8_all (platform_text p) ≡ platform_text p
unfolding encode
name_encoded Target = refl
name_encoded Host = refl

name_scalars : (p : BuildPlatform) → scalars (platform_text p) ≡ true
name_scalars Target = refl
name_scalars Host = refl

name_begins : (p : BuildPlatform) (t : List ℕ) → skip_leading_whitespace (platform_text p ++ t) ≡ platform_text p ++ t
name_begins Target t = refl
name_begins Host t = refl

name_ends : (p : BuildPlatform) (t : List ℕ) → drop_trailing_whitespace (platform_text p ++ t) ≡ platform_text p ++ drop_trailing_whitespace t
name_ends Target t = refl
name_ends Host t = refl

pub start_trimmed : (cs : List ℕ) → scalars cs ≡ true → trim_start (encode_utf8_all cs) ≡ encode_utf8_all (skip_leading_whitespace cs)
unfolding trim_start
start_trimmed cs h = ap (λ (x : List ℕ). encode_utf8_all (skip_leading_whitespace x)) (chars-encodes cs h)

end_trimmed : (cs : List ℕ) → scalars cs ≡ true → trim_end (encode_utf8_all cs) ≡ encode_utf8_all (drop_trailing_whitespace cs)
unfolding trim_end
end_trimmed cs h = ap (λ (x : List ℕ). encode_utf8_all (drop_trailing_whitespace x)) (chars-encodes cs h)

-- the characters of a value that names a platform
record Characters (p : BuildPlatform) (s : List ℕ) (cs ds : List ℕ) : Type 0 where
  are : scalars (cs ++ (platform_text p ++ ds)) ≡ true
  behind : scalars (platform_text p ++ ds) ≡ true
  whole : s ≡ encode_utf8_all (cs ++ (platform_text p ++ ds))

characters : (p : BuildPlatform) (s : List ℕ) (names : Names s p) → Characters p s names.white_before.0 names.white_behind.0
characters p s names =
    let cs = names.white_before.0 in
    let ds = names.white_behind.0 in
    let name = platform_text p in
    let tail : encode_utf8_all (name ++ ds) ≡ name ++ names.behind =
    encodes-append name ds ∙ ap (λ (x : List ℕ). x ++ encode_utf8_all ds) (name_encoded p) ∙ ap (λ (x : List ℕ). name ++ x) (sym names.white_behind.1)
    in
    let behind : scalars (name ++ ds) ≡ true = scalars_append name ds (name_scalars p) (white_scalars ds names.white_behind.2) in
    record {
      are = scalars_append cs (name ++ ds) (white_scalars cs names.white_before.2) behind;
      behind = behind;
      whole = names.parts ∙ ap (λ (x : List ℕ). x ++ (name ++ names.behind)) names.white_before.1
          ∙ ap (λ (x : List ℕ). encode_utf8_all cs ++ x) (sym tail) ∙ sym (encodes-append cs (name ++ ds));
    }

pub names_utf8 : (p : BuildPlatform) (s : List ℕ) → Names s p → IsUtf8 s
names_utf8 p s names =
    let k = characters p s names in
    (names.white_before.0 ++ (platform_text p ++ names.white_behind.0), (k.are, sym k.whole))

pub names_trimmed : (p : BuildPlatform) (s : List ℕ) → Names s p → trim s ≡ platform_text p
names_trimmed p s names =
    let k = characters p s names in
    let cs = names.white_before.0 in
    let ds = names.white_behind.0 in
    let name = platform_text p in
    let started : trim_start s ≡ encode_utf8_all (name ++ ds) =
    ap trim_start k.whole ∙ start_trimmed (cs ++ (name ++ ds)) k.are ∙ ap encode_utf8_all (white_skipped cs (name ++ ds) names.white_before.2 ∙ name_begins p ds)
    in
    let ended : trim_end (encode_utf8_all (name ++ ds)) ≡ name =
    end_trimmed (name ++ ds) k.behind
    ∙ ap encode_utf8_all (name_ends p ds ∙ ap (λ (x : List ℕ). name ++ x) (white_dropped ds names.white_behind.2) ∙ append-nil name)
    ∙ name_encoded p
    in
    ap trim_end started ∙ ended

-- ---- what is trimmed to a platform's name

-- white space at the front of some characters, and the rest
pub record WhiteFront (cs rest : List ℕ) : Type 0 where
  pub white : List ℕ
  pub are : All IsWhite white
  pub parts : cs ≡ white ++ rest
  pub scalar : scalars rest ≡ true

pub white_front : (cs : List ℕ) → scalars cs ≡ true → WhiteFront cs (skip_leading_whitespace cs)
white_front [] h = record { white = []; are = All-nil IsWhite; parts = refl; scalar = refl }
white_front (c ∷ cs) h = from (is_whitespace c) refl (white_front cs (and_parts (scalar c) (scalars cs) h).1)
  where
    from : (v : Bool) → is_whitespace c ≡ v → WhiteFront cs (skip_leading_whitespace cs) → WhiteFront (c ∷ cs) (cond v (skip_leading_whitespace cs) (c ∷ cs))
    from true e on = record {
      white = c ∷ on.white;
      are = All-cons IsWhite c on.white ((and_parts (scalar c) (scalars cs) h).0, e) on.are;
      parts = ap (λ (x : List ℕ). c ∷ x) on.parts;
      scalar = on.scalar;
    }
    from false e on = record { white = []; are = All-nil IsWhite; parts = refl; scalar = h }

-- and at the end
record WhiteBack (cs rest : List ℕ) : Type 0 where
  white : List ℕ
  are : All IsWhite white
  parts : cs ≡ rest ++ white

empty_is : (t : List ℕ) → eqb (length t) 0 ≡ true → t ≡ []
empty_is [] e = refl
empty_is (b ∷ t) e = absurd (let n : length (b ∷ t) ≡ 0 = eqb-true (length (b ∷ t)) 0 e in omega arith)

white_back : (cs : List ℕ) → scalars cs ≡ true → WhiteBack cs (drop_trailing_whitespace cs)
white_back [] h = record { white = []; are = All-nil IsWhite; parts = refl }
white_back (c ∷ cs) h = from (is_whitespace c) (eqb (length (drop_trailing_whitespace cs)) 0) refl refl (white_back cs (and_parts (scalar c) (scalars cs) h).1)
  where
    stays : WhiteBack cs (drop_trailing_whitespace cs) → WhiteBack (c ∷ cs) (c ∷ drop_trailing_whitespace cs)
    stays on = record { white = on.white; are = on.are; parts = ap (λ (x : List ℕ). c ∷ x) on.parts }

    from : (v w : Bool) → is_whitespace c ≡ v → eqb (length (drop_trailing_whitespace cs)) 0 ≡ w → WhiteBack cs (drop_trailing_whitespace cs)
        → WhiteBack (c ∷ cs) (cond (v && w) [] (c ∷ drop_trailing_whitespace cs))
    from true true e f on = record {
      white = c ∷ on.white;
      are = All-cons IsWhite c on.white ((and_parts (scalar c) (scalars cs) h).0, e) on.are;
      parts = ap (λ (x : List ℕ). c ∷ x) (on.parts ∙ ap (λ (x : List ℕ). x ++ on.white) (empty_is (drop_trailing_whitespace cs) f));
    }
    from true false e f on = stays on
    from false w e f on = stays on

pub trimmed_names : (p : BuildPlatform) (s : List ℕ) → IsUtf8 s → trim s ≡ platform_text p → Names s p
trimmed_names p s u e =
    let cs = u.0 in
    let f = white_front cs u.1.0 in
    let middle = skip_leading_whitespace cs in
    let b = white_back middle f.scalar in
    let trimmed : trim s ≡ encode_utf8_all (drop_trailing_whitespace middle) = ap trim (sym u.1.1) ∙ ap trim_end (start_trimmed cs u.1.0) ∙ end_trimmed middle f.scalar in
    let name : encode_utf8_all (drop_trailing_whitespace middle) ≡ platform_text p = sym trimmed ∙ e in
    let inner : encode_utf8_all middle ≡ platform_text p ++ encode_utf8_all b.white =
    ap encode_utf8_all b.parts ∙ encodes-append (drop_trailing_whitespace middle) b.white ∙ ap (λ (x : List ℕ). x ++ encode_utf8_all b.white) name
    in
    record {
      before = encode_utf8_all f.white;
      behind = encode_utf8_all b.white;
      white_before = (f.white, refl, f.are);
      white_behind = (b.white, refl, b.are);
      parts = sym u.1.1 ∙ ap encode_utf8_all f.parts ∙ encodes-append f.white middle ∙ ap (λ (x : List ℕ). encode_utf8_all f.white ++ x) inner;
    }

-- ---- the platform that a value names

platform_itself : (p : BuildPlatform) → platform_from (platform_text p) ≡ Some p
platform_itself Target = refl
platform_itself Host = refl

platform_is : (t : List ℕ) (p : BuildPlatform) → platform_from t ≡ Some p → t ≡ platform_text p
platform_is t p e = from (bytes_eq t (codes "host")) (bytes_eq t (codes "target")) refl refl e
  where
    from : (v w : Bool) → bytes_eq t (codes "host") ≡ v → bytes_eq t (codes "target") ≡ w → cond v (Some Host) (cond w (Some Target) None) ≡ Some p → t ≡ platform_text p
    from true w h i e = let same : Host ≡ p = cc in (bytes_eq-Decides t (codes "host")).0 h ∙ ap platform_text same
    from false true h i e = let same : Target ≡ p = cc in (bytes_eq-Decides t (codes "target")).0 i ∙ ap platform_text same
    from false false h i e = absurd cc

pub platform_again : (p : BuildPlatform) (s : List ℕ) → Names s p → platform_in s ≡ Some p
platform_again p s names =
    ap (λ (v : Bool). cond v (platform_from (trim s)) None) (is_utf8-from_IsUtf8 s (names_utf8 p s names)) ∙ ap platform_from (names_trimmed p s names) ∙ platform_itself p

pub platform_takes : (s : List ℕ) (p : BuildPlatform) → platform_in s ≡ Some p → Names s p
platform_takes s p e = from (is_utf8 s) refl e
  where
    from : (v : Bool) → is_utf8 s ≡ v → cond v (platform_from (trim s)) None ≡ Some p → Names s p
    from true h e = trimmed_names p s (IsUtf8-from_is_utf8 s h) (platform_is (trim s) p e)
    from false h e = absurd cc

-- what the code finds: the name that is left, or neither
pub platform_found : (p : BuildPlatform) (s r : List ℕ) → IsUtf8 s → r ≡ trim s → r ≡ platform_text p → Names s p
platform_found p s r u is e = trimmed_names p s u (sym is ∙ e)

pub no_platform : (s r : List ℕ) → r ≡ trim s → (r ≡ codes "host" → ⊥) → (r ≡ codes "target" → ⊥) → (p : BuildPlatform) → Names s p → ⊥
no_platform s r is no_host no_target Host names = no_host (is ∙ names_trimmed Host s names)
no_platform s r is no_host no_target Target names = no_target (is ∙ names_trimmed Target s names)

pub none_in : (s : List ℕ) → ((p : BuildPlatform) → Names s p → ⊥) → None ≡ platform_in s
none_in s none = from (platform_in s) refl
  where
    from : (o : Option BuildPlatform) → platform_in s ≡ o → None ≡ o
    from None e = refl
    from (Some p) e = absurd (none p (platform_takes s p e))
