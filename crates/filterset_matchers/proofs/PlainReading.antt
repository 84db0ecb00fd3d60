-- A plain pattern is read as the text that it stands for. The text inside of a pattern is read as `regex_syntax` proves it
-- of escaped texts (`EscapeLemmas`); here a character may be escaped or not.
use Rattle.std.proofs.Common.{ℕ, ◌≤◌, ◌<◌, ◌⊎◌, ◌≡◌, ◌+◌, ◌-◌, ◌*◌, ◌==◌, ◌&&◌, ◌∷◌, ◌++◌, [], Bool, true, false, not, List, Option, Some, None, IsSomeAnd, map, option_map, length, nat_lt, chars, encode_utf8, IsUtf8, if◌then◌else◌, refl, sym, ap, ◌∙◌, subst, ⊎_elim, arith, ne_eqb, true≢false, append-nil, append_assoc, zero-add}
use Rattle.std.proofs.lemmas.Bool.{cases_Bool, cond-false, and_left, and_right, cond_both, and_parts, and_from}
use Rattle.std.proofs.lemmas.{Bool.Decides.nat_tests, Option.same_Some as some_same, Str.scalars-chars}
use Rattle.std.specs.Char.{is_digit, is_ascii, is_ascii_alphanumeric}
use lib.Utf8.{scalars, encodes}
use Rattle.regex_hir.specs.{Meaning.cat_all, Meaning.alt_all, Re.Re, Re.literal}
use Rattle.regex_syntax.proofs.BranchLemmas.{ends_branch, Read, repetitions_end, join_after, branch_ends, branch_goes, more_parts, group_inside, join_parts_is, branches_go, more_branches, join_ends}
use Rattle.regex_syntax.proofs.{EscapeLemmas.itself, EscapeLemmas.literals, LikenessLaws.alike_of_same}
use Rattle.regex_syntax.proofs.{ReadingLemmas.skip-false, TreeLaws.◌then◌, TreeLaws.alt-fail}
use Rattle.regex_syntax.specs.{Brackets.Nested, Brackets.join, Brackets.deepest, Captures.SameCaptures}
use Rattle.regex_syntax.specs.Escapes.{is_verbose, escape, character, one_letter}
use Rattle.regex_syntax.specs.Grammar.{Names, Place, atom, piece_meaning, char_meaning, item, with_repetitions, items, read, names_below, join_parts, branches, group_count, has_group}
use Rattle.regex_syntax.specs.Reading.{Text, is_at, first, skip, ◌>>=◌}
use Rattle.regex_syntax.specs.{Sets.verbatim, Verdict.ReadsAsText, declared.Config.Config}
use Rattle.filterset_matchers.specs.Pattern.{has_meaning, is_escapable, plain_from}

-- ---- a plain pattern, piece by piece

-- a character, and whether a backslash stands before it
abbrev Piece : Type 0
Piece = Bool × ℕ

abbrev spelled : Piece → Text
spelled (escaped, c) = if escaped then 0x5C ∷ c ∷ [] else c ∷ []

abbrev written : List Piece → Text
written [] = []
written (p ∷ ps) = spelled p ++ written ps

abbrev meant : List Piece → Text
meant [] = []
meant ((escaped, c) ∷ ps) = c ∷ meant ps

abbrev IsFit : Piece → Type 0
IsFit (escaped, c) = (if escaped then is_escapable c else not (has_meaning c)) ≡ true

abbrev AreFit : List Piece → Type 0
AreFit [] = Unit {0}
AreFit (p ∷ ps) = IsFit p × AreFit ps

-- the pieces of a plain pattern, behind a backslash or not
record Pieces (escaped : Bool) (cs text : Text) : Type 0 where
  pub pieces : List Piece
  pub fit : AreFit pieces
  pub are : (if escaped then 0x5C ∷ cs else cs) ≡ written pieces
  pub mean : text ≡ meant pieces

-- what an option that is mapped comes from
mapped : {A B : Type 0} (f : A → B) (o : Option A) (b : B) → option_map f o ≡ Some b → (a : A) × (o ≡ Some a) × (f a ≡ b)
mapped f None b e = absurd cc
mapped f (Some a) b e = (a, refl, some_same (f a) b e)

pieces_of : (cs : Text) (escaped : Bool) (text : Text) → plain_from escaped cs ≡ Some text → Pieces escaped cs text
pieces_of [] true text e = absurd cc
pieces_of [] false text e = record { pieces = []; fit = tt; are = refl; mean = sym (some_same [] text e) }
pieces_of (c ∷ cs) true text e =
    ⊎_elim
    (λ (fits : is_escapable c ≡ true).
    let (rest, read, same) = mapped (λ (t : Text). c ∷ t) (plain_from false cs) text (rw fits at e) in
    let others = pieces_of cs false rest read in record {
      pieces = (true, c) ∷ others.pieces;
      fit = (fits, others.fit);
      are = ap (λ (t : Text). 0x5C ∷ c ∷ t) others.are;
      mean = sym same ∙ ap (λ (t : Text). c ∷ t) others.mean;
    })
    (λ (not_fit : is_escapable c ≡ false). absurd (let nothing = rw not_fit at e in cc))
    (cases_Bool (is_escapable c))
pieces_of (c ∷ cs) false text e =
    ⊎_elim
    (λ (slash : (c == 0x5C) ≡ true).
    let others = pieces_of cs true text (rw slash at e) in record {
      pieces = others.pieces;
      fit = others.fit;
      are = ap (λ d. d ∷ cs) (is_slash slash) ∙ others.are;
      mean = others.mean;
    })
    (λ (no_slash : (c == 0x5C) ≡ false).
    ⊎_elim
    (λ (special : has_meaning c ≡ true). absurd (let nothing = rw (special, no_slash) at e in cc))
    (λ (plain : has_meaning c ≡ false).
    let (rest, read, same) = mapped (λ (t : Text). c ∷ t) (plain_from false cs) text (rw (plain, no_slash) at e) in
    let others = pieces_of cs false rest read in record {
      pieces = (false, c) ∷ others.pieces;
      fit = (ap not plain, others.fit);
      are = ap (λ (t : Text). c ∷ t) others.are;
      mean = sym same ∙ ap (λ (t : Text). c ∷ t) others.mean;
    })
    (cases_Bool (has_meaning c)))
    (cases_Bool (c == 0x5C))
  where
    is_slash : (c == 0x5C) ≡ true → c ≡ 0x5C
    is_slash h = grind (arith, nat_tests)

-- ---- the characters

abbrev IsEscapable : ℕ → Type 0
IsEscapable c =
    ((33 ≤ c) × (c ≤ 47)) ⊎ (((58 ≤ c) × (c ≤ 59)) ⊎ ((c ≡ 61) ⊎ (((63 ≤ c) × (c ≤ 64)) ⊎ (((91 ≤ c) × (c ≤ 96)) ⊎ ((123 ≤ c) × (c ≤ 126))))))

escapable_range : (c : ℕ) → is_escapable c ≡ true → IsEscapable c
escapable_range c h = grind (arith, nat_tests)

differs : (c d : ℕ) → not (has_meaning c) ≡ true → has_meaning d ≡ true → (c == d) ≡ false
differs c d plain special = ne_eqb c d (λ e. absurd (true≢false (sym plain ∙ ap (λ n. not (has_meaning n)) e ∙ ap not special)))

no_operator : (ps : List Piece) (rest : Text) → AreFit ps → is_at "?*+{" rest ≡ false → is_at "?*+{" (written ps ++ rest) ≡ false
unfolding first
no_operator [] rest fit h = h
no_operator ((true, c) ∷ ps) rest fit h = refl
no_operator ((false, c) ∷ ps) rest fit h =
    rw (differs c 63 fit.0 refl, differs c 42 fit.0 refl, differs c 43 fit.0 refl, differs c 123 fit.0 refl)

module _ (config : Config) (names : Names) (exact : config.flags.case_insensitive ≡ false)
    (dense : config.flags.ignore_whitespace ≡ false) where
  abbrev at_text : Text → Place
  at_text t = record { config = config; names = names; text = t }

  no_skip : (t : Text) → t ≡ skip (is_verbose config) t
  no_skip t = sym (ap (λ v. skip v t) dense ∙ skip-false t)

  verbatim_itself : (c : ℕ) → verbatim config c false ≡ Some (literal (encode_utf8 c))
  unfolding verbatim
  verbatim_itself c = cond-false _ _ _ (and_left _ _ exact)

  escape_itself : (c : ℕ) (rest : Text) → IsEscapable c → escape config (c ∷ rest) ≡ Some (character c false, rest)
  unfolding escape one_letter first
  escape_itself c rest h =
      let no_digit : is_digit c 8 ≡ false = grind (arith, nat_tests) in
      let punctuation : (is_ascii c && not (is_ascii_alphanumeric c)) ≡ true = grind (arith, nat_tests) in
      rw (
        escape,
        and_right config.octal _ no_digit,
        one_letter,
        punctuation,
        ne_eqb c 120 (omega arith),
        ne_eqb c 117 (omega arith),
        ne_eqb c 85 (omega arith),
        ne_eqb c 112 (omega arith),
        ne_eqb c 80 (omega arith),
        ne_eqb c 98 (omega arith),
        ne_eqb c 100 (omega arith),
        ne_eqb c 68 (omega arith),
        ne_eqb c 115 (omega arith),
        ne_eqb c 83 (omega arith),
        ne_eqb c 119 (omega arith),
        ne_eqb c 87 (omega arith),
        ne_eqb c 65 (omega arith),
        ne_eqb c 122 (omega arith),
        ne_eqb c 66 (omega arith),
        ne_eqb c 60 (omega arith),
        ne_eqb c 62 (omega arith),
        ne_eqb c 97 (omega arith),
        ne_eqb c 102 (omega arith),
        ne_eqb c 116 (omega arith),
        ne_eqb c 110 (omega arith),
        ne_eqb c 114 (omega arith),
        ne_eqb c 118 (omega arith),
      )

  atom_itself : (p : Piece) (rest : Text) → IsFit p → atom config (spelled p ++ rest) ≡ Some (itself p.1, rest)
  unfolding atom first piece_meaning char_meaning
  atom_itself (true, c) rest fit = rw (atom, escape_itself c rest (escapable_range c fit), piece_meaning, verbatim_itself)
  atom_itself (false, c) rest fit =
      rw (
        atom,
        char_meaning,
        differs c 63 fit refl,
        differs c 42 fit refl,
        differs c 43 fit refl,
        differs c 123 fit refl,
        differs c 91 fit refl,
        differs c 92 fit refl,
        differs c 46 fit refl,
        differs c 94 fit refl,
        differs c 36 fit refl,
        verbatim_itself,
      )

  begins_no_group : (p : Piece) (rest : Text) → IsFit p → (is_at "(" (spelled p ++ rest) ≡ false) × (ends_branch (spelled p ++ rest) ≡ false)
  unfolding first
  begins_no_group (true, c) rest fit = (refl, grind (arith, nat_tests))
  begins_no_group (false, c) rest fit =
      (differs c 40 fit refl, rw (differs c 124 fit refl, differs c 41 fit refl) (grind (arith, nat_tests)))

  -- an atom that no operator of repetition follows is an item
  item_of_atom : (inner : Place → Read (Nested Re)) (t rest : Text) (part : Nested Re) → is_at "(" t ≡ false →
      atom config t ≡ Some (part, rest) → is_at "?*+{" rest ≡ false → item inner (at_text t) ≡ Some (part, at_text rest)
  unfolding item with_repetitions
  item_of_atom inner t rest part no_group read_atom h =
      rw (
        item,
        no_group,
        read_atom,
        with_repetitions,
        repetitions_end config (length rest + 1) (length rest) part rest rest (omega arith) (no_skip rest) h,
      )

  -- and the branch goes on after it
  branch_passes : (n m : ℕ) (earlier : List (Nested Re)) (t rest : Text) (part : Nested Re) → n ≡ m + 1 →
      (is_at "(" t ≡ false) × (ends_branch t ≡ false) → atom config t ≡ Some (part, rest) → is_at "?*+{" rest ≡ false →
      join_after cat_all earlier (items n (at_text t)) ≡ join_after cat_all (earlier ++ part ∷ []) (items m (at_text rest))
  branch_passes n m earlier t rest part e begins read_atom h =
      branch_goes n m earlier (at_text t) t (omega arith) (no_skip t) begins.1
      ∙ ap (λ o. o >>= more_parts m earlier) (item_of_atom (group_inside m) t rest part begins.0 read_atom h)

  -- the pieces inside a branch are read as their characters, if no operator of repetition follows them
  items_written : (ps : List Piece) (rest : Text) (n m : ℕ) (earlier : List (Nested Re)) → AreFit ps → n ≡ length ps + m → is_at "?*+{" rest ≡ false →
      join_after cat_all earlier (items n (at_text (written ps ++ rest)))
      ≡ join_after cat_all (earlier ++ map itself (meant ps)) (items m (at_text rest))
  items_written [] rest n m earlier fit e h = rw (append-nil, e ∙ zero-add m)
  items_written (p ∷ ps) rest n m earlier fit e h =
      let more = written ps ++ rest in
      ap (λ t. join_after cat_all earlier (items n (at_text t))) (append_assoc (spelled p) (written ps) rest)
      ∙ branch_passes n (n - 1) earlier _ more (itself p.1) (omega arith) (begins_no_group p more fit.0) (atom_itself p more fit.0) (no_operator ps rest fit.1 h)
      ∙ items_written ps rest (n - 1) m (earlier ++ itself p.1 ∷ []) fit.1 (omega arith) h
      ∙ ap (λ all. join_after cat_all all (items m (at_text rest))) (append_assoc earlier (itself p.1 ∷ []) (map itself (meant ps)))

  -- a pattern of one branch
  read_branch : (t : Text) (branch : Nested Re) → join_after cat_all [] (items (2 * length t + 1) (at_text t)) ≡ Some (branch, at_text []) →
      join_parts alt_all (branches (2 * length t + 2) (at_text t)) ≡ Some (join alt_all (branch ∷ []), at_text [])
  unfolding first
  read_branch t branch h =
      join_parts_is alt_all _ ∙ branches_go _ (2 * length t + 1) [] _ (omega arith)
      ∙ ap (λ o. o >>= more_branches (2 * length t + 1) []) (join_parts_is cat_all _ ∙ h) ∙ join_ends alt_all (branch ∷ []) _

  branch_itself : (ps : List Piece) (n : ℕ) → AreFit ps → length ps < n →
      join_after cat_all [] (items n (at_text (written ps))) ≡ Some (join cat_all (map itself (meant ps)), at_text [])
  unfolding first
  branch_itself ps n fit h =
      ap (λ t. join_after cat_all [] (items n (at_text t))) (sym (append-nil (written ps)))
      ∙ items_written ps [] n (n - length ps) [] fit (omega arith) refl
      ∙ branch_ends (n - length ps) (n - length ps - 1) (map itself (meant ps)) (at_text []) [] (omega arith) (no_skip []) refl

written_is_longer : (ps : List Piece) → length ps ≤ length (written ps)
written_is_longer [] = omega arith
written_is_longer ((true, c) ∷ ps) = omega (arith, written_is_longer ps)
written_is_longer ((false, c) ∷ ps) = omega (arith, written_is_longer ps)

flat_depth : (cs : Text) → deepest (map itself cs) ≡ 0
flat_depth [] = refl
flat_depth (c ∷ cs) = omega (arith, flat_depth cs)

-- what the pieces stand for is a text where they are
pub scalars_meant : (ps : List Piece) → scalars (written ps) ≡ true → scalars (meant ps) ≡ true
scalars_meant [] h = refl
scalars_meant ((true, c) ∷ ps) h =
    let own = and_parts _ _ h in and_from _ _ own.0 (scalars_meant ps own.1)
scalars_meant ((false, c) ∷ ps) h =
    let own = and_parts _ _ h in and_from _ _ own.0 (scalars_meant ps own.1)

-- ---- the pattern

-- what is read is the text of these characters, without a group
abbrev ReadsSo : Config → Text → Text → Type 0
ReadsSo config t cs = IsSomeAnd (read config t) (λ (re, names). (re.depth ≤ 1) × SameCaptures re.value (literal (encodes cs)) × (names ≡ None ∷ []))

pieces_read : (ps : List Piece) → AreFit ps → (config : Config) → config.flags.case_insensitive ≡ false → config.flags.ignore_whitespace ≡ false →
    ReadsSo config (written ps) (meant ps)
unfolding read first names_below
pieces_read ps fit config exact dense =
    let t = written ps in
    let names : Names = None ∷ [] in
    let branch = join cat_all (map itself (meant ps)) in
    let read_all = read_branch config names exact dense t branch
    (branch_itself config names exact dense ps _ fit (omega (arith, written_is_longer ps))) in
    let level : (if nat_lt 1 (length (map itself (meant ps))) then 1 else 0) ≤ 1 =
    cond_both (nat_lt 1 (length (map itself (meant ps)))) 1 0 (λ n. n ≤ 1) (λ _. omega arith) (λ _. omega arith) in
    let same = alt-fail _ then literals (meant ps) in
    let count : group_count (join alt_all (branch ∷ [])).value ≡ 0 = same.groups.count in
    let no_group : has_group (join alt_all (branch ∷ [])).value 0 ≡ false = same.groups.has 0 in
    rw (read, read_all)
    (omega (arith, flat_depth (meant ps)), (alike_of_same same).captures, rw (count, names_below, no_group))

module _ (pattern cs : List ℕ) (utf8 : IsUtf8 pattern) (plain : plain_from false (chars pattern) ≡ Some cs) where
  own : Pieces false (chars pattern) cs
  own = pieces_of (chars pattern) false cs plain

  -- what a plain pattern stands for is a text
  pub IsUtf8-meant : IsUtf8 (encodes cs)
  IsUtf8-meant =
      let whole : scalars (written own.pieces) ≡ true = ap scalars (sym own.are) ∙ scalars-chars pattern utf8 in
      (cs, (ap scalars own.mean ∙ scalars_meant own.pieces whole, refl))

  pub plain_reads : ReadsAsText pattern (encodes cs)
  unfolding ReadsAsText
  plain_reads config exact dense =
      subst (λ (t : Text). ReadsSo config t cs) (sym own.are)
      (subst (λ (m : Text). ReadsSo config (written own.pieces) m) (sym own.mean) (pieces_read own.pieces own.fit config exact dense))
