-- Steps over texts, by which tokens are added to others.
use Rattle.std.proofs.Common.{◌≡◌, ℕ, ◌+◌, ◌<◌, ◌≤◌, ◌∙◌, ap, Bool, true, false, cond, List, [], ◌∷◌, ◌++◌, add_assoc, add-zero, append_assoc, arith, drop, get_or, length, map, refl, subst, sym, take}
use Rattle.std.proofs.lemmas.Bool.Decides.{nat_tests}
use Rattle.std.proofs.lemmas.List.{append-nil, drop-drop, drop-map, drop_all, drop_more, Folds.length-prefix_len}
use Rattle.std.specs.Prelude.{MatchOption, None, Option, Some, filter}
use Rattle.std.specs.List.{prefix_len, take_while}
use Rattle.filterset_faults.specs.declared.span.SourceSpan.{SourceSpan}
use Rattle.filterset_grammar.specs.{Text.is_word_byte, Tree.Leaf}
use Rattle.filterset_rewriting.specs.Tokens.{Advances, AdvancesTo, AreTokensFrom, PlainTokens, argument_of, argument_tokens, gap_len, is_sign, nothing, other, own_len, sign, token, word, word_kind}
use Rattle.filterset_rewriting.specs.declared.tokens.{arguments.Argument.Argument, Token.Token}
use Rattle.filterset_graph.specs.Packages.{Text}
use Rattle.filterset_rewriting.specs.declared.tokens.TokenKind.TheVariants as kinds

-- ---- texts without arguments

pub over_word : (at : ℕ) (text : Text) (len : ℕ) (old : List Token) → len ≡ length (take_while is_word_byte text) → 0 < len
    → Advances at text len old (old ++ token at len (word_kind (take len text)) ∷ [])
over_word at text len old is some more are =
    let first : Token = token at len (word_kind (take len text)) in
    (first ∷ more, word is some are, sym (append_assoc old (first ∷ []) more))

is_false : (w : Bool) (n : ℕ) → cond w (1 + n) 0 ≡ 0 → w ≡ false
is_false w n is = grind (arith, nat_tests)

no_word : (b : ℕ) (rest : Text) → length (take_while is_word_byte (b ∷ rest)) ≡ 0 → is_word_byte b ≡ false
no_word b rest none =
    is_false (is_word_byte b) (prefix_len is_word_byte rest) (sym (length-prefix_len is_word_byte (b ∷ rest)) ∙ none)

pub over_sign : (at : ℕ) (text : Text) (old : List Token) → 0 < length text → length (take_while is_word_byte text) ≡ 0
    → is_sign (get_or text 0 0) ≡ true → Advances at text 1 old (old ++ token at 1 kinds.Operator ∷ [])
over_sign at [] old some none is more are = absurd (omega arith)
over_sign at (b ∷ rest) old some none is more are =
    let first : Token = token at 1 kinds.Operator in
    (first ∷ more, sign (no_word b rest none) is are, sym (append_assoc old (first ∷ []) more))

pub over_other : (at : ℕ) (text : Text) (old : List Token) → 0 < length text → length (take_while is_word_byte text) ≡ 0
    → is_sign (get_or text 0 0) ≡ false → Advances at text 1 old old
over_other at [] old some none is more are = absurd (omega arith)
over_other at (b ∷ rest) old some none is more are = (more, other (no_word b rest none) is are, refl)

-- nothing is passed yet
pub at_start : (offset : ℕ) (text : Text) (old : List Token) → Advances offset text 0 old old
at_start offset text old more are =
    let From : ℕ → Type 0 = λ at. PlainTokens at text more in (more, subst From (add-zero offset) are, refl)

-- a further step
pub one_more : (offset at len : ℕ) (text : Text) (old mid new : List Token) → Advances offset text at old mid
    → Advances (offset + at) (drop at text) len mid new → Advances offset text (at + len) old new
one_more offset at len text old mid new first second more are =
    let From : ℕ → Type 0 = λ n. PlainTokens n (drop (at + len) text) more in
    let Of : Text → Type 0 = λ t. PlainTokens (offset + at + len) t more in
    let here = subst Of (sym (drop-drop len at text)) (subst From (sym (add_assoc offset at len)) are) in
    let (most, are_most, joined) = second more here in
    let (all, are_all, is) = first most are_most in (all, are_all, is ∙ joined)

-- all is passed
pub at_end : (offset at : ℕ) (text : Text) (old new : List Token) → length text ≤ at → Advances offset text at old new
    → (added : List Token) × PlainTokens offset text added × (new ≡ old ++ added)
at_end offset at text old new ended advances =
    let Of : Text → Type 0 = λ t. PlainTokens (offset + at) t [] in
    let (all, are_all, is) = advances [] (subst Of (sym (drop_all at text ended)) nothing) in
    (all, are_all, sym (is ∙ append-nil new))

-- ---- predicates

abbrev pub Leaves : Type 0
Leaves = List (Leaf SourceSpan)

pub first_of : (text : Text) (leaves : Leaves) → AdvancesTo text leaves 0 leaves []
first_of text leaves more are = are

-- a predicate without an argument
pub over_none : (text : Text) (leaves rest : Leaves) (leaf : Leaf SourceSpan) (at : ℕ) (tokens : List Token)
    → argument_of leaf ≡ None → AdvancesTo text leaves at (leaf ∷ rest) tokens → AdvancesTo text leaves at rest tokens
over_none text leaves rest leaf at tokens is advances more are =
    let From : Option Argument → Type 0 = λ o. MatchOption o (AreTokensFrom at (drop at text) rest more)
    (λ argument.
    let gap = gap_len at (drop at text) argument in
    let own = own_len at (drop at text) argument in
    (before behind : List Token) × PlainTokens at (take gap (drop at text)) before
    × AreTokensFrom (at + (gap + own)) (drop (gap + own) (drop at text)) rest behind
    × (more ≡ before ++ (argument_tokens argument.form (at + gap) (take own (drop gap (drop at text))) ++ behind))) in
    advances more (subst From (sym is) are)

-- a predicate with an argument, which ends at another offset
pub over_argument : (text : Text) (leaves rest : Leaves) (leaf : Leaf SourceSpan) (argument : Argument) (at taken : ℕ)
    (tokens new before : List Token) (here : Text) → here ≡ drop at text → argument_of leaf ≡ Some argument
    → taken ≡ gap_len at here argument + own_len at here argument
    → PlainTokens at (take (gap_len at here argument) here) before
    → new ≡ tokens ++ (before ++ argument_tokens argument.form (at + gap_len at here argument)
    (take (own_len at here argument) (drop (gap_len at here argument) here)))
    → AdvancesTo text leaves at (leaf ∷ rest) tokens → AdvancesTo text leaves (at + taken) rest new
over_argument text leaves rest leaf argument at taken tokens new before here there is sum plain made advances more are =
    let gap : ℕ = gap_len at here argument in
    let own : ℕ = own_len at here argument in
    let mine : List Token = argument_tokens argument.form (at + gap) (take own (drop gap here)) in
    let all : List Token = before ++ (mine ++ more) in
    let From : Option Argument → Type 0 = λ o. MatchOption o (AreTokensFrom at here rest all)
    (λ argument.
    let gap = gap_len at here argument in
    let own = own_len at here argument in
    (before behind : List Token) × PlainTokens at (take gap here) before
    × AreTokensFrom (at + (gap + own)) (drop (gap + own) here) rest behind
    × (all ≡ before ++ (argument_tokens argument.form (at + gap) (take own (drop gap here)) ++ behind))) in
    let Of : Text → Type 0 = λ t. AreTokensFrom (at + taken) t rest more in
    let Behind : Text → Type 0 = λ t. AreTokensFrom (at + taken) (drop taken t) rest more in
    let By : ℕ → Type 0 = λ n. AreTokensFrom (at + n) (drop n here) rest more in
    let Whole : Text → Type 0 = λ t. AreTokensFrom at t (leaf ∷ rest) all in
    let behind : AreTokensFrom (at + (gap + own)) (drop (gap + own) here) rest more =
    subst By sum (subst Behind (sym there) (subst Of (sym (drop-drop taken at text)) are)) in
    let reached : AreTokensFrom 0 text leaves (tokens ++ all) =
    advances all (subst Whole there (subst From (sym is) (before, more, plain, behind, refl))) in
    let joined : tokens ++ all ≡ new ++ more = rw (made, append_assoc, append_assoc) refl in
    let Is : List Token → Type 0 = λ ts. AreTokensFrom 0 text leaves ts in
    subst Is joined reached

-- the predicates that are left begin with the one at a position
pub next_leaf : {A : Type 0} (f : A → Leaf SourceSpan) (xs : List A) (i : ℕ) (x : A) → i < length xs → get_or xs i x ≡ x
    → drop i (map f xs) ≡ f x ∷ drop (i + 1) (map f xs)
next_leaf f xs i x within at =
    drop-map f i xs ∙ ap (map f) (drop_more xs i x within ∙ ap (λ y. y ∷ drop (i + 1) xs) at)
    ∙ ap (λ ys. f x ∷ ys) (sym (drop-map f (i + 1) xs))

-- all elements pass
pub filter_all : {A : Type 0} (xs : List A) → filter (λ _. true) xs ≡ xs
filter_all [] = refl
filter_all (x ∷ xs) = ap (λ ys. x ∷ ys) (filter_all xs)
