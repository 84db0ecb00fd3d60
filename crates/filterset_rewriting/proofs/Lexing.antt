-- What a text begins with is found.
use Rattle.std.proofs.Common.{◌≡◌, ℕ, ◌+◌, ◌<◌, ◌∙◌, Bool, true, false, cond, eqb, List, [], ◌∷◌, ◌++◌, None, Some, add-zero, ap, append_assoc, arith, drop, get_or, length, refl, subst, sym, take}
use Rattle.std.specs.{Prelude.IsTrue, Prelude.◌||◌, List.prefix_len, List.take_while}
use Rattle.std.proofs.lemmas.Bool.{eq-eqb, ne_eqb, Decides.nat_tests}
use Rattle.std.proofs.lemmas.List.{append-nil, drop_at, take_at, Folds.length-prefix_len, Folds.prefix_len-append}
use Rattle.filterset_faults.specs.declared.span.SourceSpan.{SourceSpan}
use Rattle.filterset_grammar.specs.Grammar as grammar
use Rattle.filterset_grammar.specs.Grammar.{BehindMatcher, Call, LeafText, MatcherText, Matches, Name, implicit, matching_sign, own_matching, regex, signed}
use Rattle.filterset_grammar.specs.Text.{Blanks, Spelled, ends_word, is_between, newline, no_blank, plain, return_newline, space}
use Rattle.filterset_grammar.specs.Tree.{Leaf}
use Rattle.filterset_grammar.specs.declared.predicate.{Predicate.Predicate, TextMatching.TextMatching}
use Rattle.filterset_grammar.specs.declared.predicate.Predicate.TheVariants as predicates
use Rattle.filterset_grammar.specs.declared.predicate.TextMatching.TheVariants as ways
use Rattle.filterset_language.proofs.SpelledLeavesAreRead.{byte_stop, call_text}
use Rattle.filterset_language.specs.Parsing.Front.{blank_len}
use Rattle.filterset_matchers.specs.Matcher.{Matcher}
use Rattle.filterset_rewriting.proofs.ArgumentLemmas.{plain_no_slash, plain_stop}
use Rattle.filterset_rewriting.specs.Nesting.Arguments.{IsArgument, IsMatcher, argument_of}
use Rattle.filterset_rewriting.specs.Nesting.Tokens.{Begins, IsPredicateAfter, is_letter, sign_token, word_token}
use Rattle.filterset_rewriting.specs.declared.nesting.{arguments.ArgumentKind.ArgumentKind, tokens.Lexeme.Lexeme}
use Rattle.filterset_rewriting.specs.Nesting.Arguments as arguments
use Rattle.filterset_rewriting.specs.Nesting.Tokens as tokens
use Rattle.filterset_rewriting.specs.declared.nesting.arguments.ArgumentKind.TheVariants as kinds
use Rattle.filterset_rewriting.specs.declared.nesting.tokens.Lexeme.TheVariants as shown

-- ---- words

-- where a word ends, no letter is
word_stop : (t : List ℕ) → ends_word t ≡ true → prefix_len is_letter t ≡ 0
word_stop [] is = refl
word_stop (b ∷ t) is = by_tests (is_between b "0" "9" || is_between b "A" "Z") (eqb b 95) (is_between b "a" "z") (prefix_len is_letter t) is
  where
    by_tests : (p q r : Bool) (n : ℕ) → cond (p || (q || r)) false true ≡ true → cond (r || q) (1 + n) 0 ≡ 0
    by_tests p q r n is = grind (arith, nat_tests)

blanks_stop : {blanks : List ℕ} → Blanks blanks → (t : List ℕ) → prefix_len is_letter (blanks ++ 40 ∷ t) ≡ 0
blanks_stop no_blank t = refl
blanks_stop (space more) t = refl
blanks_stop (newline more) t = refl
blanks_stop (return_newline more) t = refl

-- a word in front of what is none
pub word_front : (text own t : List ℕ) → text ≡ own ++ t → prefix_len is_letter own ≡ length own → prefix_len is_letter t ≡ 0
    → length (take_while is_letter text) ≡ length own
word_front text own t whole letters stop =
    ap (λ (x : List ℕ). length (take_while is_letter x)) whole ∙ length-prefix_len is_letter (own ++ t) ∙ prefix_len-append is_letter own t
    ∙ (let same : eqb (prefix_len is_letter own) (length own) ≡ true = eq-eqb _ _ letters in rw (same, stop) (add-zero (length own)))

-- ---- names

record IsName (name : List ℕ) (argument : ArgumentKind) : Type 0 where
  letters : prefix_len is_letter name ≡ length name
  no_operator : word_token name ≡ None
  named : argument_of name ≡ Some argument

name_of : (p : Predicate) → IsName (Name p) kinds.Matcher
name_of predicates.Package = record { letters = refl; no_operator = refl; named = refl }
name_of predicates.Deps = record { letters = refl; no_operator = refl; named = refl }
name_of predicates.Rdeps = record { letters = refl; no_operator = refl; named = refl }
name_of predicates.Kind = record { letters = refl; no_operator = refl; named = refl }
name_of predicates.Binary = record { letters = refl; no_operator = refl; named = refl }
name_of predicates.BinaryId = record { letters = refl; no_operator = refl; named = refl }
name_of predicates.Test = record { letters = refl; no_operator = refl; named = refl }
name_of predicates.Group = record { letters = refl; no_operator = refl; named = refl }

-- ---- arguments

sign_stop : (how : TextMatching) (u : List ℕ) → blank_len (matching_sign how ∷ u) ≡ 0
sign_stop ways.Equal u = byte_stop 61 u refl refl
sign_stop ways.Contains u = byte_stop 126 u refl refl
sign_stop ways.Glob u = byte_stop 35 u refl refl

sign_no_slash : (how : TextMatching) (u v : List ℕ) → matching_sign how ∷ u ≡ 47 ∷ v → ⊥
sign_no_slash ways.Equal u v is = let e : 61 ≡ 47 = ap (λ (x : List ℕ). get_or x 0 0) is in omega (arith, e)
sign_no_slash ways.Contains u v is = let e : 126 ≡ 47 = ap (λ (x : List ℕ). get_or x 0 0) is in omega (arith, e)
sign_no_slash ways.Glob u v is = let e : 35 ≡ 47 = ap (λ (x : List ℕ). get_or x 0 0) is in omega (arith, e)

-- a sign stands for itself
sign_raw : (how : TextMatching) {raw value : List ℕ} → Spelled raw value → arguments.IsRaw (matching_sign how ∷ raw)
sign_raw ways.Equal is = (_, plain {b = 61} refl is)
sign_raw ways.Contains is = (_, plain {b = 126} refl is)
sign_raw ways.Glob is = (_, plain {b = 35} refl is)

alone : (how : TextMatching) (unsigned : Bool) (value : List ℕ) (m : Matcher) (behind : List ℕ) → Matches how value unsigned m → BehindMatcher m behind → behind ≡ []
alone ways.Equal unsigned value m behind is h = subst (λ (x : Matcher). BehindMatcher x behind) is h
alone ways.Contains unsigned value m behind is h = subst (λ (x : Matcher). BehindMatcher x behind) is h
alone ways.Glob unsigned value m behind is h = subst (λ (x : Matcher). BehindMatcher x behind) is.2 h

without : (before raw behind : List ℕ) → behind ≡ [] → before ++ (raw ++ behind) ≡ before ++ raw
without before raw behind none = ap (λ (x : List ℕ). before ++ (raw ++ x)) none ∙ ap (λ (x : List ℕ). before ++ x) (append-nil raw)

matcher_argument : {p : Predicate} {raw : List ℕ} {m : Matcher} → MatcherText p raw m → (before behind : List ℕ) → Blanks before → BehindMatcher m behind
    → IsMatcher (before ++ (raw ++ behind))
matcher_argument (regex {p} {t = own} {pattern} body is whole) before behind are last =
    arguments.regex before body behind are (pattern, is) last
    (ap (λ (x : List ℕ). before ++ (x ++ behind)) whole ∙ ap (λ (x : List ℕ). before ++ 47 ∷ x) (append_assoc body (47 ∷ []) behind))
matcher_argument (signed {p} {raw} {m} how value spelled some is) before behind are last =
    arguments.raw before (matching_sign how ∷ raw) are (sign_raw how spelled) (λ t. sign_stop how (raw ++ 41 ∷ t)) (λ t u. sign_no_slash how (raw ++ 41 ∷ t) u)
    (without before (matching_sign how ∷ raw) behind (alone how false value m behind is last))
matcher_argument (implicit {p} {raw} {m} value spelled some begins is) before behind are last =
    arguments.raw before raw are (value, spelled) (λ t. plain_stop raw t some begins) (λ t u. plain_no_slash raw t u some begins)
    (without before raw behind (alone (own_matching p) true value m behind is last))

-- ---- predicates

-- a predicate is a name, and what goes on with its argument
pub record IsSplit (text t : List ℕ) : Type 0 where
  pub name : List ℕ
  pub rest : List ℕ
  pub whole : text ≡ name ++ rest
  pub letters : prefix_len is_letter name ≡ length name
  pub stop : prefix_len is_letter rest ≡ 0
  pub no_operator : word_token name ≡ None
  pub after : IsPredicateAfter name rest t

split_call : {name argument own : List ℕ} {at inside : ℕ} (kind : ArgumentKind) (t : List ℕ) → IsName name kind → Call name argument own at inside → IsArgument kind argument
    → IsSplit (own ++ t) t
split_call {name} {argument} {own} kind t is call is_argument = record {
  name = name;
  rest = call.blanks ++ (40 ∷ (argument ++ 41 ∷ t));
  whole = call_text t call;
  letters = is.letters;
  stop = blanks_stop call.are_blanks (argument ++ 41 ∷ t);
  no_operator = is.no_operator;
  after = record {
    argument = kind;
    named = is.named;
    blanks = call.blanks;
    are_blanks = call.are_blanks;
    inside = argument;
    is_inside = is_argument;
    text = refl;
  };
}

split : {own : List ℕ} {at : ℕ} {leaf : Leaf SourceSpan} → LeafText own at leaf → (t : List ℕ) → IsSplit (own ++ t) t
split (grammar.matching {p} inside before raw behind call are matcher last is) t =
    split_call kinds.Matcher t (name_of p) call (matcher_argument matcher before behind are last)
split (grammar.platform inside raw value call spelled names is) t =
    split_call kinds.Raw t (record { letters = refl; no_operator = refl; named = refl }) call (value, spelled)
split (grammar.default inside white call is_white is) t =
    split_call kinds.Nothing t (record { letters = refl; no_operator = refl; named = refl }) call is_white
split (grammar.all inside white call is_white) t =
    split_call kinds.Nothing t (record { letters = refl; no_operator = refl; named = refl }) call is_white
split (grammar.none inside white call is_white) t =
    split_call kinds.Nothing t (record { letters = refl; no_operator = refl; named = refl }) call is_white

-- ---- tokens

-- what a word at the front of a text is
pub data IsWord : List ℕ → List ℕ → Lexeme → List ℕ → Type 0 where
  operator : {name rest t : List ℕ} {token : Lexeme} → word_token name ≡ Some token → rest ≡ t → IsWord name rest token t
  predicate : {name rest t : List ℕ} {token : Lexeme} → word_token name ≡ None → token ≡ shown.Predicate
      → IsPredicateAfter name rest t → IsWord name rest token t

-- a text that begins with a word
pub record IsWordy (text : List ℕ) (token : Lexeme) (t : List ℕ) : Type 0 where
  pub name : List ℕ
  pub rest : List ℕ
  pub whole : text ≡ name ++ rest
  pub letters : prefix_len is_letter name ≡ length name
  pub front : length (take_while is_letter text) ≡ length name
  pub is_word : IsWord name rest token t

wordy_operator : (text own t : List ℕ) (token : Lexeme) → word_token own ≡ Some token → prefix_len is_letter own ≡ length own → IsTrue (ends_word t)
    → text ≡ own ++ t → IsWordy text token t
wordy_operator text own t token is letters ends whole = record {
  name = own;
  rest = t;
  whole = whole;
  letters = letters;
  front = word_front text own t whole letters (word_stop t ends);
  is_word = operator is refl;
}

wordy_predicate : (text own t : List ℕ) → text ≡ own ++ t → IsSplit (own ++ t) t → IsWordy text shown.Predicate t
wordy_predicate text own t whole s = record {
  name = s.name;
  rest = s.rest;
  whole = whole ∙ s.whole;
  letters = s.letters;
  front = word_front text s.name s.rest (whole ∙ s.whole) s.letters s.stop;
  is_word = predicate s.no_operator refl s.after;
}

pub wordy : {text : List ℕ} {token : Lexeme} {t : List ℕ} → Begins text token t → sign_token (get_or text 0 0) ≡ None → IsWordy text token t
wordy (tokens.sign is) none = absurd cc
wordy (tokens.word {text} {t} {token} own is letters ends whole) none = wordy_operator text own t token is letters ends whole
wordy (tokens.predicate {text} {t} own leaf whole) none = wordy_predicate text own t whole (split leaf t)

no_name : (rest : List ℕ) (token : Lexeme) (t : List ℕ) → IsWord [] rest token t → ⊥
no_name rest token t (operator is same) = absurd cc
no_name rest token t (predicate is same after) = let named = after.named in absurd cc

named : (name rest : List ℕ) (token : Lexeme) (t : List ℕ) → IsWord name rest token t → 0 < length name
named [] rest token t is = absurd (no_name rest token t is)
named (b ∷ name) rest token t is = omega arith

pub no_word : (text : List ℕ) (token : Lexeme) (t : List ℕ) → IsWordy text token t → length (take_while is_letter text) ≡ 0 → ⊥
no_word text token t w none = omega (arith, w.front, none, named w.name w.rest token t w.is_word)

pub by_operator : (text : List ℕ) (token : Lexeme) (t : List ℕ) → IsWordy text token t → (n : ℕ) → n ≡ length (take_while is_letter text)
    → (own : Lexeme) → word_token (take n text) ≡ Some own → (own ≡ token) × (drop n text ≡ t)
by_operator text token t w n count own is = from w.is_word
  where
    size : length w.name ≡ n
    size = sym w.front ∙ sym count

    named_so : word_token w.name ≡ Some own
    named_so = ap word_token (sym (take_at w.name w.rest n size)) ∙ ap (λ (x : List ℕ). word_token (take n x)) (sym w.whole) ∙ is

    from : IsWord w.name w.rest token t → (own ≡ token) × (drop n text ≡ t)
    from (operator same rest) = (let e : Some own ≡ Some token = sym named_so ∙ same in cc, ap (drop n) w.whole ∙ drop_at w.name w.rest n size ∙ rest)
    from (predicate none same after) = absurd (let e : Some own ≡ None = sym named_so ∙ none in cc)

pub by_predicate : (text : List ℕ) (token : Lexeme) (t : List ℕ) → IsWordy text token t → (n : ℕ) → n ≡ length (take_while is_letter text)
    → word_token (take n text) ≡ None → (shown.Predicate ≡ token) × IsPredicateAfter (take n text) (drop n text) t
by_predicate text token t w n count is = from w.is_word
  where
    size : length w.name ≡ n
    size = sym w.front ∙ sym count

    front : take n text ≡ w.name
    front = ap (take n) w.whole ∙ take_at w.name w.rest n size

    behind : drop n text ≡ w.rest
    behind = ap (drop n) w.whole ∙ drop_at w.name w.rest n size

    from : IsWord w.name w.rest token t → (shown.Predicate ≡ token) × IsPredicateAfter (take n text) (drop n text) t
    from (operator same rest) = absurd (let e : Some token ≡ None = sym same ∙ ap word_token (sym front) ∙ is in cc)
    from (predicate none same after) =
        (sym same, subst (λ (x : List ℕ). IsPredicateAfter x (drop n text) t) (sym front) (subst (λ (x : List ℕ). IsPredicateAfter w.name x t) (sym behind) after))

-- ---- signs

-- a letter is no sign
letter_no_sign : (b : ℕ) → is_letter b ≡ true → sign_token b ≡ None
letter_no_sign b is =
    let no : (k : ℕ) → is_letter k ≡ false → eqb b k ≡ false = λ k not_k. ne_eqb b k (λ e. let f : is_letter k ≡ true = subst (λ (x : ℕ). is_letter x ≡ true) e is in absurd cc) in
    rw (no 32 refl, no 10 refl, no 13 refl, no 38 refl, no 124 refl, no 43 refl, no 45 refl, no 94 refl, no 33 refl, no 40 refl, no 41 refl) refl

first_letter : (b : ℕ) (own : List ℕ) → prefix_len is_letter (b ∷ own) ≡ length (b ∷ own) → is_letter b ≡ true
first_letter b own is = by_test (is_letter b) (prefix_len is_letter own) is
  where
    by_test : (v : Bool) (n : ℕ) → cond v (1 + n) 0 ≡ length (b ∷ own) → v ≡ true
    by_test true n is = refl
    by_test false n is = absurd (omega arith)

no_sign : (text : List ℕ) (token : Lexeme) (t : List ℕ) → IsWordy text token t → sign_token (get_or text 0 0) ≡ None
no_sign text token t w = from w.name w.whole w.letters w.is_word
  where
    from : (name : List ℕ) → text ≡ name ++ w.rest → prefix_len is_letter name ≡ length name → IsWord name w.rest token t → sign_token (get_or text 0 0) ≡ None
    from [] whole letters is = absurd (no_name w.rest token t is)
    from (b ∷ name) whole letters is = ap (λ (x : List ℕ). sign_token (get_or x 0 0)) whole ∙ letter_no_sign b (first_letter b name letters)

pub by_sign : {text : List ℕ} {token : Lexeme} {t : List ℕ} → Begins text token t → (own : Lexeme) → sign_token (get_or text 0 0) ≡ Some own
    → (own ≡ token) × (drop 1 text ≡ t)
by_sign (tokens.sign {b} {t} {token} is) own e = (let f : Some own ≡ Some token = sym e ∙ is in cc, refl)
by_sign (tokens.word {text} {t} {token} name is letters ends whole) own e =
    absurd (let f : Some own ≡ None = sym e ∙ no_sign text token t (wordy_operator text name t token is letters ends whole) in cc)
by_sign (tokens.predicate {text} {t} name leaf whole) own e =
    absurd (let f : Some own ≡ None = sym e ∙ no_sign text shown.Predicate t (wordy_predicate text name t whole (split leaf t)) in cc)
