-- A predicate that is read is spelled so.
use Rattle.std.proofs.Common.{◌≡◌, ◌≢◌, ℕ, suc, ◌+◌, Bool, true, false, cond, List, [], ◌∷◌, ◌++◌, length, take, Option, Some, None, refl, sym, ap, ◌∙◌, subst, arith, append_assoc, length-append, length-take, ⊎_elim}
use Rattle.std.specs.{Prelude.codes, Prelude.chars, Prelude.Result, Prelude.Ok, Prelude.Err, Option.option_map}
use Rattle.std.proofs.lemmas.List.{take-append-drop, nil_from_length}
use Rattle.filterset_faults.specs.{Span.span, declared.span.SourceSpan.SourceSpan}
use Rattle.filterset_glob.specs.{Grammar.GlobText, Reading.reading, Tokens.Tokens}
use Rattle.filterset_glob.specs.declared.fault.GlobConstructError.{GlobConstructError}
use Rattle.filterset_glob.proofs.ReadIsSpelled.{glob_of_reading}
use Rattle.filterset_graph.specs.declared.package.BuildPlatform.{BuildPlatform}
use Rattle.filterset_grammar.specs.Text.{Blanks, no_blank, space, newline, return_newline, Spelled, WhiteSpace}
use Rattle.filterset_grammar.specs.{Platforms.Names, Tree.Leaf, Tree.Matching, Tree.Platform, Tree.Default}
use Rattle.filterset_grammar.specs.declared.predicate.Predicate.{Predicate}
use Rattle.filterset_grammar.specs.Grammar.{Name, own_matching, matching_sign, Matches, begins_plainly, MatcherText, BehindMatcher, Call, LeafText}
use Rattle.filterset_grammar.specs.declared.predicate.TextMatching.{TextMatching}
use Rattle.filterset_language.specs.Parsing.Front.{blank_len, close_len, is_white}
use Rattle.filterset_language.specs.Parsing.Position.{Position, position, skip, after, behind, advanced}
use Rattle.filterset_language.specs.Parsing.RawTexts.{raw_at, body_at, TextTaken}
use Rattle.filterset_language.specs.Parsing.{Globs.glob_by, Globs.glob_in, PlatformNames.platform_in, Words.name_text}
use Rattle.filterset_language.specs.{Faults.EndsText, declared.parsing.names.PredicateName.PredicateName}
use Rattle.filterset_language.specs.Parsing.Descent.{◌>>=◌, regex_at, signed_or, made, signed_text, text_matcher_at, matcher_at, between, matching_at, platform_at, bare_end_at, bare_at, default_at, argument_at, leaf_at}
use Rattle.filterset_language.proofs.Positions.{behind_some, one_blank, one_newline, skip_stop}
use Rattle.filterset_language.proofs.WhiteSpaceTest.{white_from}
use Rattle.filterset_language.proofs.ClosingParenthesis.{close_within, ends_stop}
use Rattle.filterset_language.proofs.{SpelledIsNotEmpty.span_same, RawTexts.text_takes, BodyReading.regex_takes}
use Rattle.filterset_language.proofs.Trimming.{platform_takes}
use Rattle.filterset_language.proofs.PlatformArguments.{names_before, spelled_takes, with_blanks}
use Rattle.filterset_language.proofs.StepsTakeText.{bind_is, choose_is, is_some, Takes, Takes-then, skip_takes, after_takes}
use Rattle.filterset_matchers.specs.Matcher.{Matcher, Equal, Contains, Glob, Regex}
use Rattle.filterset_grammar.specs.Tree as tree
use Rattle.filterset_grammar.specs.Grammar as grammar
use Rattle.filterset_grammar.specs.declared.predicate.TextMatching.TheVariants as ways
use Rattle.filterset_language.specs.declared.parsing.names.PredicateName.TheVariants as names

-- ---- what ends a text

-- after a text no blank is skipped
none_skipped : (q : Position) → EndsText q.rest → skip q ≡ q
none_skipped q ends = skip_stop q.at q.rest (ends_stop q.rest ends)

-- so a closing parenthesis stands right after it
close_takes : (p q : Position) → EndsText p.rest → after (codes ")") (skip p) ≡ Some q → Takes p (codes ")") q
close_takes p q ends e = after_takes (codes ")") p q (ap (after (codes ")")) (sym (none_skipped p ends)) ∙ e)

no_blanks : (q : Position) (t : List ℕ) → EndsText q.rest → Takes q t (skip q) → t ≡ []
no_blanks q t ends takes =
    let at : (skip q).at ≡ q.at = ap (λ (p : Position). p.at) (none_skipped q ends) in
    nil_from_length t (omega (arith, takes.offset))

-- ---- what a matcher without a sign begins with

not_front : (c b : ℕ) (p : Position) (r : List ℕ) → p.rest ≡ b ∷ r → after (c ∷ []) p ≡ None → b ≢ c
not_front c b p r is none e =
    let h : behind (c ∷ []) p.rest ≡ Some r = behind_some (c ∷ []) p.rest r (is ∙ ap (λ (x : ℕ). x ∷ r) e) in
    let f : after (c ∷ []) p ≡ Some (position (p.at + 1) r) = ap (option_map (λ (t : List ℕ). position (p.at + 1) t)) h in
    let g : None ≡ Some (position (p.at + 1) r) = sym none ∙ f in
    cc

-- where no blank stands, a list of blanks is empty
blank_free : {blanks : List ℕ} → Blanks blanks → (rest : List ℕ) → blank_len (blanks ++ rest) ≡ 0 → blanks ≡ []
blank_free no_blank rest e = refl
blank_free (space {t} r) rest e = absurd (let one = one_blank (t ++ rest) in omega arith)
blank_free (newline {t} r) rest e = absurd (let one = one_newline (t ++ rest) in omega arith)
blank_free (return_newline {t} r) rest e = absurd (let two : 2 ≡ 0 = e in omega arith)

-- neither a blank nor a sign stands at the position
record Unsigned (p : Position) : Type 0 where
  stop : blank_len p.rest ≡ 0
  no_slash : after (codes "/") p ≡ None
  no_hash : after (codes "#") p ≡ None
  no_equal : after (codes "=") p ≡ None
  no_tilde : after (codes "~") p ≡ None

plainly : (p q : Position) (raw : List ℕ) → Unsigned p → Takes p raw q → begins_plainly raw
plainly p q raw unsigned takes = (
  λ blanks rest are is.
      let front : p.rest ≡ blanks ++ (rest ++ q.rest) = takes.parts ∙ ap (λ (w : List ℕ). w ++ q.rest) is ∙ append_assoc blanks rest q.rest in
      blank_free are (rest ++ q.rest) (ap blank_len (sym front) ∙ unsigned.stop),
  λ b t is.
      let front : p.rest ≡ b ∷ (t ++ q.rest) = takes.parts ∙ ap (λ (w : List ℕ). w ++ q.rest) is in (
        not_front 47 b p _ front unsigned.no_slash,
        not_front 35 b p _ front unsigned.no_hash,
        not_front 61 b p _ front unsigned.no_equal,
        not_front 126 b p _ front unsigned.no_tilde,
      ),
)

-- ---- what is made of a value

-- a glob of the value, as a matcher
abbrev IsGlob : List ℕ → Bool → Matcher → Type 0
IsGlob value implicit m = (tokens : Tokens) × GlobText (chars value) tokens × (m ≡ Glob value tokens implicit)

glob_takes : (value : List ℕ) (implicit : Bool) (m : Matcher) → glob_in value implicit ≡ Some m → IsGlob value implicit m
glob_takes value implicit m e = from (reading (chars value)) refl e
  where
    from : (r : Result Tokens GlobConstructError) → reading (chars value) ≡ r → glob_by r value implicit ≡ Some m → IsGlob value implicit m
    from (Ok tokens) h e = (tokens, glob_of_reading (chars value) tokens h, sym (is_some _ m e))
    from (Err fault) h e = absurd cc

-- what is made of a value matches by it
made_matches : (how : TextMatching) (implicit : Bool) (value : List ℕ) (m : Matcher) → made (how, implicit) value ≡ Some m → Matches how value implicit m
made_matches ways.Equal implicit value m e = sym (is_some _ m e)
made_matches ways.Contains implicit value m e = sym (is_some _ m e)
made_matches ways.Glob implicit value m e = glob_takes value implicit m e

-- it is no regular expression
made_short : (how : TextMatching) (implicit : Bool) (value : List ℕ) (m : Matcher) → made (how, implicit) value ≡ Some m → BehindMatcher m []
made_short ways.Glob implicit value m e =
    let g = glob_takes value implicit m e in
    subst (λ (x : Matcher). BehindMatcher x []) (sym g.2) refl
made_short ways.Equal implicit value m e = subst (λ (x : Matcher). BehindMatcher x []) (is_some (Equal value implicit) m e) refl
made_short ways.Contains implicit value m e = subst (λ (x : Matcher). BehindMatcher x []) (is_some (Contains value implicit) m e) refl

-- ---- matchers

-- a matcher that is read: its text, and what the blanks after it may be
record MatcherTaken (predicate : Predicate) (p : Position) (m : Matcher) (q : Position) : Type 0 where
  raw : List ℕ
  takes : Takes p raw q
  text : MatcherText predicate raw m
  behind : (t : List ℕ) → Blanks t → Takes q t (skip q) → BehindMatcher m t

regex_matcher_takes : (predicate : Predicate) (p i : Position) (x : Matcher × Position) → Takes p (codes "/") i → regex_at i ≡ Some x → MatcherTaken predicate p x.0 x.1
regex_matcher_takes predicate p i x slash e =
    let b = bind_is (body_at i) (λ y. Some (Regex y.0.0, y.1)) x e in
    let pattern = b.0.0.0 in
    let q = b.0.1 in
    let t = regex_takes i pattern b.0.0.1 q b.1 in
    let body : Takes i (t.body ++ 47 ∷ []) q = record { parts = t.parts ∙ sym (append_assoc t.body (47 ∷ []) q.rest); offset = omega (arith, t.offset, length-append t.body (47 ∷ [])) } in
    let is : MatcherTaken predicate p (Regex pattern) q = record {
      raw = 47 ∷ (t.body ++ 47 ∷ []);
      takes = Takes-then p i q (codes "/") (t.body ++ 47 ∷ []) slash body;
      text = grammar.regex t.body t.is refl;
      behind = λ blanks are takes. are;
    } in
    subst (λ (y : Matcher × Position). MatcherTaken predicate p y.0 y.1) (is_some (Regex pattern, q) x b.2) is

-- a text that is read, and the matcher that is made of its value
record Made (how : TextMatching) (implicit : Bool) (p : Position) (m : Matcher) (q : Position) : Type 0 where
  value : List ℕ
  text : TextTaken p value q
  is : made (how, implicit) value ≡ Some m

made_is : (how : TextMatching) (implicit : Bool) (p : Position) (x : Matcher × Position) → signed_text ((how, implicit), p) ≡ Some x → Made how implicit p x.0 x.1
made_is how implicit p x e =
    let b = bind_is (raw_at p) (λ y. made (how, implicit) y.0 >>= λ m. Some (m, y.1)) x e in
    let c = bind_is (made (how, implicit) b.0.0) (λ m. Some (m, b.0.1)) x b.2 in
    subst (λ (y : Matcher × Position). Made how implicit p y.0 y.1) (is_some (c.0, b.0.1) x c.2) (record { value = b.0.0; text = text_takes p b.0.0 b.0.1 b.1; is = c.1 })

text_behind : {how : TextMatching} {implicit : Bool} {p : Position} {m : Matcher} {q : Position} → Made how implicit p m q → (t : List ℕ) → Takes q t (skip q) → BehindMatcher m t
text_behind {how} {implicit} {p} {m} {q} is t takes = subst (BehindMatcher m) (sym (no_blanks q t is.text.ends takes)) (made_short how implicit is.value m is.is)

signed_takes : (predicate : Predicate) (how : TextMatching) (p i : Position) (x : Matcher × Position) → Takes p (matching_sign how ∷ []) i → signed_text ((how, false), i) ≡ Some x → MatcherTaken predicate p x.0 x.1
signed_takes predicate how p i x front e =
    let is = made_is how false i x e in
    let t = is.text.spelled in
    record {
      raw = matching_sign how ∷ t.raw;
      takes = Takes-then p i x.1 (matching_sign how ∷ []) t.raw front (spelled_takes t);
      text = grammar.signed how is.value t.spelled (λ e. absurd (omega (arith, ap length e, is.text.some))) (made_matches how false is.value x.0 is.is);
      behind = λ blanks are takes. text_behind is blanks takes;
    }

implicit_takes : (predicate : Predicate) (p : Position) (x : Matcher × Position) → Unsigned p → signed_text ((own_matching predicate, true), p) ≡ Some x → MatcherTaken predicate p x.0 x.1
implicit_takes predicate p x unsigned e =
    let is = made_is (own_matching predicate) true p x e in
    let t = is.text.spelled in
    let takes = spelled_takes t in
    record {
      raw = t.raw;
      takes = takes;
      text = grammar.implicit is.value t.spelled (λ e. absurd (omega (arith, ap length e, is.text.some))) (plainly p x.1 t.raw unsigned takes) (made_matches (own_matching predicate) true is.value x.0 is.is);
      behind = λ blanks are takes. text_behind is blanks takes;
    }

-- a sign that stands there, or the other
by_sign : (Is : (TextMatching × Bool) × Position → Type 0) (o : Option Position) (how : TextMatching) (other : (TextMatching × Bool) × Position)
    → ((q : Position) → o ≡ Some q → Is ((how, false), q)) → (o ≡ None → Is other) → Is (signed_or o how other)
by_sign Is (Some q) how other with_sign without = with_sign q refl
by_sign Is None how other with_sign without = without refl

matcher_takes : (predicate : Predicate) (p : Position) (x : Matcher × Position) → blank_len p.rest ≡ 0 → matcher_at predicate p ≡ Some x → MatcherTaken predicate p x.0 x.1
matcher_takes predicate p x stop e =
    ⊎_elim
    (λ a. regex_matcher_takes predicate p a.0 x (after_takes (codes "/") p a.0 a.1) a.2)
    (λ b. by_sign Is (after (codes "#") p) ways.Glob _ (λ q a. signed_takes predicate ways.Glob p q x (after_takes (codes "#") p q a))
    (λ no_hash. by_sign Is (after (codes "=") p) ways.Equal _ (λ q a. signed_takes predicate ways.Equal p q x (after_takes (codes "=") p q a))
    (λ no_equal. by_sign Is (after (codes "~") p) ways.Contains _ (λ q a. signed_takes predicate ways.Contains p q x (after_takes (codes "~") p q a))
    (λ no_tilde. implicit_takes predicate p x (record { stop = stop; no_slash = b.0; no_hash = no_hash; no_equal = no_equal; no_tilde = no_tilde }))))
    b.1)
    (choose_is (after (codes "/") p) regex_at (text_matcher_at predicate p) x e)
  where
    Is : (TextMatching × Bool) × Position → Type 0
    Is s = signed_text s ≡ Some x → MatcherTaken predicate p x.0 x.1

-- ---- calls

-- a name, blanks and an opening parenthesis
record Opened (name : List ℕ) (s i : Position) : Type 0 where
  blanks : List ℕ
  are : Blanks blanks
  parts : s.rest ≡ name ++ (blanks ++ (40 ∷ i.rest))
  offset : i.at ≡ s.at + length name + length blanks + 1

opened_takes : (name : List ℕ) (s q i : Position) → Takes s name q → after (codes "(") (skip q) ≡ Some i → Opened name s i
opened_takes name s q i word e =
    let k = skip_takes q.rest q.at in
    let o = after_takes (codes "(") (skip q) i e in
    record {
      blanks = k.blanks;
      are = k.are;
      parts = word.parts ∙ ap (λ (t : List ℕ). name ++ t) (k.takes.parts ∙ ap (λ (t : List ℕ). k.blanks ++ t) o.parts);
      offset = omega (arith, word.offset, k.takes.offset, o.offset);
    }

-- a name and an argument between parentheses
record CallTaken (name argument : List ℕ) (s : Position) (inside : ℕ) (q : Position) : Type 0 where
  own : List ℕ
  takes : Takes s own q
  call : Call name argument own s.at inside

call_takes : (name argument : List ℕ) (s i j q : Position) → Opened name s i → Takes i argument j → Takes j (codes ")") q → CallTaken name argument s i.at q
call_takes name argument s i j q o a close =
    let inner = Takes-then i j q argument (41 ∷ []) a close in
    let own : List ℕ = name ++ (o.blanks ++ (40 ∷ (argument ++ 41 ∷ []))) in
    let whole : s.rest ≡ own ++ q.rest = o.parts ∙ ap (λ (t : List ℕ). name ++ (o.blanks ++ (40 ∷ t))) inner.parts ∙ simp append_assoc in
    let size : length own ≡ length name + (length o.blanks + suc (length (argument ++ 41 ∷ []))) = simp length-append in
    record {
      own = own;
      takes = record { parts = whole; offset = omega (arith, o.offset, inner.offset) };
      call = record { blanks = o.blanks; are_blanks = o.are; text = refl; offset = o.offset };
    }

-- ---- predicates

-- a predicate that is read
pub record LeafTaken (s : Position) (l : Leaf SourceSpan) (q : Position) : Type 0 where
  pub own : List ℕ
  pub takes : Takes s own q
  pub text : LeafText own s.at l

-- the predicate and the position, as they were read
leaf_is : (s : Position) (l : Leaf SourceSpan) (q : Position) (x : Leaf SourceSpan × Position) → Some (l, q) ≡ Some x → LeafTaken s l q → LeafTaken s x.0 x.1
leaf_is s l q x e taken = subst (λ (y : Leaf SourceSpan × Position). LeafTaken s y.0 y.1) (is_some (l, q) x e) taken

matching_call_takes : (p : Predicate) (m : Matcher) (s i j r : Position) → Opened (Name p) s i → matcher_at p (skip i) ≡ Some (m, j) → after (codes ")") (skip j) ≡ Some r → LeafTaken s (Matching p m (between i.at j.at)) r
matching_call_takes p m s i j r o e close =
    let before = skip_takes i.rest i.at in
    let t = matcher_takes p (skip i) (m, j) before.stop e in
    let behind = skip_takes j.rest j.at in
    let argument = before.blanks ++ (t.raw ++ behind.blanks) in
    let inside = Takes-then i (skip i) (skip j) before.blanks (t.raw ++ behind.blanks) before.takes (Takes-then (skip i) j (skip j) t.raw behind.blanks t.takes behind.takes) in
    let call = call_takes (Name p) argument s i (skip j) r o inside (after_takes (codes ")") (skip j) r close) in
    let s_is : between i.at j.at ≡ span i.at (length before.blanks + length t.raw) = span_same i.at (length before.blanks + length t.raw) j.at (omega (arith, before.takes.offset, t.takes.offset)) in
    record {
      own = call.own;
      takes = call.takes;
      text = grammar.matching {t = call.own} i.at before.blanks t.raw behind.blanks call.call before.are t.text (t.behind behind.blanks behind.are behind.takes) s_is;
    }

matching_takes : (p : Predicate) (s i : Position) (x : Leaf SourceSpan × Position) → Opened (Name p) s i → matching_at p i ≡ Some x → LeafTaken s x.0 x.1
matching_takes p s i x o e =
    let b = bind_is (matcher_at p (skip i)) (λ y. after (codes ")") (skip y.1) >>= λ r. Some (Matching p y.0 (between i.at y.1.at), r)) x e in
    let m = b.0.0 in
    let j = b.0.1 in
    let c = bind_is (after (codes ")") (skip j)) (λ r. Some (Matching p m (between i.at j.at), r)) x b.2 in
    leaf_is s (Matching p m (between i.at j.at)) c.0 x c.2 (matching_call_takes p m s i j c.0 o b.1 c.1)

-- the argument of `platform`, with the blanks before it
record PlatformTaken (i : Position) (q : BuildPlatform) (j : Position) : Type 0 where
  raw : List ℕ
  takes : Takes i raw j
  value : List ℕ
  spelled : Spelled raw value
  names : Names value q
  ends : EndsText j.rest

platform_text_takes : (i j : Position) (value : List ℕ) (q : BuildPlatform) → raw_at (skip i) ≡ Some (value, j) → platform_in value ≡ Some q → PlatformTaken i q j
platform_text_takes i j value q e is =
    let k = skip_takes i.rest i.at in
    let read = text_takes (skip i) value j e in
    let t = with_blanks i (skip i) j value k.are k.takes read.spelled in
    record {
      raw = t.raw;
      takes = spelled_takes t;
      value = k.blanks ++ value;
      spelled = t.spelled;
      names = names_before k.are value q (platform_takes value q is);
      ends = read.ends;
    }

platform_call_takes : (s i j r : Position) (q : BuildPlatform) → Opened (codes "platform") s i → PlatformTaken i q j → after (codes ")") (skip j) ≡ Some r → LeafTaken s (Platform q (between i.at j.at)) r
platform_call_takes s i j r q o t e =
    let call = call_takes (codes "platform") t.raw s i j r o t.takes (close_takes j r t.ends e) in
    let s_is : between i.at j.at ≡ span i.at (length t.raw) = span_same i.at (length t.raw) j.at (sym t.takes.offset) in
    record {
      own = call.own;
      takes = call.takes;
      text = grammar.platform {t = call.own} i.at t.raw t.value call.call t.spelled t.names s_is;
    }

platform_leaf_takes : (s i : Position) (x : Leaf SourceSpan × Position) → Opened (codes "platform") s i → platform_at i ≡ Some x → LeafTaken s x.0 x.1
platform_leaf_takes s i x o e =
    let b = bind_is (raw_at (skip i)) (λ y. after (codes ")") (skip y.1) >>= λ r. platform_in y.0 >>= λ q. Some (Platform q (between i.at y.1.at), r)) x e in
    let j = b.0.1 in
    let c = bind_is (after (codes ")") (skip j)) (λ r. platform_in b.0.0 >>= λ q. Some (Platform q (between i.at j.at), r)) x b.2 in
    let d = bind_is (platform_in b.0.0) (λ q. Some (Platform q (between i.at j.at), c.0)) x c.2 in
    leaf_is s (Platform d.0 (between i.at j.at)) c.0 x d.2 (platform_call_takes s i j c.0 d.0 o (platform_text_takes i j b.0.0 d.0 b.1 d.1) c.1)

-- white space and a closing parenthesis
record WhiteTaken (p q : Position) : Type 0 where
  white : List ℕ
  are : WhiteSpace white
  middle : Position
  takes : Takes p white middle
  close : Takes middle (codes ")") q

bare_end_takes : (p q : Position) → bare_end_at p ≡ Some q → WhiteTaken p q
bare_end_takes p q e = from (is_white (take (close_len p.rest) p.rest)) refl e
  where
    from : (v : Bool) → is_white (take (close_len p.rest) p.rest) ≡ v → cond v (after (codes ")") (advanced (close_len p.rest) p)) None ≡ Some q → WhiteTaken p q
    from false h e = absurd cc
    from true h e =
        let n = close_len p.rest in
        let len : length (take n p.rest) ≡ n = omega (arith, length-take n p.rest, close_within p.rest) in
        record {
          white = take n p.rest;
          are = white_from (take n p.rest) h;
          middle = advanced n p;
          takes = record { parts = sym (take-append-drop n p.rest); offset = omega arith };
          close = after_takes (codes ")") (advanced n p) q e;
        }

-- a name and white space between parentheses
record BareTaken (name : List ℕ) (s : Position) (inside : ℕ) (q : Position) : Type 0 where
  white : List ℕ
  are : WhiteSpace white
  taken : CallTaken name white s inside q

bare_takes : (name : List ℕ) (s i q : Position) → Opened name s i → bare_end_at i ≡ Some q → BareTaken name s i.at q
bare_takes name s i q o e =
    let w = bare_end_takes i q e in
    record { white = w.white; are = w.are; taken = call_takes name w.white s i w.middle q o w.takes w.close }

default_takes : (s i : Position) (x : Leaf SourceSpan × Position) → Opened (codes "default") s i → default_at s.at i ≡ Some x → LeafTaken s x.0 x.1
default_takes s i x o e =
    let b = bind_is (bare_end_at i) (λ r. Some (Default (between s.at r.at), r)) x e in
    let t = bare_takes (codes "default") s i b.0 o b.1 in
    let own = t.taken.own in
    let is : LeafTaken s (Default (between s.at b.0.at)) b.0 = record {
      own = own;
      takes = t.taken.takes;
      text = grammar.default {t = own} i.at t.white t.taken.call t.are (span_same s.at (length own) b.0.at (sym t.taken.takes.offset));
    } in
    leaf_is s (Default (between s.at b.0.at)) b.0 x b.2 is

bare_leaf_takes : (name : List ℕ) (l : Leaf SourceSpan) (s i : Position) (x : Leaf SourceSpan × Position) → Opened name s i
    → ((own white : List ℕ) → Call name white own s.at i.at → WhiteSpace white → LeafText own s.at l) → bare_at l i ≡ Some x → LeafTaken s x.0 x.1
bare_leaf_takes name l s i x o text e =
    let b = bind_is (bare_end_at i) (λ r. Some (l, r)) x e in
    let t = bare_takes name s i b.0 o b.1 in
    leaf_is s l b.0 x b.2 (record { own = t.taken.own; takes = t.taken.takes; text = text t.taken.own t.white t.taken.call t.are })

argument_takes : (n : PredicateName) (s i : Position) (x : Leaf SourceSpan × Position) → Opened (name_text n) s i → argument_at n s.at i ≡ Some x → LeafTaken s x.0 x.1
argument_takes (names.Matching name) s i x o e = matching_takes name s i x o e
argument_takes names.Platform s i x o e = platform_leaf_takes s i x o e
argument_takes names.Default s i x o e = default_takes s i x o e
argument_takes names.All s i x o e = bare_leaf_takes (codes "all") tree.All s i x o (λ own white call are. grammar.all i.at white call are) e
argument_takes names.None s i x o e = bare_leaf_takes (codes "none") tree.None s i x o (λ own white call are. grammar.none i.at white call are) e

-- what stands after a name that was read
pub leaf_takes : (s : Position) (n : PredicateName) (q : Position) (x : Leaf SourceSpan × Position) → Takes s (name_text n) q → leaf_at n s.at q ≡ Some x → LeafTaken s x.0 x.1
leaf_takes s n q x word e =
    let b = bind_is (after (codes "(") (skip q)) (λ i. argument_at n s.at i) x e in
    argument_takes n s b.0 x (opened_takes (name_text n) s q b.0 word b.1) b.2
