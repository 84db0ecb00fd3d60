-- A predicate that is spelled is read.
use Rattle.std.proofs.Common.{◌≡◌, ◌≢◌, ℕ, ◌+◌, Bool, true, false, cond, eqb, List, [], ◌∷◌, ◌++◌, length, take, drop, Option, Some, None, refl, sym, ap, ◌∙◌, subst, arith, append_assoc, length-append}
use Rattle.std.specs.Prelude.{codes, ◌&&◌, ◌||◌}
use Rattle.std.proofs.lemmas.{Bool.eqb-true, Bool.ne_eqb, List.take_at, List.drop_at}
use Rattle.filterset_glob.proofs.SpelledIsRead.{reading_of_glob}
use Rattle.filterset_graph.specs.declared.package.BuildPlatform.{BuildPlatform}
use Rattle.filterset_faults.specs.{Span.span, declared.span.SourceSpan.SourceSpan}
use Rattle.filterset_grammar.specs.Text.{Blanks, no_blank, space, newline, return_newline, Spelled, WhiteSpace}
use Rattle.filterset_grammar.specs.{Platforms.Names, declared.predicate.TextMatching.TextMatching}
use Rattle.filterset_grammar.specs.{Tree.Leaf, Tree.Matching, Tree.Platform, declared.predicate.Predicate.Predicate}
use Rattle.filterset_grammar.specs.Grammar.{Name, own_matching, matching_sign, Matches, begins_plainly, MatcherText, regex, signed, implicit, BehindMatcher, Call, LeafText}
use Rattle.filterset_language.specs.{Parsing.Front.blank_len, Faults.closed, Faults.at_close}
use Rattle.filterset_language.specs.Parsing.Position.{Position, position, skip, after, behind}
use Rattle.filterset_language.specs.Parsing.{RawTexts.raw_at, Words.name_at}
use Rattle.filterset_language.specs.Parsing.Descent.{◌>>=◌, made, signed_text, matcher_at, between, matching_at, platform_at, bare_end_at, bare_at, default_at, leaf_at}
use Rattle.filterset_language.proofs.Positions.{skip_stop, skip_again}
use Rattle.filterset_language.proofs.WhiteSpaceTest.{white_to, white_close}
use Rattle.filterset_language.proofs.{RawTexts.text_again, BodyReading.regex_again, PlatformArguments.argument_again}
use Rattle.filterset_language.proofs.SpelledIsNotEmpty.{span_same, call_length}
use Rattle.filterset_matchers.specs.Matcher.{Matcher}
use Rattle.filterset_grammar.specs.Tree as tree
use Rattle.filterset_grammar.specs.declared.predicate.Predicate.TheVariants as predicates
use Rattle.filterset_grammar.specs.declared.predicate.TextMatching.TheVariants as ways
use Rattle.filterset_grammar.specs.Grammar as grammar

-- ---- blanks

-- what begins with a byte of no blank begins with no blank
pub byte_stop : (b : ℕ) (u : List ℕ) → (eqb b 32 || eqb b 10) ≡ false → eqb b 13 ≡ false → blank_len (b ∷ u) ≡ 0
byte_stop b [] e f = rw e refl
byte_stop b (c ∷ u) e f = rw (e, f) refl

pub open_stop : (u : List ℕ) → blank_len (40 ∷ u) ≡ 0
open_stop u = byte_stop 40 u refl refl

pub close_stop : (u : List ℕ) → blank_len (41 ∷ u) ≡ 0
close_stop u = byte_stop 41 u refl refl

-- blanks and a parenthesis
open_again : {b : List ℕ} → Blanks b → (at : ℕ) (u : List ℕ) → after (codes "(") (skip (position at (b ++ 40 ∷ u))) ≡ Some (position (at + length b + 1) u)
open_again r at u = rw (skip_again r at (40 ∷ u) (open_stop u)) refl

pub close_again : {b : List ℕ} → Blanks b → (at : ℕ) (u : List ℕ) → after (codes ")") (skip (position at (b ++ 41 ∷ u))) ≡ Some (position (at + length b + 1) u)
close_again r at u = rw (skip_again r at (41 ∷ u) (close_stop u)) refl

-- ---- matchers

-- a matcher that is read before what stands between it and its closing parenthesis
record MatcherRead (p : Predicate) (raw : List ℕ) (m : Matcher) (at : ℕ) (behind u : List ℕ) : Type 0 where
  stop : blank_len (raw ++ (behind ++ 41 ∷ u)) ≡ 0
  read : matcher_at p (position at (raw ++ (behind ++ 41 ∷ u))) ≡ Some (m, position (at + length raw) (behind ++ 41 ∷ u))
  blanks : Blanks behind

-- a raw text before a closing parenthesis
text_read : (at : ℕ) (raw value u : List ℕ) → Spelled raw value → raw ≢ [] → raw_at (position at (raw ++ 41 ∷ u)) ≡ Some (value, position (at + length raw) (41 ∷ u))
text_read at raw value u r some = text_again at raw value (41 ∷ u) r some (closed at_close)

-- what begins plainly begins with no blank, and is read as a text without a sign
plain_begins : (p : Predicate) (raw : List ℕ) (at : ℕ) (u : List ℕ) → raw ≢ [] → begins_plainly raw
    → (blank_len (raw ++ 41 ∷ u) ≡ 0) × (matcher_at p (position at (raw ++ 41 ∷ u)) ≡ signed_text ((own_matching p, true), position at (raw ++ 41 ∷ u)))
plain_begins p [] at u some h = absurd (some refl)
plain_begins p (b ∷ raw) at u some h =
    let f = h.1 b raw refl in
    let e32 : eqb b 32 ≡ false = ne_eqb b 32 (λ e. some_blanks b [] (h.0 (b ∷ []) raw (subst (λ (x : ℕ). Blanks (x ∷ [])) (sym e) (space no_blank)) refl)) in
    let e10 : eqb b 10 ≡ false = ne_eqb b 10 (λ e. some_blanks b [] (h.0 (b ∷ []) raw (subst (λ (x : ℕ). Blanks (x ∷ [])) (sym e) (newline no_blank)) refl)) in
    let e47 : eqb 47 b ≡ false = ne_eqb 47 b (λ e. f.0 (sym e)) in
    let e35 : eqb 35 b ≡ false = ne_eqb 35 b (λ e. f.1 (sym e)) in
    let e61 : eqb 61 b ≡ false = ne_eqb 61 b (λ e. f.2 (sym e)) in
    let e126 : eqb 126 b ≡ false = ne_eqb 126 b (λ e. f.3 (sym e)) in
    let line : b ≡ 13 → (u : List ℕ) → raw ≢ 10 ∷ u = λ e u is. some_blanks b (10 ∷ []) (h.0 (b ∷ 10 ∷ []) u (subst (λ (x : ℕ). Blanks (x ∷ 10 ∷ [])) (sym e) (return_newline no_blank)) (ap (λ (x : List ℕ). b ∷ x) is)) in
    (blank b raw e32 e10 line, rw (e47, e35, e61, e126) refl)
  where
    some_blanks : (b : ℕ) (t : List ℕ) → b ∷ t ≡ [] → ⊥
    some_blanks b t e = cc

    blank : (b : ℕ) (raw : List ℕ) → eqb b 32 ≡ false → eqb b 10 ≡ false → (b ≡ 13 → (u : List ℕ) → raw ≢ 10 ∷ u) → blank_len (b ∷ (raw ++ 41 ∷ u)) ≡ 0
    blank b [] e32 e10 h = rw (e32, e10) (at13 (eqb b 13))
      where
        at13 : (v : Bool) → ◌≡◌ {A = ℕ} (cond (v && false) 2 0) 0
        at13 true = refl
        at13 false = refl
    blank b (c ∷ raw) e32 e10 h = rw (e32, e10) (two (eqb b 13) (eqb c 10) refl refl)
      where
        two : (v w : Bool) → eqb b 13 ≡ v → eqb c 10 ≡ w → ◌≡◌ {A = ℕ} (cond (v && w) 2 0) 0
        two true true p q = absurd (h (eqb-true b 13 p) raw (ap (λ (x : ℕ). x ∷ raw) (eqb-true c 10 q)))
        two true false p q = refl
        two false w p q = refl

-- the matcher of a value is what is made of the value
made_again : (how : TextMatching) (unsigned : Bool) (value : List ℕ) (m : Matcher) → Matches how value unsigned m → made (how, unsigned) value ≡ Some m
made_again ways.Equal unsigned value m is = ap Some (sym is)
made_again ways.Contains unsigned value m is = ap Some (sym is)
made_again ways.Glob unsigned value m is = rw (reading_of_glob is.1, is.2) refl

-- and it is no regular expression: nothing stands after it
stands_alone : (how : TextMatching) (unsigned : Bool) (value : List ℕ) (m : Matcher) (behind : List ℕ) → Matches how value unsigned m → BehindMatcher m behind → behind ≡ []
stands_alone ways.Equal unsigned value m more is h = subst (λ (x : Matcher). BehindMatcher x more) is h
stands_alone ways.Contains unsigned value m more is h = subst (λ (x : Matcher). BehindMatcher x more) is h
stands_alone ways.Glob unsigned value m more is h = subst (λ (x : Matcher). BehindMatcher x more) is.2 h

-- after its sign such a text is read
signed_begins : (how : TextMatching) (p : Predicate) (at : ℕ) (t : List ℕ)
    → (blank_len (matching_sign how ∷ t) ≡ 0) × (matcher_at p (position at (matching_sign how ∷ t)) ≡ signed_text ((how, false), position (at + 1) t))
signed_begins ways.Equal p at t = (byte_stop 61 t refl refl, refl)
signed_begins ways.Contains p at t = (byte_stop 126 t refl refl, refl)
signed_begins ways.Glob p at t = (byte_stop 35 t refl refl, refl)

-- a matcher with nothing between it and its closing parenthesis
alone : (p : Predicate) (raw : List ℕ) (m : Matcher) (at : ℕ) (behind u : List ℕ) → behind ≡ [] → MatcherRead p raw m at [] u → MatcherRead p raw m at behind u
alone p raw m at behind u none read = subst (λ (t : List ℕ). MatcherRead p raw m at t u) (sym none) read

matcher_again : {p : Predicate} {raw : List ℕ} {m : Matcher} → MatcherText p raw m → (at : ℕ) (behind u : List ℕ) → BehindMatcher m behind → MatcherRead p raw m at behind u
matcher_again (regex {p} {t} {pattern} body is_body is) at behind u blanks =
    let rest = behind ++ 41 ∷ u in
    let whole : t ++ rest ≡ 47 ∷ (body ++ (47 ∷ rest)) = ap (λ (x : List ℕ). x ++ rest) is ∙ ap (λ (x : List ℕ). 47 ∷ x) (append_assoc body (47 ∷ []) rest) in
    let end : at + 1 + length body + 1 ≡ at + length t = omega (arith, ap length is, length-append body (47 ∷ [])) in
    record { stop = ap blank_len whole ∙ byte_stop 47 (body ++ (47 ∷ rest)) refl refl; read = rw (whole, regex_again (at + 1) body pattern rest is_body, end) refl; blanks = blanks }
matcher_again (signed {p} {raw} {m} how value r some is) at behind u last =
    let b = signed_begins how p at (raw ++ 41 ∷ u) in
    let made_so = made_again how false value m is in
    let end : at + 1 + length raw ≡ at + length (matching_sign how ∷ raw) = omega arith in
    alone p (matching_sign how ∷ raw) m at behind u (stands_alone how false value m behind is last) (record { stop = b.0; read = b.1 ∙ rw (text_read (at + 1) raw value u r some, made_so, end) refl; blanks = no_blank })
matcher_again (implicit {p} {raw} {m} value r some begins is) at behind u last =
    let b = plain_begins p raw at u some begins in
    let made_so = made_again (own_matching p) true value m is in
    alone p raw m at behind u (stands_alone (own_matching p) true value m behind is last) (record { stop = b.0; read = b.1 ∙ rw (text_read at raw value u r some, made_so) refl; blanks = no_blank })

-- ---- arguments

-- a matcher, with the blanks round it
matching_argument : {p : Predicate} {m : Matcher} {before : List ℕ} (at : ℕ) (raw behind u : List ℕ) → Blanks before → MatcherText p raw m → BehindMatcher m behind
    → matching_at p (position at ((before ++ (raw ++ behind)) ++ 41 ∷ u)) ≡ Some (Matching p m (span at (length before + length raw)), position (at + length (before ++ (raw ++ behind)) + 1) u)
matching_argument {p} {m} {before} at raw behind u blanks text last =
    let whole : (before ++ (raw ++ behind)) ++ 41 ∷ u ≡ before ++ (raw ++ (behind ++ 41 ∷ u)) = simp append_assoc in
    let read = matcher_again text (at + length before) behind u last in
    let closed = close_again read.blanks (at + length before + length raw) u in
    let own : between at (at + length before + length raw) ≡ span at (length before + length raw) = span_same at (length before + length raw) (at + length before + length raw) (omega arith) in
    let end : at + length before + length raw + length behind + 1 ≡ at + length (before ++ (raw ++ behind)) + 1 = omega (arith, length-append before (raw ++ behind), length-append raw behind) in
    rw (whole, skip_again blanks at (raw ++ (behind ++ 41 ∷ u)) read.stop, read.read, closed, own, end) refl

-- a platform's name
platform_argument : (q : BuildPlatform) (at : ℕ) (raw value u : List ℕ) → Spelled raw value → Names value q
    → platform_at (position at (raw ++ 41 ∷ u)) ≡ Some (Platform q (span at (length raw)), position (at + length raw + 1) u)
platform_argument q at raw value u spelled names =
    let read = argument_again q at raw value (41 ∷ u) spelled names (closed at_close) in
    let stays = skip_stop (at + length raw) (41 ∷ u) (close_stop u) in
    let own = span_same at (length raw) (at + length raw) refl in
    rw (read.1, stays, read.2, own) refl

-- white space alone
bare_end_again : (at : ℕ) (white u : List ℕ) → WhiteSpace white → bare_end_at (position at (white ++ 41 ∷ u)) ≡ Some (position (at + length white + 1) u)
bare_end_again at white u w =
    let front : take (length white) (white ++ 41 ∷ u) ≡ white = take_at white (41 ∷ u) (length white) refl in
    let rest : drop (length white) (white ++ 41 ∷ u) ≡ 41 ∷ u = drop_at white (41 ∷ u) (length white) refl in
    rw (white_close white u w, front, rest, white_to white w) refl

-- ---- predicates

-- the text of a call, with what stands after it
pub call_text : {name argument t : List ℕ} {at inside : ℕ} (u : List ℕ) (c : Call name argument t at inside) → t ++ u ≡ name ++ (c.blanks ++ (40 ∷ (argument ++ 41 ∷ u)))
call_text u c = ap (λ (x : List ℕ). x ++ u) c.text ∙ simp append_assoc

-- a predicate that is read before what follows it
pub record LeafRead (t : List ℕ) (at : ℕ) (l : Leaf SourceSpan) (u : List ℕ) : Type 0 where
  pub stop : blank_len (t ++ u) ≡ 0
  pub read : (name_at (position at (t ++ u)) >>= λ x. leaf_at x.0 at x.1) ≡ Some (l, position (at + length t) u)

-- a call is read where its name and its argument are
call_again : {name argument t : List ℕ} {at inside : ℕ} (l : Leaf SourceSpan) (u : List ℕ) (f : Position → Option (Leaf SourceSpan × Position)) (c : Call name argument t at inside)
    → ((v : List ℕ) → blank_len (name ++ v) ≡ 0)
    → ((v : List ℕ) → (name_at (position at (name ++ (c.blanks ++ 40 ∷ v))) >>= λ x. leaf_at x.0 at x.1) ≡ (after (codes "(") (skip (position (at + length name) (c.blanks ++ 40 ∷ v))) >>= f))
    → f (position inside (argument ++ 41 ∷ u)) ≡ Some (l, position (inside + length argument + 1) u) → LeafRead t at l u
call_again {name} {argument} {t} {at} {inside} l u f c stop named read =
    let rest = argument ++ 41 ∷ u in
    let whole = call_text u c in
    let opened : after (codes "(") (skip (position (at + length name) (c.blanks ++ 40 ∷ rest))) ≡ Some (position inside rest) = open_again c.are_blanks (at + length name) rest ∙ ap (λ (n : ℕ). Some (position n rest)) (sym c.offset) in
    let end : inside + length argument + 1 ≡ at + length t = omega (arith, call_length _ _ _ _ _ c, c.offset) in
    record {
      stop = ap blank_len whole ∙ stop (c.blanks ++ 40 ∷ rest);
      read = ap (λ (x : List ℕ). name_at (position at x) >>= λ y. leaf_at y.0 at y.1) whole ∙ named rest
          ∙ ap (λ (x : Option Position). x >>= f) opened ∙ read ∙ ap (λ (n : ℕ). Some (l, position n u)) end;
    }

-- after `binary` stands no `_id`
no_id : {b : List ℕ} → Blanks b → (v : List ℕ) → behind (codes "_id") (b ++ 40 ∷ v) ≡ None
no_id no_blank v = refl
no_id (space r) v = refl
no_id (newline r) v = refl
no_id (return_newline r) v = refl

pub name_stop : (p : Predicate) (v : List ℕ) → blank_len (Name p ++ v) ≡ 0
name_stop predicates.Package v = refl
name_stop predicates.Deps v = refl
name_stop predicates.Rdeps v = refl
name_stop predicates.Kind v = refl
name_stop predicates.Binary v = refl
name_stop predicates.BinaryId v = refl
name_stop predicates.Test v = refl
name_stop predicates.Group v = refl

name_again : (p : Predicate) {b : List ℕ} → Blanks b → (at : ℕ) (v : List ℕ)
    → (name_at (position at (Name p ++ (b ++ 40 ∷ v))) >>= λ x. leaf_at x.0 at x.1) ≡ (after (codes "(") (skip (position (at + length (Name p)) (b ++ 40 ∷ v))) >>= λ q. matching_at p q)
name_again predicates.Package r at v = refl
name_again predicates.Deps r at v = refl
name_again predicates.Rdeps r at v = refl
name_again predicates.Kind r at v = refl
name_again predicates.Binary r at v = rw (no_id r v) refl
name_again predicates.BinaryId r at v = refl
name_again predicates.Test r at v = refl
name_again predicates.Group r at v = refl

pub leaf_again : {t : List ℕ} {at : ℕ} {l : Leaf SourceSpan} → LeafText t at l → (u : List ℕ) → LeafRead t at l u
leaf_again (grammar.matching {p} {t} {at} {m} {s} inside before raw behind call blanks text last s_is) u =
    let read = matching_argument inside raw behind u blanks text last in
    let own = ap (λ (x : SourceSpan). Some (Matching p m x, position (inside + length (before ++ (raw ++ behind)) + 1) u)) (sym s_is) in
    call_again _ u (λ q. matching_at p q) call (name_stop p) (λ v. name_again p call.are_blanks at v) (read ∙ own)
leaf_again (grammar.platform {q} {t} {at} {s} inside raw value call spelled names s_is) u =
    let read = platform_argument q inside raw value u spelled names in
    let own = ap (λ (x : SourceSpan). Some (Platform q x, position (inside + length raw + 1) u)) (sym s_is) in
    call_again _ u (λ p. platform_at p) call (λ v. refl) (λ v. refl) (read ∙ own)
leaf_again (grammar.default {t} {at} {s} inside white call w s_is) u =
    let end : at + length t ≡ inside + length white + 1 = omega (arith, call_length _ _ _ _ _ call, call.offset) in
    let own : between at (inside + length white + 1) ≡ s = span_same at (length t) (inside + length white + 1) end ∙ sym s_is in
    call_again _ u (λ p. default_at at p) call (λ v. refl) (λ v. refl) (rw (bare_end_again inside white u w, own) refl)
leaf_again (grammar.all inside white call w) u = call_again _ u (λ p. bare_at tree.All p) call (λ v. refl) (λ v. refl) (rw (bare_end_again inside white u w) refl)
leaf_again (grammar.none inside white call w) u = call_again _ u (λ p. bare_at tree.None p) call (λ v. refl) (λ v. refl) (rw (bare_end_again inside white u w) refl)
