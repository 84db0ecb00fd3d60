-- What the readers of matchers and of predicates give.
use Rattle.std.proofs.Common.{◌≡◌, ℕ, ◌+◌, ◌-◌, ◌≤◌, List, [], ◌∷◌, length, take, Bool, true, false, Option, Some, None, Result, Ok, Err, refl, sym, ap, subst, arith, ⊎_elim}
use Rattle.std.specs.{Prelude.codes, Prelude.chars, Option.option_map}
use Rattle.std.proofs.lemmas.{Bool.cases_lt, List.Elements.All-append}
use Rattle.filterset_glob.specs.{Tokens.Tokens, Reading.reading, declared.fault.GlobConstructError.GlobConstructError}
use Rattle.filterset_graph.specs.declared.package.BuildPlatform.{BuildPlatform}
use Rattle.filterset_faults.specs.declared.error.ParseSingleError.{ParseSingleError}
use Rattle.filterset_faults.specs.declared.error.ParseSingleError.TheVariants.{InvalidRegexWithoutMessage, InvalidPlatformArgument}
use Rattle.filterset_faults.specs.{Span.span, declared.span.SourceSpan.SourceSpan}
use Rattle.filterset_language.specs.declared.parsing.names.PredicateName.{PredicateName}
use Rattle.filterset_language.specs.Parsing.Position.{Position, position_of, skip, after}
use Rattle.filterset_language.specs.{Faults.EndsWith, Parsed.LiesOnBody}
use Rattle.filterset_language.specs.Parsing.RawTexts.{raw_at, body_at, SpelledTo, BodyTaken}
use Rattle.filterset_language.specs.Parsing.{PlatformNames.platform_in, Globs.glob_by}
use Rattle.filterset_language.specs.Parsing.Descent.{◌>>=◌, made, sign_at, signed_text, text_matcher_at, regex_at, matcher_at, between, matching_at, platform_at, bare_end_at, bare_at, default_at, argument_at, leaf_at}
use Rattle.filterset_language.specs.Parsing.Recovery.{Recovers, Found, Keeps, beside}
use Rattle.filterset_language.specs.Parsing.Outcome.{Faults, Carried, comes, refused, reads, fails, MakesPattern, LiesOnPattern, GivesMatcher, GivesLeaf, GivesTree}
use Rattle.filterset_language.specs.declared.parsing.input.Input.{Input}
use Rattle.filterset_language.proofs.BodyReading.{body_piece, regex_takes, refused_body_found}
use Rattle.filterset_language.proofs.Recovering.{bind_some, bind_none, recovers_then, recovers_none, recovers_along}
use Rattle.filterset_language.proofs.Outcomes.{carried_grows, gives_of, gives_then, gives_map, gives_pair}
use Rattle.filterset_language.proofs.PlatformArguments.{with_blanks, platform_refused}
use Rattle.filterset_language.proofs.StepsTakeText.{bind_is, is_some, skip_takes}
use Rattle.filterset_matchers.specs.Matcher.{Matcher, Equal, Contains, Glob, Regex}
use Rattle.filterset_matchers.specs.Pattern.{MayBeRejected}
use Rattle.filterset_grammar.specs.Patterns.{MatcherIsRead, LeafIsRead, PatternsAreRead}
use Rattle.filterset_grammar.specs.{Platforms.Names, Tree.Leaf, Tree.Matching, Tree.Platform, Tree.Default, Tree.Set}
use Rattle.filterset_grammar.specs.declared.predicate.{Predicate.Predicate, TextMatching.TextMatching}
use Rattle.filterset_grammar.specs.declared.predicate.TextMatching.TheVariants as ways

-- ---- regular expressions

-- the pattern of a body, built or refused
pub regex_gives : (i : Input) (f g : Faults) (pattern : List ℕ) (at : SourceSpan) (q : Position) (v : Option Matcher) → body_at (position_of i) ≡ Some ((pattern, at), q) → MakesPattern at f g v (Regex pattern) → GivesMatcher i.text.now f g v q (regex_at (position_of i))
regex_gives i f g pattern at q v is made = reads (Regex pattern) (lies made) (bind_some (body_at (position_of i)) ((pattern, at), q) _ is)
  where
    taken : BodyTaken (position_of i) pattern at q
    taken = regex_takes (position_of i) pattern at q is

    ends : q.at ≡ at.offset + at.len + 1
    ends =
        let offset : at.offset ≡ i.offset = ap (λ (s : SourceSpan). s.offset) taken.span_is in
        let len : at.len ≡ length taken.body = ap (λ (s : SourceSpan). s.len) taken.span_is in
        omega (arith, taken.offset)

    lies : MakesPattern at f g v (Regex pattern) → Carried MatcherIsRead (LiesOnPattern i.text.now q.at) f g v (Regex pattern)
    lies (comes same is read) = comes same is read
    lies (refused added same some each none) =
        refused added same some (λ k d lt. record { at = at; is = (each k d lt).0; pattern = pattern; is_regex = refl; rejected = (each k d lt).1; body = body_piece i pattern at q taken; ends = ends }) none

-- the faults of a refused pattern stand
pub regex_keeps : (i : Input) (f g : Faults) (pattern : List ℕ) (at : SourceSpan) (q : Position) (v : Option Matcher) → EndsWith (take i.offset i.text.now) (47 ∷ []) → body_at (position_of i) ≡ Some ((pattern, at), q)
    → MakesPattern at f g v (Regex pattern) → Keeps i.text.now f g
regex_keeps i f g pattern at q v slash is (comes same value read) = subst (λ (x : Faults). Keeps i.text.now f x) (sym same) (λ old. old)
regex_keeps i f g pattern at q v slash is (refused added same some each none) = λ old.
    let one = refused_body_found i pattern at q slash (regex_takes (position_of i) pattern at q is) in
    record { each = rw same (All-append (Found i.text.now) f added old.each (λ k d lt. subst (Found i.text.now) (sym (each k d lt).0) (one (each k d lt).1))) }

-- ---- texts

-- no text is by a pattern
pub made_is_read : (s : TextMatching × Bool) (value : List ℕ) (m : Matcher) → made s value ≡ Some m → MatcherIsRead m
made_is_read (ways.Equal, implicit) value m e = subst MatcherIsRead (is_some (Equal value implicit) m e) tt
made_is_read (ways.Contains, implicit) value m e = subst MatcherIsRead (is_some (Contains value implicit) m e) tt
made_is_read (ways.Glob, implicit) value m e = glob_is_read (reading (chars value)) e
  where
    glob_is_read : (r : Result Tokens GlobConstructError) → glob_by r value implicit ≡ Some m → MatcherIsRead m
    glob_is_read (Ok tokens) e = subst MatcherIsRead (is_some (Glob value tokens implicit) m e) tt
    glob_is_read (Err fault) e = absurd cc

text_is_read : (predicate : Predicate) (p : Position) (q : Position) (m : Matcher) → text_matcher_at predicate p ≡ Some (m, q) → MatcherIsRead m
text_is_read predicate p q m e =
    let s = sign_at predicate p in
    let a = bind_is (raw_at s.1) (λ x. made s.0 x.0 >>= λ y. Some (y, x.1)) (m, q) e in
    let b = bind_is (made s.0 a.0.0) (λ y. Some (y, a.0.1)) (m, q) a.2 in
    let same : b.0 ≡ m = ap (λ (x : Matcher × Position). x.0) (is_some (b.0, a.0.1) (m, q) b.2) in
    subst MatcherIsRead same (made_is_read s.0 a.0.0 b.0 b.1)

text_gives : (text : List ℕ) (predicate : Predicate) (p s q : Position) (sign : TextMatching × Bool) (f g : Faults) (v : Option Matcher) → None ≡ after (codes "/") p → (sign, s) ≡ sign_at predicate p
    → Recovers f g (beside q v) (signed_text (sign, s)) → GivesMatcher text f g v q (matcher_at predicate p)
text_gives text predicate p s q sign f g v no_slash is a =
    let signed : (TextMatching × Bool) × Position = (sign, s) in
    let read = subst (λ (x : (TextMatching × Bool) × Position). Recovers f g (beside q v) (signed_text x)) is a in
    rw (← no_slash) (gives_of MatcherIsRead (LiesOnPattern text q.at) f g v q (text_matcher_at predicate p) read (λ m e. text_is_read predicate p q m e))

-- a value is made after a text that was read
pub text_read : (text : List ℕ) (predicate : Predicate) (p s q : Position) (sign : TextMatching × Bool) (f g h : Faults) (value : List ℕ) (v : Option Matcher) → None ≡ after (codes "/") p → (sign, s) ≡ sign_at predicate p
    → Recovers f g (Some (value, q)) (raw_at s) → Recovers g h v (made sign value) → GivesMatcher text f h v q (matcher_at predicate p)
text_read text predicate p s q sign f g h value v no_slash is a b =
    text_gives text predicate p s q sign f h v no_slash is (recovers_then f g h (value, q) (beside q v) (raw_at s) (λ x. made sign x.0 >>= λ m. Some (m, x.1)) a (recovers_beside v (made sign value) b))
  where
    recovers_beside : (v r : Option Matcher) → Recovers g h v r → Recovers g h (beside q v) (r >>= λ m. Some (m, q))
    recovers_beside None r b = recovers_none g h h r _ b (omega arith)
    recovers_beside (Some m) r b = record {
      grows = b.grows;
      clean = λ same. let e = b.clean same in (e.0, bind_some r m _ e.1, refl);
      fault = λ more. bind_none r _ (b.fault more);
    }

-- ---- predicates

-- the body of a matcher is one of the predicate
matching_lies : (text : List ℕ) (predicate : Predicate) (m : Matcher) (p q : Position) (x : ParseSingleError) → p.at ≤ q.at → LiesOnPattern text q.at m x → LiesOnBody text (Set (Matching predicate m (between p.at q.at))) x
matching_lies text predicate m p q x le lies = record {
  at = lies.at;
  is = lies.is;
  predicate = predicate;
  pattern = lies.pattern;
  argument = between p.at q.at;
  is_leaf = (0, omega arith, ap (λ (y : Matcher). Matching predicate y (between p.at q.at)) lies.is_regex);
  rejected = lies.rejected;
  body = lies.body;
  end = let ends = lies.ends in omega arith;
}

pub matching_gives : (t text : List ℕ) (predicate : Predicate) (p s q u : Position) (f g h : Faults) (v : Option Matcher) → t ≡ text → s ≡ skip p → p.at ≤ q.at → GivesMatcher t f g v q (matcher_at predicate s)
    → Recovers g h (Some u) (after (codes ")") (skip q)) → GivesLeaf text f h (option_map (λ m. Matching predicate m (between p.at q.at)) v) u (matching_at predicate p)
matching_gives t text predicate p s q u f g h v same skipped le a b =
    let make : Matcher → Position → Leaf SourceSpan = λ m w. Matching predicate m (between p.at w.at) in
    let read : GivesMatcher text f g v q (matcher_at predicate (skip p)) = subst (λ (x : List ℕ). GivesMatcher x f g v q (matcher_at predicate (skip p))) same (subst (λ (x : Position). GivesMatcher t f g v q (matcher_at predicate x)) skipped a) in
    gives_pair MatcherIsRead (LiesOnPattern text q.at) LeafIsRead (λ l. LiesOnBody text (Set l)) make q (λ m fine. fine) (λ m x lies. matching_lies text predicate m p q x le lies) f g h v u (matcher_at predicate (skip p)) (λ w. after (codes ")") (skip w)) read b

-- a platform that was read and named
pub platform_recovers : (p s q u : Position) (f g h : Faults) (value : List ℕ) (platform : BuildPlatform) → s ≡ skip p → Recovers f g (Some (value, q)) (raw_at s) → Recovers g h (Some u) (after (codes ")") (skip q)) → Some platform ≡ platform_in value
    → Recovers f h (Some (Platform platform (between p.at q.at), u)) (platform_at p)
platform_recovers p s q u f g h value platform skipped a b names =
    let read = subst (λ (x : Position). Recovers f g (Some (value, q)) (raw_at x)) skipped a in
    let leaf : Leaf SourceSpan = Platform platform (between p.at q.at) in
    let named : (platform_in value >>= λ y. Some (Platform y (between p.at q.at), u)) ≡ Some (leaf, u) = rw (← names) refl in
    recovers_then f g h (value, q) (Some (leaf, u)) (raw_at (skip p)) (λ x. after (codes ")") (skip x.1) >>= λ r. platform_in x.0 >>= λ y. Some (Platform y (between p.at x.1.at), r)) read
    (recovers_then g h h u (Some (leaf, u)) (after (codes ")") (skip q)) (λ r. platform_in value >>= λ y. Some (Platform y (between p.at q.at), r)) b (recovers_along h h (leaf, u) _ refl named))

-- the predicates that hold no pattern
pub platform_is_read : (p q : Position) (l : Leaf SourceSpan) → platform_at p ≡ Some (l, q) → LeafIsRead l
platform_is_read p q l e =
    let a = bind_is (raw_at (skip p)) (λ x. after (codes ")") (skip x.1) >>= λ r. platform_in x.0 >>= λ y. Some (Platform y (between p.at x.1.at), r)) (l, q) e in
    let b = bind_is (after (codes ")") (skip a.0.1)) (λ r. platform_in a.0.0 >>= λ y. Some (Platform y (between p.at a.0.1.at), r)) (l, q) a.2 in
    let c = bind_is (platform_in a.0.0) (λ y. Some (Platform y (between p.at a.0.1.at), b.0)) (l, q) b.2 in
    subst LeafIsRead (ap (λ (x : Leaf SourceSpan × Position). x.0) (is_some (Platform c.0 (between p.at a.0.1.at), b.0) (l, q) c.2)) tt

pub default_is_read : (start : ℕ) (p q : Position) (l : Leaf SourceSpan) → default_at start p ≡ Some (l, q) → LeafIsRead l
default_is_read start p q l e =
    let a = bind_is (bare_end_at p) (λ r. Some (Default (between start r.at), r)) (l, q) e in
    subst LeafIsRead (ap (λ (x : Leaf SourceSpan × Position). x.0) (is_some (Default (between start a.0.at), a.0) (l, q) a.2)) tt

pub bare_is_read : (d : Leaf SourceSpan) (p q : Position) (l : Leaf SourceSpan) → LeafIsRead d → bare_at d p ≡ Some (l, q) → LeafIsRead l
bare_is_read d p q l fine e =
    let a = bind_is (bare_end_at p) (λ r. Some (d, r)) (l, q) e in
    subst LeafIsRead (ap (λ (x : Leaf SourceSpan × Position). x.0) (is_some (d, a.0) (l, q) a.2)) fine

-- the fault of an argument that names no platform
pub platform_found : (i s e : Input) (value : List ℕ) → position_of s ≡ skip (position_of i) → SpelledTo (position_of s) value (position_of e) → ((platform : BuildPlatform) → Names value platform → ⊥) → Found i.text.now (InvalidPlatformArgument (span i.offset (e.offset - i.offset)))
platform_found i s e value skipped spelled never =
    let k = skip_takes i.rest.now i.offset in
    let read = subst (λ (x : Position). SpelledTo x value (position_of e)) skipped spelled in
    platform_refused i e value k.are (with_blanks (position_of i) (skip (position_of i)) (position_of e) value k.are k.takes read) never

-- what stands after the opening parenthesis of a predicate
pub leaf_gives : (t text : List ℕ) (name : PredicateName) (start : ℕ) (p q u : Position) (f g h : Faults) (v : Option (Leaf SourceSpan)) → t ≡ text → Recovers f g (Some u) (after (codes "(") (skip p)) → GivesLeaf t g h v q (argument_at name start u)
    → GivesLeaf text f h v q (leaf_at name start p)
leaf_gives t text name start p q u f g h v same a b =
    let read = subst (λ (x : List ℕ). GivesLeaf x g h v q (argument_at name start u)) same b in
    gives_then LeafIsRead (λ l. LiesOnBody text (Set l)) f g h u v q (after (codes "(") (skip p)) (argument_at name start) a read

-- the arguments that hold no pattern
pub platform_gives : (t : List ℕ) (p q : Position) (f g : Faults) (v : Option (Leaf SourceSpan)) → Recovers f g (beside q v) (platform_at p) → GivesLeaf t f g v q (platform_at p)
platform_gives t p q f g v a = gives_of LeafIsRead (λ l. LiesOnBody t (Set l)) f g v q (platform_at p) a (λ l e. platform_is_read p q l e)

pub default_gives : (t : List ℕ) (start : ℕ) (p q : Position) (f g : Faults) (v : Option (Leaf SourceSpan)) → Recovers f g (beside q v) (default_at start p) → GivesLeaf t f g v q (default_at start p)
default_gives t start p q f g v a = gives_of LeafIsRead (λ l. LiesOnBody t (Set l)) f g v q (default_at start p) a (λ l e. default_is_read start p q l e)

pub bare_gives : (t : List ℕ) (d : Leaf SourceSpan) (p q : Position) (f g : Faults) (v : Option (Leaf SourceSpan)) → LeafIsRead d → Recovers f g (beside q v) (bare_at d p) → GivesLeaf t f g v q (bare_at d p)
bare_gives t d p q f g v fine a = gives_of LeafIsRead (λ l. LiesOnBody t (Set l)) f g v q (bare_at d p) a (λ l e. bare_is_read d p q l fine e)

-- a predicate as an expression
pub set_gives : (text : List ℕ) (f g : Faults) (v : Option (Leaf SourceSpan)) (q : Position) (r : Option (Leaf SourceSpan × Position)) → GivesLeaf text f g v q r → GivesTree text f g (option_map (λ l. Set l) v) q (r >>= λ l. Some (Set l.0, l.1))
set_gives text f g v q r a = gives_map LeafIsRead (λ l. LiesOnBody text (Set l)) PatternsAreRead (LiesOnBody text) (λ l. Set l) (λ l fine. fine) (λ l x lies. lies) f g v q r a
