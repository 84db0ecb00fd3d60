-- From what `regex` promises to what a pattern's text alone says.
use Rattle.std.proofs.Common.{◌≡◌, ◌≢◌, ℕ, ◌<◌, List, length, All, Option, Some, None, true, false, Bool, IsTrue, IsSome, IsSomeAnd, IfSome, IfErr, IsErrAnd, Result, Ok, Err, is_some, ⊎_elim, cond, get_or, refl, sym, ap, ◌∙◌, subst, arith, ◌↔◌}
use Rattle.std.proofs.lemmas.{List.get_or_default, Option.same_Some}
use Rattle.std.specs.Str.{chars}
use Rattle.regex_hir.proofs.{AttemptLemmas.attempt_sound, FindLemmas.IsFirst-of_first_between}
use Rattle.regex_hir.proofs.OptionLemmas.{value_of_IsSome}
use Rattle.regex_hir.specs.{Meaning.meaning, Re.Trace, Re.accept, Re.attempt, Text.is_boundary, declared.hir.Hir.Hir}
use Rattle.regex_syntax.specs.{Captures.SameCaptures, Grammar.Names, Grammar.read, Verdict.Refuses}
use Rattle.regex_syntax.specs.declared.error.ErrorKind.{ErrorKind}
use Rattle.regex_syntax.proofs.{CapturesLemmas.spans, CapturesLemmas.find_str_alike, Written.is_some-option_map}
use Rattle.regex_syntax.specs.declared.error.Error as parser
use Rattle.regex_syntax.specs.declared.error.ErrorKind.TheVariants as kinds
use Rattle.regex.specs.declared.error.Error.{Error}
use Rattle.regex.specs.declared.error.Error.TheVariants.{Syntax, CompiledTooBig, OutOfMemory}
use Rattle.regex.specs.{Failures.IsOfParser, Failures.IsRightKind, Sources.IsRefusal}
use Rattle.regex.specs.Patterns.{Matches, Re, find_str, Reads, default_config}
use Rattle.regex.specs.{Strings.regex_pattern, declared.string.regex.Regex.Regex}
use Rattle.regex.proofs.{ForCallers.find_str_sound, ForCallers.find_str_complete, Utf8Lemmas.IsCharBoundary-of_test}
use Rattle.filterset_matchers.specs.Compiled.{IsReadAs}
use Rattle.filterset_matchers.specs.Pattern.{IsPattern, MatchesSomewhere, HasMatch, IsBuiltOf, IsErrorFor, IsSearchedFor}
use Rattle.filterset_matchers.specs.declared.matcher.pattern.Searched.{Searched}
use Rattle.filterset_matchers.specs.declared.matcher.pattern.Searched.TheVariants as searched

pub IsSomeAnd-map : {A : Type 0} {P Q : A → Type 0} (o : Option A) → IsSomeAnd o P → ((x : A) → P x → Q x) → IsSomeAnd o Q
IsSomeAnd-map None h f = absurd h
IsSomeAnd-map (Some x) h f = f x h

pub IsSomeAnd-both : {A R : Type 0} {P Q : A → Type 0} (o : Option A) → IsSomeAnd o P → IsSomeAnd o Q → ((x : A) → P x → Q x → R) → R
IsSomeAnd-both None h k f = absurd h
IsSomeAnd-both (Some x) h k f = f x h k

pub IsPattern-of_built : (pattern : List ℕ) (regex : Regex) → IsBuiltOf pattern regex → IsPattern pattern
unfolding Reads
IsPattern-of_built pattern regex built =
    let h = rw (built.source, built.options) at built.read in IsSomeAnd-map (read default_config (chars pattern)) h (λ x reading. reading.0)

cond_true : {A : Type 0} (b : Bool) (o : Option A) (x : A) → cond b o None ≡ Some x → b ≡ true
cond_true true o x e = refl
cond_true false o x e = cc

pub Matches-of_attempt : (re : Re) (input : List ℕ) (i : ℕ) (t : Trace) → attempt input re accept i ≡ Some t → Matches input re i t.end
Matches-of_attempt re input i t e =
    let c = attempt_sound input re accept i t e in
    subst (Matches input re i) (ap (λ (u : Trace). u.end) (same_Some _ _ c.gave) ∙ sym c.same_end) c.leads

-- a search finds something exactly where the expression matches somewhere
pub found_exactly : (re : Re) (text : List ℕ) → IsSome (find_str re text 0) ↔ MatchesSomewhere re text
unfolding find_str
found_exactly re text = (
  λ found.
      let m = value_of_IsSome (find_str re text 0) found in
      let sound = find_str_sound re text 0 m.0 m.1 in
      let first = IsFirst-of_first_between _ 0 (length text) m.0 m.1 in
      let test = cond_true (is_boundary text m.0.start) _ m.0.trace first.here in
      (m.0.start, m.0.trace.end, IsCharBoundary-of_test text m.0.start first.to test, sound.1),
  λ somewhere. find_str_complete re text 0 somewhere.0 somewhere.1 (omega arith) somewhere.2 somewhere.3,
)

pub are_bytes : (text : List ℕ) → ((k : ℕ) → get_or text k 0 < 256) → All (λ x. x < 256) text
are_bytes text bytes = λ k d h. rw (get_or_default text k d 0 h) (bytes k)

-- two expressions that match alike are found in the same texts
pub found_alike : (a b : Re) → SameCaptures a b → (text : List ℕ) → ((k : ℕ) → get_or text k 0 < 256) →
    is_some (find_str a text 0) ≡ is_some (find_str b text 0)
found_alike a b same text bytes =
    let small = are_bytes text bytes in
    sym (is_some-option_map spans (find_str a text 0)) ∙ ap is_some (find_str_alike a b same text small 0)
    ∙ is_some-option_map spans (find_str b text 0)

-- the built pattern is found exactly where its text has a match
pub HasMatch-of_built : (pattern : List ℕ) (regex : Regex) → IsBuiltOf pattern regex → (text : List ℕ) → ((k : ℕ) → get_or text k 0 < 256) →
    IsTrue (is_some (find_str (regex_pattern regex) text 0)) ↔ HasMatch pattern text
unfolding Reads
HasMatch-of_built pattern regex built text bytes =
    let reading = rw (built.source, built.options) at built.read in
    let o = read default_config (chars pattern) in (
      λ found. IsSomeAnd-map o reading (λ x h. (found_exactly x.0.value text).0 (rw (sym (found_alike _ x.0.value h.1 text bytes)) found)),
      λ has. IsSomeAnd-both o reading has (λ x h somewhere. rw (found_alike _ x.0.value h.1 text bytes) ((found_exactly x.0.value text).1 somewhere)),
    )

-- ---- a pattern that is read as a tree

pub IsPattern-of_tree : (pattern : List ℕ) (tree : Hir) → IsReadAs pattern tree → IsPattern pattern
IsPattern-of_tree pattern tree reading = IsSomeAnd-map (read default_config (chars pattern)) reading.same (λ x h. h.0)

pub HasMatch-of_tree : (pattern : List ℕ) (tree : Hir) → IsReadAs pattern tree → (text : List ℕ) → ((k : ℕ) → get_or text k 0 < 256) →
    HasMatch pattern text ↔ MatchesSomewhere (meaning tree) text
HasMatch-of_tree pattern tree reading text bytes =
    let o = read default_config (chars pattern) in
    let re = meaning tree in (
      λ has. IsSomeAnd-both o reading.same has (λ x h somewhere.
          (found_exactly re text).0 (rw (found_alike re x.0.value h.1 text bytes) ((found_exactly x.0.value text).1 somewhere))),
      λ somewhere. IsSomeAnd-map o reading.same (λ x h. (found_exactly x.0.value text).0
          (rw (sym (found_alike re x.0.value h.1 text bytes)) ((found_exactly re text).1 somewhere))),
    )

-- the grammar reads a pattern that is searched for
pub IsPattern-of_searched : (pattern : List ℕ) (s : Searched) → IsSearchedFor pattern s → IsPattern pattern
IsPattern-of_searched pattern (searched.Texts texts) choice = choice.read
IsPattern-of_searched pattern (searched.Compiled compiled) is = IsPattern-of_tree pattern is.tree is.read
IsPattern-of_searched pattern (searched.Regex regex) built = IsPattern-of_built pattern regex.value built

-- ---- a text that is no pattern, or too large

no_depth : {A : Type 0} {P Q : A → Type 0} (o : Option A) → IsSomeAnd o P → IfSome o Q → ((x : A) → P x → Q x → ⊥) → ⊥
no_depth None within beyond apart = within
no_depth (Some x) within beyond apart = apart x within beyond

-- what the parser refuses for another cause than memory, the grammar does not read
pub unread : (pattern : List ℕ) (kind : ErrorKind) → Refuses default_config pattern kind → kind ≢ kinds.OutOfMemory → ¬ IsPattern pattern
unfolding Refuses
unread pattern kind refuses not_memory =
    ⊎_elim
    (λ memory. absurd (not_memory memory))
    (⊎_elim
    (λ (none : read default_config (chars pattern) ≡ None). λ reads. rw none at reads)
    (λ (is, deep). λ reads. no_depth (read default_config (chars pattern)) reads deep (λ x within beyond. omega (arith, within, beyond))))
    refuses

-- what the grammar reads as a tree is a pattern
pub IsPattern-of_reads : (pattern : List ℕ) (tree : Hir) (names : Names) → Reads default_config pattern tree names → IsPattern pattern
unfolding Reads
IsPattern-of_reads pattern tree names reads = IsSomeAnd-map (read default_config (chars pattern)) reads (λ x h. h.0)

-- the errors of `Regex::new`
pub IsErrorFor-of_built : (pattern : List ℕ) (error : Error) → IsRefusal default_config pattern error → IsRightKind default_config pattern error → IsErrorFor pattern error
IsErrorFor-of_built pattern error refusal right = record {
  syntax = λ e is. unread pattern e.kind (refusal e is) (subst (IsRightKind default_config pattern) is right);
  size = λ is. let (tree, names, reads) = subst (IsRightKind default_config pattern) is right in IsPattern-of_reads pattern tree names reads;
}

-- the errors of the parser
pub IsErrorFor-of_parser : (pattern : List ℕ) (given : parser.Error) (error : Error) → Refuses default_config pattern given.kind → IsOfParser given error → IsErrorFor pattern error
IsErrorFor-of_parser pattern given error refuses of = record {
  syntax = λ e is. unread pattern given.kind refuses (λ memory. absurd (let both : Syntax e ≡ OutOfMemory = sym is ∙ of.0 memory in cc));
  size = λ is.
      let not_memory : given.kind ≢ kinds.OutOfMemory = λ memory. absurd (let both : CompiledTooBig ≡ OutOfMemory = sym is ∙ of.0 memory in cc) in
      absurd (let both : CompiledTooBig ≡ Syntax given = sym is ∙ of.1 not_memory in cc);
}

-- the error of a text with too many groups
pub IsErrorFor-of_groups : (pattern : List ℕ) → IsPattern pattern → IsErrorFor pattern CompiledTooBig
IsErrorFor-of_groups pattern reads = record { syntax = λ e is. absurd cc; size = λ is. reads }

-- an error that a `?` hands on
pub handed_on : {T E : Type 0} (r : Result T E) (e : E) (P : E → Type 0) → IsErrAnd r (λ y. y ≡ e) → P e → IfErr r P
handed_on (Ok x) e P is h = tt
handed_on (Err y) e P is h = subst P (sym is) h
