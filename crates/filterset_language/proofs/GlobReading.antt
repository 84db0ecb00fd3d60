-- Reading the text of a glob: what is read, and that a fault of it stands.
use Rattle.std.proofs.Common.{◌≡◌, ℕ, ◌-◌, List, length, Bool, Some, None, Result, Ok, Err, refl, ap, subst, arith, length-append}
use Rattle.std.specs.Prelude.{chars}
use Rattle.filterset_glob.proofs.{ReadIsSpelled.glob_of_reading, SpelledIsRead.reading_of_glob}
use Rattle.filterset_glob.specs.{Faults.FaultStands, Faults.IfFault, Grammar.GlobText, Reading.reading, Tokens.Tokens}
use Rattle.filterset_glob.specs.declared.fault.GlobConstructError.{GlobConstructError}
use Rattle.filterset_glob.specs.declared.fault.GlobRefusal.{GlobRefusal, TheVariants.Fault}
use Rattle.filterset_faults.specs.{Span.span, declared.error.ParseSingleError.TheVariants.InvalidGlob}
use Rattle.filterset_language.specs.Parsing.{Position.position_of, RawTexts.SpelledTo, Globs.glob_by, Globs.glob_in}
use Rattle.filterset_language.specs.{Parsing.Recovery.Found, declared.parsing.input.Input.Input}
use Rattle.filterset_language.proofs.RawTextFaults.{piece_found}
use Rattle.filterset_language.proofs.PlatformArguments.{spelled_takes, piece_spelled}
use Rattle.filterset_matchers.specs.Matcher.{Glob}

-- a glob is read
pub glob_read : (value : List ℕ) (tokens : Tokens) (implicit : Bool) → GlobText (chars value) tokens → glob_in value implicit ≡ Some (Glob value tokens implicit)
glob_read value tokens implicit is = rw (reading_of_glob is) refl

-- what is no glob is not
pub glob_unread : (value : List ℕ) (implicit : Bool) → ((tokens : Tokens) → ¬ GlobText (chars value) tokens) → glob_in value implicit ≡ None
glob_unread value implicit never = from (reading (chars value)) refl
  where
    from : (r : Result Tokens GlobConstructError) → reading (chars value) ≡ r → glob_by r value implicit ≡ None
    from (Ok tokens) e = absurd (never tokens (glob_of_reading (chars value) tokens e))
    from (Err fault) e = refl

-- what a refusal says of its fault
pub of_fault : (r : GlobRefusal) (error : GlobConstructError) (P : GlobConstructError → Type 0) → r ≡ Fault error → IfFault r P → P error
of_fault r error P is holds = subst (λ (x : GlobRefusal). IfFault x P) is holds

-- the fault of a text that is no glob
pub glob_found : (i e : Input) (value : List ℕ) (error : GlobConstructError) → SpelledTo (position_of i) value (position_of e) → ((tokens : Tokens) → ¬ GlobText (chars value) tokens) → FaultStands (chars value) error
    → Found i.text.now (InvalidGlob (span i.offset (e.offset - i.offset)) error)
glob_found i e value error s never stands =
    piece_found i e s.raw (InvalidGlob (span i.offset (e.offset - i.offset)) error) refl refl (spelled_takes s) (λ h. h) (value, piece_spelled i e value s, (λ tokens is. never tokens is), stands)
