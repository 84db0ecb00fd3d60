-- The sequences of each kind of matcher.
use Rattle.std.proofs.Common.{◌≡◌, ◌-◌, ◌^◌, ◌≤◌, ℕ, Bool, IsUtf8, List, arith, length, min, rules}
use Rattle.std.specs.{Prelude.chars, Str.Iter.HasSubslice, declared.vec.Vec.Vec, declared.alloc.Global.Global}
use Rattle.filterset_glob.specs.{Matching.Matches, Tokens.Tokens}
use Rattle.filterset_matchers.specs.Matcher as matcher
use Rattle.filterset_texts.specs.{Cuts.HoldTogether, Expanding.AreSequencesOf, Expanding.sequence_count, Parts.FitsSome}
use Rattle.filterset_texts.specs.declared.part.Part.{Part}
use Rattle.filterset_texts.proofs.Spelling.{contains_by_chars, equal_by_chars}

pub equal_made : (sequences : List (Vec Part Global)) (value : List ℕ) (implicit : Bool) (limit : ℕ) → IsUtf8 value
    → HoldTogether (FitsSome sequences) (λ text. text ≡ chars value) → length sequences ≡ 1 → min 1 (2 ^ 64 - 1) ≤ limit
    → AreSequencesOf (matcher.Equal value implicit) limit sequences
equal_made sequences value implicit limit own are one few = record {
  matched = λ text spelled.
      let same = equal_by_chars text value spelled own in
      (λ f. same.0 ((are (chars text)).0 f), λ is. (are (chars text)).1 (same.1 is));
  few = omega (arith, one, few);
  no_pattern = λ not. not;
}

pub contains_made : (sequences : List (Vec Part Global)) (value : List ℕ) (implicit : Bool) (limit : ℕ) → IsUtf8 value
    → HoldTogether (FitsSome sequences) (λ text. HasSubslice text (chars value)) → length sequences ≡ 1 → min 1 (2 ^ 64 - 1) ≤ limit
    → AreSequencesOf (matcher.Contains value implicit) limit sequences
contains_made sequences value implicit limit own are one few = record {
  matched = λ text spelled.
      let same = contains_by_chars text value spelled own in
      (λ f. same.0 ((are (chars text)).0 f), λ is. (are (chars text)).1 (same.1 is));
  few = omega (arith, one, few);
  no_pattern = λ not. not;
}

-- a `Vec` has fewer elements than the greatest `usize`
pub glob_made : (sequences : Vec (Vec Part Global) Global) (own : List ℕ) (tokens : Tokens) (implicit : Bool) (limit : ℕ)
    → HoldTogether (FitsSome sequences.items) (Matches tokens) → length sequences.items ≤ sequence_count tokens → min (sequence_count tokens) (2 ^ 64 - 1) ≤ limit
    → AreSequencesOf (matcher.Glob own tokens implicit) limit sequences.items
glob_made sequences own tokens implicit limit are many few = search (rules, arith)
