use Rattle.std.proofs.Common.{[], ◌∷◌, ◌++◌}
use Rattle.std.specs.Str.{Iter.HasSubslice, chars}
use Rattle.filterset_texts.specs.declared.part.Part.TheVariants as part
use Rattle.filterset_texts.specs.Parts.{Fits, FitsSome}
use Rattle.filterset_texts.proofs.{Cuts.together_then, Sequences.some_of_one, Spelling.spelled_within}
use Rattle.filterset_texts.proofs.texts.expand_contains.Goals as goal

pub returns-clause-matched : goal.returns-clause-matched
returns-clause-matched c =
    let sequence = c.append_text.new.sequence in
    let whole = c.push.new.self in
    let own = chars c.args.value.now in
    let parts = sequence.items ++ part.Any ∷ [] in
    let within = spelled_within sequence.items own (rw c.in_ok-sequence.ensures.items at c.in_ok-append_text.ensures) in
    rw c.in_ok-vec.ensures.items
    (together_then (FitsSome (whole ∷ [])) (Fits parts) (λ text. HasSubslice text own) (some_of_one whole parts c.in_ok-push.ensures.items) within)
