use Rattle.std.proofs.Common.{[], ◌∷◌, refl}
use Rattle.std.specs.Str.{chars}
use Rattle.filterset_texts.specs.Parts.{Fits, FitsSome}
use Rattle.filterset_texts.proofs.{Cuts.together_then, Sequences.some_of_one, Spelling.IsText, Spelling.spelled_alone}
use Rattle.filterset_texts.proofs.texts.expand_equal.Goals as goal

pub returns-clause-matched : goal.returns-clause-matched
returns-clause-matched c =
    let sequence = c.append_text.new.sequence in
    let own = chars c.args.value.now in
    let alone = spelled_alone sequence.items own (rw c.new-sequence.ensures.items at c.in_ok-append_text.ensures) in
    rw c.in_ok-vec.ensures.items
    (together_then (FitsSome (sequence ∷ [])) (Fits sequence.items) (IsText own) (some_of_one sequence sequence.items refl) alone)
