-- What is written when memory runs out.
use Rattle.std.proofs.Common.{◌≡◌, Option, Some, Result, Ok, Err, String, string_bytes, refl, sym, subst, inr}
use Rattle.std.specs.{Option.MatchOption, Result.IfOk}
use Rattle.std.specs.declared.alloc.{AllocError.AllocError, Global.Global}
use Rattle.filterset_display.specs.{Machine.Says, Machine.State, Positions.Text}
use Rattle.filterset_display.specs.Refusals.{AnswersOrRunsOut, Forgets, IsAround, forgotten_data, uri_of}
use Rattle.filterset_display.specs.Written.{Writes}
use Rattle.filterset_display.specs.declared.message.{Incoming.TheVariants.Notification, Notice.Notice}

-- memory ran out for a notification
pub notice-refused : (S : Says) (old mid new : State) (notice : Notice) (uri : Text) (r : Result (String Global) AllocError)
    → uri_of notice ≡ Some uri → IsAround S old (Notification notice) mid → Forgets uri mid new
    → IfOk r (λ w. Writes (Some (forgotten_data uri)) (string_bytes w))
    → IfOk r (λ w. AnswersOrRunsOut S old (Notification notice) (string_bytes w) new)
notice-refused S old mid new notice uri (Err refused) about around forgets written = tt
notice-refused S old mid new notice uri (Ok w) about around forgets written =
    let P : Option Text → Type 0 = λ o. MatchOption o ⊥ (λ u. (Some (forgotten_data uri) ≡ Some (forgotten_data u))
    × ((m : State) × IsAround S old (Notification notice) m × Forgets u m new)) in
    (Some (forgotten_data uri), written, inr (subst P (sym about) (refl, (mid, around, forgets))))
