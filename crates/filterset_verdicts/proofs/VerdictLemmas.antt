-- What is known of a result by several clauses.
use Rattle.std.proofs.Common.{Err, IfOk, Ok, Option, Result, Some, None}
use Rattle.std.specs.Prelude.{IfNone, IfSome, MatchOption}

-- what follows from two clauses
pub both_ok : {A E : Type 0} (r : Result A E) (P Q R : A → Type 0) → ((a : A) → P a → Q a → R a) → IfOk r P → IfOk r Q → IfOk r R
both_ok (Ok a) P Q R f p q = f a p q
both_ok (Err e) P Q R f p q = tt

pub some_or_none : {A : Type 0} (found : Option A) (P : Type 0) (Q : A → Type 0) → IfSome found Q → IfNone found P → MatchOption found P Q
some_or_none (Some a) P Q some none = some
some_or_none None P Q some none = none
