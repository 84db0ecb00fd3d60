use Rattle.std.proofs.Common.{rules, arith, ◌≡◌, ◌++◌, ◌<◌, ℕ, zero, suc, refl}
use Rattle.std.specs.Prelude.{decimal}
use Rattle.filterset_listing.specs.{Asking.Text, ListText.some_text}
use Rattle.filterset_listing.proofs.counting.push_some.Goals as goal

-- the text if the count is not 0
some : (before : Text) (n : ℕ) (after : Text) → 0 < n → some_text before n after ≡ before ++ (decimal n ++ after)
some before zero after none = absurd (omega (arith, none))
some before (suc n) after more = refl

pub returns : goal.returns
returns c = rw (some c.args.before.now c.args.count c.args.after.now (omega (arith, c.if-count-eq0.false))) (search rules)
