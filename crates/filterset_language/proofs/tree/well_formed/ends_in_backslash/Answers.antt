use Rattle.std.proofs.Common.{◌≡◌, ℕ, zero, suc, ◌+◌, List, [], ◌∷◌, length, nat_eq, refl, arith}
use Rattle.std.specs.Prelude.{slice_index_or}
use Rattle.filterset_grammar.specs.Text.{ends_in_backslash}
use Rattle.filterset_language.proofs.tree.well_formed.ends_in_backslash.Goals as goal

last_byte : (t : List ℕ) (n : ℕ) → length t ≡ n + 1 → nat_eq (slice_index_or t n 0) 92 ≡ ends_in_backslash t
last_byte [] n e = absurd (omega arith)
last_byte (b ∷ []) zero e = refl
last_byte (b ∷ []) (suc n) e = absurd (omega arith)
last_byte (b ∷ c ∷ t) zero e = absurd (omega arith)
last_byte (b ∷ c ∷ t) (suc n) e = last_byte (c ∷ t) n (omega arith)

pub returns-in-len1-up : goal.returns-in-len1-up
returns-in-len1-up c = last_byte c.args.text.now _ (omega arith)
