-- What the parser says of a text that begins with an expression.
use Rattle.std.proofs.Common.{◌≡◌, ◌≢◌, inl, inr, ⊎_elim, ◌⊎◌, List, [], ◌∷◌, ℕ, refl, sym, ◌∙◌, Option, Some, None}
use Rattle.std.specs.{Borrow.Bor, Prelude.All, Prelude.MatchOption, Str.trim_start}
use Rattle.filterset_faults.specs.declared.{error.ParseSingleError.ParseSingleError, span.SourceSpan.SourceSpan}
use Rattle.filterset_grammar.specs.{Grammar.Spells, Tree.Tree}
use Rattle.filterset_language.specs.Faults.{FaultStands}
use Rattle.filterset_language.specs.Parsed.{Comes, HasRefusedBodies, IsUnreadWith, Reads}
use Rattle.filterset_language.specs.declared.parsing.parse.Parsed.{Parsed}
use Rattle.filterset_rewriting.specs.{Calls.Begins, Calls.Lacks, Fronts.IsMore, Fronts.NoExpression}

-- faults of a parse refuse the text
pub refused : (text : List ℕ) (p : Parsed) → All (FaultStands text) p.faults.items
    → ((e : Tree SourceSpan) → Spells text e → (Comes p e × (p.faults.items ≡ [])) ⊎ HasRefusedBodies text e p)
    → p.faults.items ≢ [] → IsUnreadWith text p.faults.items
refused text p stand spelled some = record { some = some; stand = stand; bodies = λ e spells. ⊎_elim (λ clean. absurd (some clean.1)) (λ refuses. refuses.bodies) (spelled e spells) }

told : (text : List ℕ) (faults : List ParseSingleError) → (faults ≡ [] → (e : Tree SourceSpan) × Reads text e)
    → (faults ≢ [] → IsUnreadWith text faults) → IsMore text faults → NoExpression text
told text [] reads unread more = inl (reads refl)
told text (f ∷ fs) reads unread more = inr (inl (f ∷ fs, unread (λ e. cc), more))

-- no text goes on behind an expression by these faults
pub nothing_in_front : (text : List ℕ) (p : Parsed)
    → (p.faults.items ≡ [] → (e : Tree SourceSpan) × Comes p e × Reads text e)
    → ((e : Tree SourceSpan) → Spells text e → (Comes p e × (p.faults.items ≡ [])) ⊎ HasRefusedBodies text e p)
    → All (FaultStands text) p.faults.items → IsMore text p.faults.items → NoExpression text
nothing_in_front text p clean spelled stand more =
    told text p.faults.items (λ none. let r = clean none in (r.0, r.2)) (refused text p stand spelled) more

-- what is behind white space
pub after_sign : (b : ℕ) (text trimmed : List ℕ) (o : Option (Bor (List ℕ))) → trimmed ≡ trim_start text
    → MatchOption o ((rest : List ℕ) → trimmed ≢ b ∷ rest) (λ x. trimmed ≡ b ∷ x.now)
    → MatchOption o (Lacks b text) (λ t. Begins b text t.now)
after_sign b text trimmed None e h = λ behind f. h behind (e ∙ f)
after_sign b text trimmed (Some x) e h = sym e ∙ h
