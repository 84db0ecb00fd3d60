-- What is chosen for a name, as an outcome; and which of the texts an iteration has.
use Rattle.std.proofs.Common.{◌≡◌, ◌∙◌, ◌<◌, ℕ, List, None, Option, Some, ap, get_or, length, map, subst, sym}
use Rattle.std.specs.{Prelude.IsSomeAnd, Prelude.MatchOption, List.Contains}
use Rattle.std.proofs.lemmas.List.{get_or-map, length-map}
use Rattle.filterset_entries.specs.{Checked.TextRow, declared.entries.ConfiguredTexts.ConfiguredTexts}
use Rattle.filterset_entries.specs.Profile.{IsChosen, chosen}
use Rattle.filterset_entries.specs.declared.profile.ChosenFilter.{ChosenFilter, TheVariants.Entry, TheVariants.Unknown}
use Rattle.filterset_configuration.specs.declared.defaults.DefaultFilter.{DefaultFilter}
use Rattle.filterset_verdicts.specs.Deciding.{IsDefaultKind, outcome_of}

pub chosen_outcome : (texts : ConfiguredTexts) (given : Option TextRow) (filter : DefaultFilter) (found : ChosenFilter)
    → IsChosen texts given filter found → chosen texts given filter ≡ outcome_of found
chosen_outcome texts given filter (Entry entry) is = is.0
chosen_outcome texts given filter (Unknown path) is = is

pub chosen_kind : (texts : ConfiguredTexts) (given : Option TextRow) (filter : DefaultFilter) (found : ChosenFilter)
    → IsChosen texts given filter found → IsDefaultKind found
chosen_kind texts given filter (Entry entry) is = is.1
chosen_kind texts given filter (Unknown path) is = tt

pub contains_image : {A B : Type 0} (f : A → B) (xs : List A) (n : ℕ) (x : A) → (n < length xs) × (x ≡ get_or xs n x) → Contains (map f xs) (f x)
contains_image f xs n x h = (n, rw (length-map xs f) h.0, get_or-map f xs n x (f x) h.0 ∙ ap f (sym h.1))

-- what holds at the variant that an option is
pub at_none : {A : Type 0} (o : Option A) (P : Type 0) (Q : A → Type 0) → o ≡ None → P → MatchOption o P Q
at_none o P Q is p = subst (λ v. MatchOption v P Q) (sym is) p

-- what is so of a value is what follows
pub some_and_weaker : {A : Type 0} (o : Option A) (P Q : A → Type 0) → ((a : A) → P a → Q a) → IsSomeAnd o P → IsSomeAnd o Q
some_and_weaker (Some a) P Q f p = f a p
some_and_weaker None P Q f p = absurd p
