-- What texts read as.
use Rattle.std.specs.Prelude.{◌≤◌, ℕ, List}
use Rattle.filterset_faults.specs.declared.span.SourceSpan.{SourceSpan}
use Rattle.filterset_grammar.specs.Tree.{Tree}
use Rattle.filterset_language.specs.Parsed.{IsUnreadWith, Reads}
use Rattle.filterset_rewriting.specs.Nesting.Depth.{IsTooDeep, depth, most_levels}
use Rattle.filterset_rewriting.specs.declared.reading.TextRefusal.{TextRefusal, TheVariants.Found, TheVariants.TooDeep}

-- the text reads as the tree, within the levels that a text may have
pub record IsRead (text : List ℕ) (e : Tree SourceSpan) : Type 0 where
  pub reads : Reads text e
  pub shallow : depth e ≤ most_levels

-- why no tree is read from the text
abbrev pub IsUnreadFor : List ℕ → TextRefusal → Type 0
IsUnreadFor text (Found faults) = IsUnreadWith text faults.items
IsUnreadFor text (TooDeep place) = IsTooDeep most_levels text place

abbrev pub IsUnread : List ℕ → Type 0
IsUnread text = (faults : TextRefusal) × IsUnreadFor text faults
