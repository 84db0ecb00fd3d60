-- What predicates match in a workspace, as Markdown.
use Rattle.std.specs.Prelude.{◌≡◌, ◌-◌, ◌++◌, ℕ, zero, suc, [], Option, None, Some, codes, decimal, length, map}
use Rattle.std.specs.List.{flat_map}
use Rattle.filterset_display.specs.Positions.{Text}
use Rattle.filterset_grammar.specs.Tree.{Leaf}
use Rattle.filterset_offers.specs.{Matched.MatchesLeaf, Workspaces.WorkspaceRow, declared.matched.Matched.Matched}
use Rattle.filterset_offers.specs.declared.matched.Matched.TheVariants.{Binaries, Packages, Tests}
use Rattle.filterset_offers.specs.declared.matched.Shortlist.{Shortlist}
use Rattle.filterset_offers.specs.Words.{code_span}

-- the line of a name
abbrev pub name_line : Text → Text
name_line name = codes "\n- " ++ code_span name

-- how many names are not listed, if there are any
abbrev pub more_line : ℕ → Text
more_line zero = []
more_line (suc n) = codes "\n- and " ++ (decimal (suc n) ++ codes " more")

-- how many of what there are, and the first of them by name
abbrev pub shortlist_text : Text → Shortlist → Text
shortlist_text what short =
    let names = map (λ n. n.now) short.names.items in
    codes "\n\n" ++ (what ++ (codes ": " ++ (decimal short.count ++ (codes "\n" ++ (flat_map name_line names
    ++ more_line (short.count - length names))))))

abbrev pub matched_text : Option Matched → Text
matched_text None = []
matched_text (Some (Packages short)) = shortlist_text (codes "Packages of the workspace") short
matched_text (Some (Binaries short)) = shortlist_text (codes "Test binaries") short
matched_text (Some (Tests short)) = shortlist_text (codes "Tests") short

-- what a predicate matches in the workspace; nothing is said without one
abbrev pub SaysMatched : {S : Type 0} → Option WorkspaceRow → Leaf S → Text → Type 0
SaysMatched None leaf text = text ≡ []
SaysMatched (Some w) leaf text = (found : Option Matched) × MatchesLeaf w leaf found × (text ≡ matched_text found)
