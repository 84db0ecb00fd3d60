-- Explanations as text.
use Rattle.std.specs.Prelude.{ℕ, ◌-◌, zero, suc, Bool, true, false, [], ◌++◌, Option, Some, None, codes, decimal, option_map, unwrap_or}
use Rattle.std.specs.List.{flat_map, join_by, repeat}
use Rattle.filterset_graph.specs.Packages.{Text}
use Rattle.filterset_grammar.specs.{Grammar.not_text, Grammar.or_text, Grammar.join_text, Printing.printed_leaf}
use Rattle.filterset_grammar.specs.Tree.{Tree, Not, Union, Join, Parens, Set}
use Rattle.filterset_language.specs.Views.{tree_of}
use Rattle.filterset_listing.specs.ListText.{reason, some_text}
use Rattle.filterset_listing.specs.declared.explaining.{ExplainedNode.ExplainedNode, Explanation.Explanation}
use Rattle.filterset_listing.specs.declared.explaining.packages.NamedPackages.{NamedPackages}

abbrev pub value_text : Option Bool → Text
value_text (Some true) = codes "yes"
value_text (Some false) = codes "no"
value_text None = codes "unknown"

-- a node without its operands: an operator as it is written, a predicate as it prints; parentheses as what they hold
abbrev pub head : {S : Type 0} → Tree S → Text
head (Not op e) = not_text op
head (Union op a b) = or_text op
head (Join op a b) = join_text op
head (Parens e) = head e
head (Set leaf) = printed_leaf leaf

-- the packages that a predicate stands for
abbrev pub packages_part : Option NamedPackages → Text
packages_part None = []
packages_part (Some packages) =
    codes " (packages: " ++ (join_by (λ n. n.now) (codes ", ") packages.names.items ++ (some_text (codes " and ") packages.others (codes " more") ++ codes ")"))

-- What stands before a node of this depth, which is that much deeper than can be shown by blanks alone: two blanks for
-- each operator above it, and in brackets how many operators there are where there are more than 32.
abbrev pub indented_by : ℕ → ℕ → Text
indented_by depth zero = repeat depth (codes "  ")
indented_by depth (suc more) = repeat 32 (codes "  ") ++ (codes "[" ++ (decimal depth ++ codes "] "))

-- the line of a node: its indentation, the node, its value, and its packages
abbrev pub explained_line : ExplainedNode → Text
explained_line explained = indented_by explained.depth (explained.depth - 32) ++ (head (tree_of explained.node.now)
    ++ (codes ": " ++ (value_text explained.value ++ (packages_part explained.packages ++ codes "\n"))))

-- the lines of the nodes, and below them why a test is unknown, if a node of it is
abbrev pub explanation_text : Explanation → Text
explanation_text explanation = flat_map explained_line explanation.nodes.items
    ++ unwrap_or (option_map (λ path. codes "unknown: " ++ (reason path.now ++ codes "\n")) explanation.unknown_platform) []
