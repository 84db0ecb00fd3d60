-- What predicates mean, in words, as Markdown.
use Rattle.std.specs.Prelude.{◌++◌, ◌==◌, [], ◌∷◌, codes, filter, slice_index, if◌then◌else◌}
use Rattle.filterset_display.specs.Positions.{Text}
use Rattle.filterset_grammar.specs.{Printing.printed_leaf, Tree.Leaf, Tree.Matching, Tree.Platform, Tree.Default}
use Rattle.filterset_grammar.specs.declared.predicate.Predicate.{Predicate}
use Rattle.filterset_grammar.specs.declared.predicate.Predicate.TheVariants.{Package, Deps, Rdeps, Kind, Binary, BinaryId, Test, Group}
use Rattle.filterset_grammar.specs.Tree as tree
use Rattle.filterset_graph.specs.Platforms.{platform_text}
use Rattle.filterset_matchers.specs.Matcher.{Matcher, Equal, Contains, Glob, Regex}

-- ---- code

abbrev pub backticks : Text → Text
backticks text = filter (λ b. b == 96) text

-- What is between a text with these backticks and the delimiters of its code span: a blank, if the text has backticks or begins
-- with a blank. Markdown takes a blank from each side of a code span, if it has one on both.
abbrev pub margin : Text → Text → Text
margin [] text = if slice_index text 0 == 32 then codes " " else []
margin (b ∷ bs) text = codes " "

-- the code span of a text: its delimiters have one backtick more than the text
abbrev pub code_span : Text → Text
code_span text =
    let ticks = backticks text in
    let blank = margin ticks text in
    codes "`" ++ (ticks ++ (blank ++ (text ++ (blank ++ (ticks ++ codes "`")))))

-- ---- predicates

-- what a matcher says of a name
abbrev pub matcher_words : Matcher → Text
matcher_words (Equal value implicit) = codes "is " ++ code_span value
matcher_words (Contains value implicit) = codes "contains " ++ code_span value
matcher_words (Glob text tokens implicit) = codes "matches the glob " ++ code_span text
matcher_words (Regex pattern) = codes "contains a match of the regular expression " ++ code_span pattern

-- what comes before the words of a matcher
abbrev pub words_before : Predicate → Text
words_before Package = codes "Tests of workspace packages whose name "
words_before Deps = codes "Tests of workspace packages whose name "
words_before Rdeps = codes "Tests of workspace packages whose name "
words_before Kind = codes "Tests of binaries whose kind "
words_before Binary = codes "Tests of binaries whose name "
words_before BinaryId = codes "Tests of binaries whose id "
words_before Test = codes "Tests whose name "
words_before Group = codes "Tests in groups whose name "

-- what comes after them
abbrev pub words_behind : Predicate → Text
words_behind Deps = codes ", and of workspace packages that these depend on, directly or not."
words_behind Rdeps = codes ", and of workspace packages that depend on these, directly or not."
words_behind _ = codes "."

abbrev pub matching_words : Predicate → Matcher → Text
matching_words p m = words_before p ++ (matcher_words m ++ words_behind p)

-- which tests a predicate picks
abbrev pub leaf_words : {S : Type 0} → Leaf S → Text
leaf_words (Matching p m s) = matching_words p m
leaf_words (Platform q s) = codes "Tests of binaries that are built for the " ++ (platform_text q ++ codes ".")
leaf_words (Default s) = codes "Tests that the default filter picks."
leaf_words tree.All = codes "All tests."
leaf_words tree.None = codes "No tests."

-- a predicate as it prints, and below it which tests it picks
abbrev pub leaf_text : {S : Type 0} → Leaf S → Text
leaf_text leaf = codes "**" ++ (code_span (printed_leaf leaf) ++ (codes "**\n\n" ++ leaf_words leaf))
