-- The patterns of a tree.
use Rattle.filterset_matchers.specs.Matcher.{Matcher, Equal, Contains, Glob, Regex}
use Rattle.filterset_matchers.specs.Pattern.{IsPattern}
use Rattle.filterset_grammar.specs.Tree as tree
use Rattle.filterset_grammar.specs.Tree.{Leaf, Tree, Matching, Platform, Default, Not, Union, Join, Parens, Set, leaf_without_span, without_spans}

-- where the matcher is by a pattern, the grammar of `regex` reads it
abbrev pub MatcherIsRead : Matcher → Type 0
MatcherIsRead (Equal value implicit) = Unit {0}
MatcherIsRead (Contains value implicit) = Unit {0}
MatcherIsRead (Glob text tokens implicit) = Unit {0}
MatcherIsRead (Regex pattern) = IsPattern pattern

-- the same of a predicate without its span
abbrev pub BareIsRead : Leaf (Unit {0}) → Type 0
BareIsRead (Matching p m s) = MatcherIsRead m
BareIsRead (Platform q s) = Unit {0}
BareIsRead (Default s) = Unit {0}
BareIsRead tree.All = Unit {0}
BareIsRead tree.None = Unit {0}

-- the same of any predicate
abbrev pub LeafIsRead : {S : Type 0} → Leaf S → Type 0
LeafIsRead l = BareIsRead (leaf_without_span l)

-- the same of each predicate of a tree without its spans
abbrev pub BareAreRead : Tree (Unit {0}) → Type 0
BareAreRead (Not op e) = BareAreRead e
BareAreRead (Union op l r) = BareAreRead l × BareAreRead r
BareAreRead (Join op l r) = BareAreRead l × BareAreRead r
BareAreRead (Parens e) = BareAreRead e
BareAreRead (Set l) = BareIsRead l

-- the grammar of `regex` reads each pattern of the tree
abbrev pub PatternsAreRead : {S : Type 0} → Tree S → Type 0
PatternsAreRead e = BareAreRead (without_spans e)
