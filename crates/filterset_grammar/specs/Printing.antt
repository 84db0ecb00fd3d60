-- How trees print, and which of them parse back.
use Rattle.std.specs.Prelude.{◌≡◌, ◌≢◌, ℕ, List, [], ◌∷◌, ◌++◌, codes, true, false}
use Rattle.filterset_glob.specs.Signs.{sign}
use Rattle.filterset_grammar.specs.Text.{ends_in_backslash}
use Rattle.filterset_matchers.specs.Matcher.{Matcher, Equal, Contains, Glob, Regex}
use Rattle.filterset_grammar.specs.Tree as tree
use Rattle.filterset_grammar.specs.Tree.{Predicate, Leaf, Tree, Matching, Platform, Default, Not, Union, Join, Parens, Set}
use Rattle.filterset_graph.specs.Platforms.{platform_text}
use Rattle.filterset_grammar.specs.Grammar.{Name, own_matching, not_text, or_text, join_text}
use Rattle.filterset_grammar.specs.declared.predicate.TextMatching.TheVariants as ways
use Rattle.filterset_matchers.specs.PrintedMatcher.{printed_matcher}

-- a name, and an argument between parentheses
abbrev pub call : List ℕ → List ℕ → List ℕ
call name argument = name ++ (sign "(" ∷ (argument ++ codes ")"))

-- a predicate
abbrev pub printed_leaf : {S : Type 0} → Leaf S → List ℕ
printed_leaf (Matching p m s) = call (Name p) (printed_matcher m)
printed_leaf (Platform q s) = call (codes "platform") (platform_text q)
printed_leaf (Default s) = codes "default()"
printed_leaf tree.All = codes "all()"
printed_leaf tree.None = codes "none()"

-- an operator with one blank on either side
abbrev pub operands : List ℕ → List ℕ → List ℕ → List ℕ
operands left op right = left ++ (sign " " ∷ (op ++ (sign " " ∷ right)))

-- a tree
abbrev pub printed : {S : Type 0} → Tree S → List ℕ
printed (Not op e) = not_text op ++ (sign " " ∷ printed e)
printed (Union op l r) = operands (printed l) (or_text op) (printed r)
printed (Join op l r) = operands (printed l) (join_text op) (printed r)
printed (Parens e) = sign "(" ∷ (printed e ++ codes ")")
printed (Set l) = printed_leaf l

-- the operand stands by itself: a leaf, a negation or parentheses
abbrev pub IsBasic : {S : Type 0} → Tree S → Type 0
IsBasic (Union op l r) = ⊥
IsBasic (Join op l r) = ⊥
IsBasic e = Unit {0}

-- the operand is no union
abbrev pub IsNoUnion : {S : Type 0} → Tree S → Type 0
IsNoUnion (Union op l r) = ⊥
IsNoUnion e = Unit {0}

-- where no sign stands before the matcher, it matches as the predicate does of its own
abbrev pub IsOwn : Predicate → Matcher → Type 0
IsOwn p (Equal value implicit) = implicit ≡ true → own_matching p ≡ ways.Equal
IsOwn p (Contains value implicit) = implicit ≡ true → own_matching p ≡ ways.Contains
IsOwn p (Glob text tokens implicit) = implicit ≡ true → own_matching p ≡ ways.Glob
IsOwn p (Regex pattern) = Unit {0}

-- the matcher has a text that can be read: it is not empty, and a pattern doesn't end in a backslash
abbrev pub IsWellFormedMatcher : Matcher → Type 0
IsWellFormedMatcher (Equal value implicit) = value ≢ []
IsWellFormedMatcher (Contains value implicit) = value ≢ []
IsWellFormedMatcher (Glob text tokens implicit) = text ≢ []
IsWellFormedMatcher (Regex pattern) = ends_in_backslash pattern ≡ false

-- the predicate's matcher is well formed, and implicit only where it is the predicate's own
abbrev pub IsWellFormedLeaf : {S : Type 0} → Leaf S → Type 0
IsWellFormedLeaf (Matching p m s) = IsOwn p m × IsWellFormedMatcher m
IsWellFormedLeaf l = Unit {0}

-- the tree is one that some text spells: its operands are of the levels where they stand, and its leaves are well
-- formed
abbrev pub WellFormed : {S : Type 0} → Tree S → Type 0
WellFormed (Not op e) = IsBasic e × WellFormed e
WellFormed (Union op l r) = IsNoUnion r × WellFormed l × WellFormed r
WellFormed (Join op l r) = IsNoUnion l × IsBasic r × WellFormed l × WellFormed r
WellFormed (Parens e) = WellFormed e
WellFormed (Set l) = IsWellFormedLeaf l
