-- Trees that match the same tests at sight.
use Rattle.std.specs.{Prelude.◌&&◌, Prelude.Bool, Prelude.true, Prelude.false, Bool.beq, Str.bytes_eq}
use Rattle.filterset_glob.specs.Equality.{same_tokens}
use Rattle.filterset_grammar.specs.Equality.{same_platform, same_predicate}
use Rattle.filterset_grammar.specs.Tree.{Leaf, Matching, Platform, Default, All, None, Tree, Not, Union, Join, Set}
use Rattle.filterset_grammar.specs.declared.predicate.Predicate.TheVariants.{Group}
use Rattle.filterset_grammar.specs.declared.operators.Joiner.TheVariants.{Both, Without, ExactlyOne}
use Rattle.filterset_matchers.specs.Matcher.{Matcher, Equal, Contains, Glob, Regex}

-- whether matchers are the same but for signs and the texts of globs
abbrev pub alike_matchers : Matcher → Matcher → Bool
alike_matchers (Equal value implicit) (Equal other also) = bytes_eq value other
alike_matchers (Contains value implicit) (Contains other also) = bytes_eq value other
alike_matchers (Glob text tokens implicit) (Glob other others also) = same_tokens tokens others
alike_matchers (Regex pattern) (Regex other) = bytes_eq pattern other
alike_matchers _ _ = false

-- whether matchers are the same, signs and texts of globs included
abbrev pub identical_matchers : Matcher → Matcher → Bool
identical_matchers (Equal value implicit) (Equal other also) = bytes_eq value other && beq implicit also
identical_matchers (Contains value implicit) (Contains other also) = bytes_eq value other && beq implicit also
identical_matchers (Glob text tokens implicit) (Glob other others also) =
    bytes_eq text other && same_tokens tokens others && beq implicit also
identical_matchers (Regex pattern) (Regex other) = bytes_eq pattern other
identical_matchers _ _ = false

-- whether predicates are the same but for that and for spans; a lookup of groups may tell signs and texts of globs apart
abbrev pub alike_leaves : {S : Type 0} → Leaf S → Leaf S → Bool
alike_leaves (Matching Group m s) (Matching Group n t) = identical_matchers m n
alike_leaves (Matching p m s) (Matching q n t) = same_predicate p q && alike_matchers m n
alike_leaves (Platform p s) (Platform q t) = same_platform p q
alike_leaves (Default s) (Default t) = true
alike_leaves All All = true
alike_leaves None None = true
alike_leaves _ _ = false

-- whether trees without parentheses are the same but for that
abbrev pub alike : {S : Type 0} → Tree S → Tree S → Bool
alike (Not op a) (Not other b) = alike a b
alike (Union op a b) (Union other c d) = alike a c && alike b d
alike (Join (Both op) a b) (Join (Both other) c d) = alike a c && alike b d
alike (Join (Without op) a b) (Join (Without other) c d) = alike a c && alike b d
alike (Join (ExactlyOne op) a b) (Join (ExactlyOne other) c d) = alike a c && alike b d
alike (Set leaf) (Set other) = alike_leaves leaf other
alike _ _ = false
