-- How a tree shows that a candidate stands where it may.
use Rattle.std.specs.Prelude.{ℕ, ◌-◌, ◌==◌, ◌&&◌, Bool, false, true, Option, None, Some, codes, filter, is_some, length, nat_le, nat_lt, not}
use Rattle.std.specs.Str.{bytes_eq}
use Rattle.filterset_display.specs.Positions.{Text}
use Rattle.filterset_faults.specs.Span.{length_of, offset_of}
use Rattle.filterset_faults.specs.declared.{kind.FiltersetKind.FiltersetKind, span.SourceSpan.SourceSpan}
use Rattle.filterset_faults.specs.declared.kind.FiltersetKind.TheVariants as kinds
use Rattle.filterset_grammar.specs.{Bans.ban_reason, Grammar.Name}
use Rattle.filterset_grammar.specs.Tree.{Leaf, Matching, Platform, Default, Tree, leaf_without_span, tree_leaves}
use Rattle.filterset_grammar.specs.declared.predicate.Predicate.{Predicate}
use Rattle.filterset_grammar.specs.Tree as tree
use Rattle.filterset_grammar.specs.declared.predicate.Predicate.TheVariants as predicates
use Rattle.filterset_language.specs.Faults.{leaf_span}
use Rattle.filterset_matchers.specs.Matcher.{Matcher, Equal, Contains, Glob, Regex}
use Rattle.filterset_offers.specs.declared.named.Named.{Named}
use Rattle.filterset_offers.specs.declared.named.Named.TheVariants as named
use Rattle.filterset_offers.specs.{Candidates.Row, declared.candidates.Mark.Mark}
use Rattle.filterset_offers.specs.declared.candidates.Mark.TheVariants.{Begins, Precedes, Inside, Names}
use Rattle.filterset_offers.specs.declared.candidates.Owner.{Owner}
use Rattle.filterset_offers.specs.declared.candidates.Owner.TheVariants as owners

-- the name of a predicate
abbrev pub leaf_name : {S : Type 0} → Leaf S → Text
leaf_name (Matching p m s) = Name p
leaf_name (Platform q s) = codes "platform"
leaf_name (Default s) = codes "default"
leaf_name tree.All = codes "all"
leaf_name tree.None = codes "none"

abbrev pub owner_name : Owner → Text
owner_name owners.Kind = codes "kind"
owner_name owners.Platform = codes "platform"
owner_name owners.Group = codes "group"

-- the span begins so far after an offset
abbrev pub is_behind : Option SourceSpan → ℕ → ℕ → Bool
is_behind None at far = false
is_behind (Some s) at far = nat_le at (offset_of s) && offset_of s - at == far

-- the span holds what is so long from an offset on
abbrev pub holds : Option SourceSpan → ℕ → ℕ → Bool
holds None at len = false
holds (Some s) at len =
    nat_le (offset_of s) at && nat_le (at - offset_of s) (length_of s) && nat_le len (length_of s - (at - offset_of s))

-- filtersets of this kind may not hold the predicate
abbrev pub is_banned : FiltersetKind → Leaf SourceSpan → Bool
is_banned kind leaf = is_some (ban_reason (leaf_without_span leaf) kind)

abbrev pub is_named : Text → Leaf SourceSpan → Bool
is_named name leaf = bytes_eq (leaf_name leaf) name

-- the predicate is about what is named so
abbrev pub is_about : Named → Predicate → Bool
is_about named.Package predicates.Package = true
is_about named.Package predicates.Deps = true
is_about named.Package predicates.Rdeps = true
is_about named.Binary predicates.Binary = true
is_about named.BinaryId predicates.BinaryId = true
is_about named.Test predicates.Test = true
is_about what predicate = false

-- nextest reads no such operator in its configuration, where the filtersets of all kinds but one are
abbrev pub is_foreign : FiltersetKind → Text → Bool
is_foreign kinds.Test label = false
is_foreign kind label = bytes_eq label (codes "^")

-- the text of the matcher is the name, and it is no regular expression
abbrev pub is_of_name : Text → Matcher → Bool
is_of_name name (Equal value implicit) = bytes_eq value name
is_of_name name (Contains value implicit) = bytes_eq value name
is_of_name name (Glob text tokens implicit) = bytes_eq text name
is_of_name name (Regex pattern) = false

-- the predicate's argument is the name of what is named so
abbrev pub takes_name : {S : Type 0} → Named → Text → Leaf S → Bool
takes_name what name (Matching p m s) = is_about what p && is_of_name name m
takes_name what name leaf = false

-- A predicate of a text, which is to be of this kind, has this mark of a candidate with this name at an offset.
abbrev pub has_mark : FiltersetKind → Mark → Text → ℕ → Leaf SourceSpan → Bool
has_mark kind (Begins far) label at leaf = is_named label leaf && is_behind (leaf_span leaf) at far && not (is_banned kind leaf)
has_mark kind (Precedes far) label at leaf =
    is_named (codes "default") leaf && is_behind (leaf_span leaf) at far && not (is_foreign kind label)
has_mark kind (Inside owner) label at leaf =
    is_named (owner_name owner) leaf && holds (leaf_span leaf) at (length label) && not (is_banned kind leaf)
has_mark kind (Names what) label at leaf =
    takes_name what label leaf && holds (leaf_span leaf) at (length label) && not (is_banned kind leaf)

abbrev pub is_marked : FiltersetKind → Row → ℕ → Leaf SourceSpan → Bool
is_marked kind row at leaf = has_mark kind row.mark row.label at leaf

-- the span holds the byte at an offset
abbrev pub covers : Option SourceSpan → ℕ → Bool
covers None at = false
covers (Some s) at = nat_le (offset_of s) at && nat_lt (at - offset_of s) (length_of s)

-- A candidate that precedes an operand may be taken for a part of this predicate's argument, whose parenthesis the candidate then
-- closes.
abbrev pub is_hiding : Mark → ℕ → Leaf SourceSpan → Bool
is_hiding (Precedes far) at leaf = covers (leaf_span leaf) at
is_hiding mark at leaf = false

abbrev pub has_some : (Leaf SourceSpan → Bool) → Tree SourceSpan → Bool
has_some test e = not (length (filter test (tree_leaves e)) == 0)

-- the tree shows that a candidate, which begins at an offset, stands where it may
abbrev pub shows : FiltersetKind → Row → ℕ → Tree SourceSpan → Bool
shows kind row at e = has_some (is_marked kind row at) e && not (has_some (is_hiding row.mark at) e)
