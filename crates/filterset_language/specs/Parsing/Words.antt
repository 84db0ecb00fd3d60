-- How names and operators are read. Public contracts cite the grammar instead.
use Rattle.std.specs.Prelude.{ℕ, List, [], ◌∷◌, codes, Option, Some, None, if◌then◌else◌}
use Rattle.filterset_glob.specs.Signs.{◌∈◌}
use Rattle.filterset_language.specs.Parsing.Position.{Position, position_of, after, after_word}
use Rattle.filterset_language.specs.declared.parsing.{input.Input.Input, names.PredicateName.PredicateName}
use Rattle.filterset_grammar.specs.declared.operators.Joiner.{Joiner}
use Rattle.filterset_grammar.specs.declared.operators.Joiner.TheVariants.{Both, Without, ExactlyOne}
use Rattle.filterset_grammar.specs.declared.predicate.Predicate.TheVariants.{Package, Deps, Rdeps, Kind, Binary, BinaryId, Test, Group}
use Rattle.filterset_grammar.specs.{Grammar.Name, declared.operators.NotOperator.NotOperator}
use Rattle.filterset_grammar.specs.declared.operators.NotOperator.TheVariants.{LiteralNot, Exclamation}
use Rattle.filterset_grammar.specs.declared.operators.OrOperator.{OrOperator}
use Rattle.filterset_grammar.specs.declared.operators.OrOperator.TheVariants.{LiteralOr, Pipe, Plus}
use Rattle.filterset_grammar.specs.declared.operators.AndOperator.TheVariants.{LiteralAnd, Ampersand}
use Rattle.filterset_grammar.specs.declared.operators.DifferenceOperator.TheVariants.{Minus}
use Rattle.filterset_grammar.specs.declared.operators.SymmetricDifferenceOperator.TheVariants.{Caret}
use Rattle.filterset_language.specs.declared.parsing.names.PredicateName.TheVariants as names

-- the text of a predicate's name
abbrev pub name_text : PredicateName → List ℕ
name_text (names.Matching name) = Name name
name_text names.Platform = codes "platform"
name_text names.Default = codes "default"
name_text names.All = codes "all"
name_text names.None = codes "none"

-- what was read, and the position after it
abbrev pub seen : {X : Type 0} → X × Input → X × Position
seen x = (x.0, position_of x.1)

-- the first, where there is one, and else the second
abbrev pub choose : {X Y : Type 0} → Option X → (X → Option Y) → Option Y → Option Y
choose (Some x) f other = f x
choose None f other = other

-- a value, and the position after it
abbrev pub with : {X : Type 0} → X → Position → Option (X × Position)
with x p = Some (x, p)

-- the negation that stands here
abbrev pub not_at : Position → Option (NotOperator × Position)
not_at p = choose (after_word (codes "not") p) (with LiteralNot) (choose (after (codes "!") p) (with Exclamation) None)

-- the operator of the level of `and` that stands here, without a value where it is an invalid one
abbrev pub joiner_at : Position → Option (Option Joiner × Position)
joiner_at p =
    choose (after (codes "&&") p) (with None)
    (choose (after_word (codes "AND") p) (with None)
    (choose (after_word (codes "and") p) (with (Some (Both LiteralAnd)))
    (choose (after (codes "&") p) (with (Some (Both Ampersand)))
    (choose (after (codes "-") p) (with (Some (Without Minus)))
    (choose (after (codes "^") p) (with (Some (ExactlyOne Caret))) None)))))

-- the operator of the level of `or` that stands here, without a value where it is an invalid one
abbrev pub or_at : Position → Option (Option OrOperator × Position)
or_at p =
    choose (after (codes "||") p) (with None)
    (choose (after_word (codes "OR") p) (with None)
    (choose (after_word (codes "or") p) (with (Some LiteralOr))
    (choose (after (codes "|") p) (with (Some Pipe))
    (choose (after (codes "+") p) (with (Some Plus)) None))))

-- the first byte of a text, or 0
abbrev pub first_byte : List ℕ → ℕ
first_byte [] = 0
first_byte (b ∷ t) = b

-- a name whose word stands here
abbrev pub named : List ℕ → PredicateName → Position → Option (PredicateName × Position)
named word name p = choose (after word p) (with name) None

-- the first of two names whose word stands here
abbrev pub either : List ℕ → PredicateName → List ℕ → PredicateName → Position → Option (PredicateName × Position)
either first name second other p = choose (after first p) (with name) (named second other p)

-- the name that begins with this byte and stands here
abbrev pub name_by : ℕ → Position → Option (PredicateName × Position)
name_by b p =
    if b ∈ "a" then named (codes "all") names.All p
    else (if b ∈ "b" then either (codes "binary_id") (names.Matching BinaryId) (codes "binary") (names.Matching Binary) p
    else (if b ∈ "d" then either (codes "deps") (names.Matching Deps) (codes "default") names.Default p
    else (if b ∈ "g" then named (codes "group") (names.Matching Group) p
    else (if b ∈ "k" then named (codes "kind") (names.Matching Kind) p
    else (if b ∈ "n" then named (codes "none") names.None p
    else (if b ∈ "p" then either (codes "package") (names.Matching Package) (codes "platform") names.Platform p
    else (if b ∈ "r" then named (codes "rdeps") (names.Matching Rdeps) p
    else (if b ∈ "t" then named (codes "test") (names.Matching Test) p
    else None))))))))

-- the predicate's name that stands here
abbrev pub name_at : Position → Option (PredicateName × Position)
name_at p = name_by (first_byte p.rest) p
