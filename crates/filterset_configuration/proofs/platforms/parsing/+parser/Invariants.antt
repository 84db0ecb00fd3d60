use Rattle.std.proofs.Common.{◌≡◌, ◌≤◌, ◌+◌, ◌*◌, length}
use denote.Text.{Utf8}
use denote.Shadow.{shadow}
use Rattle.filterset_configuration.specs.{PlatformGrammar.Inside, PlatformReading.IsRest}
use Rattle.filterset_configuration.specs.PlatformTrees.{Exprs, exprs_of}
use Rattle.filterset_configuration.proofs.PlatformLists.{◌⊕◌}
use Rattle.filterset_json.specs.Shape.{Text}
use Rattle.filterset_configuration.proofs.platforms.parsing.+parser.Given as goal

abbrev pub decreases-read_all : goal.decreases-read_all
decreases-read_all l = 2 * length l.text.now + 1

abbrev pub decreases-read_any : goal.decreases-read_any
decreases-read_any l = 2 * length l.text.now + 1

abbrev pub decreases-read_expression : goal.decreases-read_expression
decreases-read_expression l = 2 * length l.text.now

abbrev pub decreases-read_inside : goal.decreases-read_inside
decreases-read_inside l = 2 * length l.text.now + 1

abbrev pub decreases-read_list : goal.decreases-read_list
decreases-read_list l = 2 * length l.text.now

abbrev pub decreases-read_not : goal.decreases-read_not
decreases-read_not l = 2 * length l.text.now

-- what is left, after the expressions so far, is what there is to read, and in no other way
abbrev pub invariant-read_inside-loop-end : goal.invariant-read_inside-loop-end
invariant-read_inside-loop-end l = record {
  utf8 : shadow (Utf8 l.rest);
  onward : (es : Exprs) (r : Text) → Inside es l.rest r → Inside (exprs_of l.expressions.items ⊕ es) l.text r;
  only : (es : Exprs) (r : Text) → Inside es l.text r → (ds : Exprs) × (es ≡ exprs_of l.expressions.items ⊕ ds) × Inside ds l.rest r;
  place : IsRest l.text l.rest;
  shorter : length l.rest ≤ length l.text;
}

abbrev pub decreases-read_inside-loop-end : goal.decreases-read_inside-loop-end
decreases-read_inside-loop-end l = length l.rest
