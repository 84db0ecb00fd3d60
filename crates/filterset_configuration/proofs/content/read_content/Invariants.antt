use Rattle.std.proofs.Common.{◌≡◌, ℕ, ◌-◌, ◌≤◌, Some, drop, length}
use Rattle.toml_parser.specs.Strings.{body}
use Rattle.filterset_json.specs.Shape.{Text}
use Rattle.filterset_configuration.proofs.PieceLemmas.{HasCome}
use Rattle.filterset_configuration.proofs.content.read_content.Given as goal

abbrev pub invariant-pieces : goal.invariant-pieces
invariant-pieces l = record {
  within : l.at ≤ length l.file;
  come : (n : ℕ) (after : Text) → body l.delimiter.byte l.delimiter.is_multi n (drop l.fn.start l.file) ≡ Some (l.text, after)
      → HasCome l.delimiter l.file l.fn.start l.text after l.at l.origins.items;
}

abbrev pub decreases-pieces : goal.decreases-pieces
decreases-pieces l = length l.file - l.at
