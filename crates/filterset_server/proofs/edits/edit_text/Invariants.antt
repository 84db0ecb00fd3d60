use Rattle.std.proofs.Common.{◌≡◌, ◌≤◌, ◌++◌, drop, length, map, string_bytes}
use denote.Text.{Utf8}
use denote.Shadow.{shadow}
use Rattle.filterset_server.specs.Edits.{AreEditsOf, edit_row, edited, edited_from}
use Rattle.filterset_server.proofs.EditLemmas.{AreLeft}
use Rattle.filterset_server.proofs.edits.edit_text.Given as goal

-- What was written, and what is still to be written, make the text with the edits. The edits are ones of the text if and only
-- if those that are left are.
abbrev pub invariant-loop-edit : goal.invariant-loop-edit
invariant-loop-edit l = record {
  utf8 : shadow (Utf8 l.rest);
  within : l.at ≤ length l.fn.text;
  rest : l.rest ≡ drop l.at l.fn.text;
  made : string_bytes l.output ++ edited_from l.at l.rest (map edit_row (drop l.edit-index l.edits)) ≡ edited l.fn.text (map edit_row l.edits);
  left : AreLeft l.fn.text l.at (map edit_row (drop l.edit-index l.edits)) → AreEditsOf l.fn.text (map edit_row l.edits);
  whole : AreEditsOf l.fn.text (map edit_row l.edits) → AreLeft l.fn.text l.at (map edit_row (drop l.edit-index l.edits));
}
