-- The exact texts of labels and help.
use Rattle.std.specs.Prelude.{List, ℕ, codes, ◌++◌}
use Rattle.filterset_glob.specs.FaultTexts.{glob_fault_text}
use Rattle.filterset_faults.specs.{Texts.reason_text, declared.text.Label.Label}
use Rattle.filterset_faults.specs.declared.text.Label.TheVariants.{Text, Glob, Reason, BinaryOp, UnaryOp}
use Rattle.filterset_faults.specs.declared.text.Help.{Help, TheVariants.Infix, TheVariants.Prefix}

abbrev pub label_text : Label → List ℕ
label_text (Text text) = text.now
label_text (Glob fault) = glob_fault_text fault.now
label_text (Reason reason) = reason_text reason
label_text (BinaryOp suggest) = codes "`" ++ suggest.now ++ codes "` is a binary operator"
label_text (UnaryOp op) = codes "`" ++ op.now ++ codes "` is not a recognized operator"

abbrev pub help_text : Help → List ℕ
help_text (Infix suggest) = codes "use `<expr> " ++ suggest.now ++ codes " <expr>` instead"
help_text (Prefix suggest) = codes "use `" ++ suggest.now ++ codes " <expr>` instead"
