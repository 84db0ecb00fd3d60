use Rattle.std.specs.Str.{IsUtf8}
use Rattle.filterset_loading.specs.{Files.IsFaultAt, Files.IsFileFault, declared.fault.FileFault.TheVariants.NotText}
use Rattle.filterset_loading.proofs.FaultLemmas.{OrMemory-weaker, unused_file}
use Rattle.filterset_loading.proofs.files.read_text.Goals as goal

pub returns-clause-refused : goal.returns-clause-refused
returns-clause-refused g c =
    let content = g.F.FileSource.content c.args.files.now in
    let fails = g.F.FileSource.fails c.args.files.now in
    let path = c.args.path.now in
    let no_text : ¬ IsUtf8 c.in-Ok.bytes.items = λ utf8. let fine = rw c.in-Err-from_utf8.is at (c.from_utf8.ensures.succeeds utf8) in absurd (cc) in
    OrMemory-weaker (IsFaultAt c.args.role path NotText) (IsFileFault content fails c.args.role (λ _ _. ⊥) path)
    (unused_file content fails c.args.role (λ _ _. ⊥) path NotText (c.in-Ok.bytes.items, c.in-Ok.ensures.bytes, no_text))
    c.in_file-in-Err-from_utf8.result c.in_file-in-Err-from_utf8.ensures
