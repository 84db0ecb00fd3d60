-- What is known of the fault that a call returns.
use Rattle.std.proofs.Common.{Option, subst, sym}
use Rattle.std.specs.declared.io.Error.{Error}
use Rattle.filterset_display.specs.Columns.{Text}
use Rattle.filterset_json.specs.declared.fault.RunFault.TheVariants.{Memory}
use Rattle.filterset_loading.specs.Files.{IsFaultAt, IsFileFault, IsUnused, OrMemory}
use Rattle.filterset_loading.specs.declared.fault.CommandFault.{CommandFault, TheVariants.File, TheVariants.Run}
use Rattle.filterset_loading.specs.declared.fault.{FileFault.FileFault, FileRole.FileRole}

-- what follows from each fault but out of memory
pub OrMemory-weaker : (P Q : CommandFault → Type 0) → ((fault : CommandFault) → P fault → Q fault) → (fault : CommandFault) → OrMemory P fault → OrMemory Q fault
OrMemory-weaker P Q f (Run (Memory refused)) h = tt
OrMemory-weaker P Q f fault h = f fault h

-- a file that is not used
pub unused_file : (content : Text → Option Text) (fails : Text → Error → Type 0) (role : FileRole) (refuses : Text → FileFault → Type 0) (path : Text) (own : FileFault) →
    IsUnused (content path) (fails path) refuses own → (fault : CommandFault) → IsFaultAt role path own fault → IsFileFault content fails role refuses path fault
unused_file content fails role refuses path own unused (File as_role at is) h = (h.0, h.1, subst (IsUnused (content path) (fails path) refuses) (sym h.2) unused)
unused_file content fails role refuses path own unused fault h = absurd h
