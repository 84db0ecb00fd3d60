-- The exit status of the program.
use Rattle.std.specs.Prelude.{ℕ, true, false, Result, Ok, Err}
use Rattle.filterset_entries.specs.declared.text.Ending.{Ending}
use Rattle.filterset_entries.specs.declared.text.Ending.TheVariants.{Fine, Faulty, Differing, Unknown}
use Rattle.filterset_display.specs.declared.ending.Ending.{Ending as SessionEnding}
use Rattle.filterset_display.specs.declared.ending.Ending.TheVariants.{Exit, InputEnded, Malformed}
use Rattle.filterset.specs.declared.ending.Ended.{Ended, TheVariants.Answered, TheVariants.Served}
use Rattle.filterset_loading.specs.declared.fault.CommandFault.{CommandFault}
use Rattle.filterset_loading.specs.declared.fault.CommandFault.TheVariants.{File, Run, Unwritten}
use Rattle.filterset_loading.specs.declared.fault.FileFault.{FileFault, TheVariants.Unread}

-- the exit status after a fault of a file: 3 if reading it failed, and 2 if its content is rejected
abbrev pub file_status : FileFault → ℕ
file_status (Unread error) = 3
file_status _ = 2

-- the exit status after an answer
abbrev pub answer_status : Ending → ℕ
answer_status Fine = 0
answer_status Faulty = 1
answer_status Differing = 1
answer_status Unknown = 4

-- the exit status after the session of an editor, which is in order only by `exit` after `shutdown`
abbrev pub session_status : SessionEnding → ℕ
session_status (Exit true) = 0
session_status (Exit false) = 1
session_status InputEnded = 1
session_status Malformed = 2

-- the exit status of a command
abbrev pub status_of : Result Ended CommandFault → ℕ
status_of (Ok (Answered ending)) = answer_status ending
status_of (Ok (Served ending)) = session_status ending
status_of (Err (File role path fault)) = file_status fault
status_of (Err (Run fault)) = 3
status_of (Err (Unwritten error)) = 3
status_of (Err _) = 2
