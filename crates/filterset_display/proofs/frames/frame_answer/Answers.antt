use Rattle.filterset_display.proofs.WrittenLemmas.{written-back}
use Rattle.filterset_display.proofs.frames.frame_answer.Goals as goal

pub returns-in_default-clause-reads_back : goal.returns-in_default-clause-reads_back
returns-in_default-clause-reads_back c = written-back

pub returns-in_err-text-clause-reads_back : goal.returns-in_err-text-clause-reads_back
returns-in_err-text-clause-reads_back c = written-back

pub returns-clause-reads_back : goal.returns-clause-reads_back
returns-clause-reads_back c = written-back
