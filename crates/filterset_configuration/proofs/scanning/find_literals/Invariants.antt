use Rattle.std.proofs.Common.{◌-◌, length}
use Rattle.filterset_configuration.proofs.scanning.find_literals.Given as goal

abbrev pub decreases-bytes : goal.decreases-bytes
decreases-bytes l = length l.file - l.at
