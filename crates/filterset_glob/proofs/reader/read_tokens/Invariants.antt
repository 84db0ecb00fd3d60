use Rattle.std.proofs.Common.{◌≡◌, length, drop, Ok}
use Rattle.std.specs.Str.{chars}
use Rattle.filterset_glob.specs.{Opened.state_of, Reading.run, Reading.reading}
use Rattle.filterset_glob.proofs.reader.read_tokens.Given as goal

-- the rest, read from what stands open, is the whole text read
abbrev pub invariant-loop-character : goal.invariant-loop-character
invariant-loop-character l =
    run (drop (length l.yielded) (chars l.text)) (Ok (state_of l.reader l.class)) ≡ reading (chars l.text)
