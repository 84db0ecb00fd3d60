use Rattle.std.proofs.Common.{◌≡◌, string_bytes, take}
use Rattle.std.specs.List.{flat_map}
use Rattle.filterset_listing.specs.ListText.{picks_text}
use Rattle.filterset_listing.proofs.listing.text.list_text.Given as goal

-- the binaries so far were written
abbrev pub invariant-loop-picks : goal.invariant-loop-picks
invariant-loop-picks l =
    string_bytes l.text ≡ flat_map picks_text (take l.picks-index l.all)
