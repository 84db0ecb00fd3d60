use Rattle.std.proofs.lemmas.List.{append-nil}
use Rattle.filterset_listing.specs.Listing.{tests_of, uncounted_of, unknown_of}
use Rattle.filterset_listing.proofs.MarkingLemmas.{first_none, first_one}
use Rattle.filterset_listing.proofs.listing.json.first_answers.Goals as goal

pub returns-in_default : goal.returns-in_default
returns-in_default c = rw (first_none c.args.all.now c.in_default.len_below) c.in_ok-answers.ensures

pub returns : goal.returns
returns c =
    let picks = c.picks-item.result in
    let are = c.in_ok-put.ensures _ c.in_ok-answers.ensures in
    rw (first_one c.args.all.now picks c.in-len1-up.len_at_least c.picks-item.is, append-nil (uncounted_of picks), append-nil (tests_of picks), append-nil (unknown_of picks)) are
