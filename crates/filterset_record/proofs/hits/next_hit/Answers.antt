use Rattle.std.proofs.Common.{length, ap}
use Rattle.filterset_record.specs.Columns.{names_of}
use Rattle.filterset_record.proofs.HitLemmas.{is_hit, no_hit, place_within, rest_of}
use Rattle.filterset_record.proofs.hits.next_hit.Goals as goal

pub slice_bounds-find-count : goal.slice_bounds-find-count
slice_bounds-find-count c = place_within c.args.names.now c.args.from c.as_bytes-text.result.now c.as_bytes-text.ensures.value c.requires.place

pub slice_bounds-find-start : goal.slice_bounds-find-start
slice_bounds-find-start c = place_within c.args.names.now c.args.from c.as_bytes-text.result.now c.as_bytes-text.ensures.value c.requires.place

pub returns-in_err-found : goal.returns-in_err-found
returns-in_err-found c =
    let hay = rest_of c.args.names.now c.args.from c.as_bytes-text.result.now c.as_bytes-text.ensures.value c.requires.place in
    rw c.from_residual.ensures (no_hit (names_of c.args.names.now) c.args.finder.now c.args.from.position _ hay c.in_err-found.ensures)

pub returns : goal.returns
returns c =
    let hay = rest_of c.args.names.now c.args.from c.as_bytes-text.result.now c.as_bytes-text.ensures.value c.requires.place in
    let found = c.in_ok-found.ensures in
    let name = c.name_with_byte-position.ensures in
    is_hit (names_of c.args.names.now) c.args.finder.now c.args.from.position c.args.from.start _ _ c.in_ok-found.found c.name_with_byte-position.result.0 c.name_with_byte-position.result.1 (length c.needle.result.now)
    hay c.requires.place.1 c.requires.some (ap length c.needle.ensures) found name.position.0 name.position.1 name.start name.end.0 name.end.1
