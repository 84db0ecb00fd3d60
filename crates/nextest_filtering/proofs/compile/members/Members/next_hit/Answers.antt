use Rattle.std.proofs.Common.{◌≡◌, ◌-◌, ◌∙◌, ap, drop, length, take, arith}
use Rattle.std.proofs.lemmas.List.{take_rest}
use Rattle.nextest_filtering.specs.Joined.{joined, offset}
use Rattle.nextest_filtering.proofs.NameHits.{end_read, ends_counted, is_hit, no_hit, start_within}
use Rattle.nextest_filtering.proofs.compile.members.Members.next_hit.Goals as goal

pub slice_bounds-find-count : goal.slice_bounds-find-count
slice_bounds-find-count c =
    let self = c.args.self.now in
    omega (arith, c.start_of-start.ensures, start_within self.packages.items c.args.next c.requires.place, ap length (c.as_bytes.ensures.value ∙ self.named))

pub slice_bounds-find-start : goal.slice_bounds-find-start
slice_bounds-find-start c =
    let self = c.args.self.now in
    omega (arith, c.start_of-start.ensures, start_within self.packages.items c.args.next c.requires.place, ap length (c.as_bytes.ensures.value ∙ self.named))

pub returns-in_err-found : goal.returns-in_err-found
returns-in_err-found c =
    let self = c.args.self.now in
    let packages = self.packages.items in
    let text = c.as_bytes.result.now in
    let start = c.start_of-start.result in
    let hay : take (length text - start) (drop start text) ≡ drop (offset packages c.args.next) (joined packages) =
    take_rest text start ∙ ap (λ xs. drop start xs) (c.as_bytes.ensures.value ∙ self.named) ∙ ap (λ n. drop n (joined packages)) c.start_of-start.ensures in
    rw c.from_residual.ensures (no_hit packages c.args.finder.now c.args.next _ hay c.in_err-found.ensures)

pub index-requires : goal.index-requires
index-requires c =
    let self = c.args.self.now in
    omega (arith, c.position_of-position.ensures.within, ends_counted self.packages.items self.ends.items self.ended, self.ends.ok.0)

pub returns : goal.returns
returns c =
    let self = c.args.self.now in
    let packages = self.packages.items in
    let text = c.as_bytes.result.now in
    let start = c.start_of-start.result in
    let hay : take (length text - start) (drop start text) ≡ drop (offset packages c.args.next) (joined packages) =
    take_rest text start ∙ ap (λ xs. drop start xs) (c.as_bytes.ensures.value ∙ self.named) ∙ ap (λ n. drop n (joined packages)) c.start_of-start.ensures in
    let name = c.position_of-position.ensures in
    let end = end_read packages self.ends.items c.position_of-position.result c.index.result.now self.ended name.within c.index.ensures in
    is_hit packages c.args.finder.now c.args.next start _ _ c.in_ok-found.found c.position_of-position.result c.index.result.now (length c.needle.result.now)
    hay c.start_of-start.ensures c.requires.some (ap length c.needle.ensures) c.in_ok-found.ensures name.later name.within name.start (omega (arith, name.end, end)) end
