use Rattle.std.proofs.Common.{refl, subst, sym, ◌∙◌}
use Rattle.std.specs.List.{slice_range}
use Rattle.filterset_display.specs.{Frames.IsPartial, Machine.state_of}
use Rattle.filterset_display.proofs.FrameLemmas.{taken-frame}
use Rattle.filterset_display.proofs.SessionLemmas.{read-all, serving-answered, serving-on}
use Rattle.filterset_display.proofs.serving.take_turn.Goals as goal

pub returns-in-Malformed-clause-ends : goal.returns-in-Malformed-clause-ends
returns-in-Malformed-clause-ends g c = rw c.as_slice.ensures.value at c.in-Malformed.ensures

pub returns-in_ok-write_all-in-Message-clause-goes_on : goal.returns-in_ok-write_all-in-Message-clause-goes_on
returns-in_ok-write_all-in-Message-clause-goes_on g c =
    let stream = c.args.waiting.now.items in
    let from = c.in-Message.from in
    let to = c.in-Message.to in
    let (frame, is, front) =
    taken-frame stream c.as_slice.result.now (slice_range stream from to) c.drop_front.new.stream.items from to c.as_slice.ensures.value
    c.in-Message.ensures refl c.drop_front.ensures in
    let appends = rw c.as_bytes.ensures.value at c.in_ok-write_all-in-Message.ensures.whole in
    λ left taken serving.
    serving-answered (g.L.Language.says c.args.language.now) left _ taken _ _ (state_of c.args.server.now) _ stream frame (slice_range stream from to)
    c.drop_front.new.stream.items _ serving is front (rw c.deref.ensures.value at c.in_ok-written-in-Message.ensures) appends

pub returns-in_ok-write_all-in-Message-clause-ends : goal.returns-in_ok-write_all-in-Message-clause-ends
returns-in_ok-write_all-in-Message-clause-ends g c = c.ending_of.ensures.in_phase c.drop_front.new.stream.items

pub returns-in_ok-write_all-in-Message-clause-ended : goal.returns-in_ok-write_all-in-Message-clause-ended
returns-in_ok-write_all-in-Message-clause-ended g c = λ e. absurd (c.ending_of.ensures.not_at_end e)

pub returns-then-branch-clause-goes_on : goal.returns-then-branch-clause-goes_on
returns-then-branch-clause-goes_on g c =
    serving-on (g.L.Language.says c.args.language.now) (g.R.Source.left c.args.input.now) (g.R.Source.left c.read_piece.new.input)
    (g.W.Sink.taken c.args.output.now) (state_of c.args.server.now) c.args.waiting.now.items c.read_piece.new.read.items
    c.in_ok-read_piece-in-Partial.field-0 c.in_ok-read_piece-in-Partial.ensures.piece

pub returns-else-branch-clause-ends : goal.returns-else-branch-clause-ends
returns-else-branch-clause-ends g c =
    let (same, at_end) =
    read-all (g.R.Source.left c.args.input.now) (g.R.Source.left c.read_piece.new.input) c.args.waiting.now.items c.read_piece.new.read.items
    c.in_ok-read_piece-in-Partial.field-0 c.if-branch.false c.in_ok-read_piece-in-Partial.ensures.piece in
    let (partial, coming) = rw c.as_slice.ensures.value at c.in-Partial.ensures in
    subst IsPartial (sym same) partial
