use Rattle.std.proofs.Common.{drop, inl, inr, refl, subst, sym, take}
use Rattle.std.proofs.lemmas.List.{take-append-drop}
use Rattle.std.specs.List.{slice_range}
use Rattle.filterset_display.specs.Frames.{IsPartial}
use Rattle.filterset_display.proofs.SessionLemmas.{read-all, reads-on}
use Rattle.filterset_display.proofs.opening.read_opening.Goals as goal

pub returns-in-Malformed-clause-opening : goal.returns-in-Malformed-clause-opening
returns-in-Malformed-clause-opening g c =
    (c.loop-read.invariant.consumed, inl (inr (refl, rw c.as_slice.ensures.value at c.in-Malformed.ensures)))

pub returns-in-Message-clause-opening : goal.returns-in-Message-clause-opening
returns-in-Message-clause-opening g c =
    let stream = c.loop-read.read.items in
    let to = c.in-Message.to in
    let (ordered, within, framed) = rw c.as_slice.ensures.value at c.in-Message.ensures in
    let gives = rw c.deref.ensures.value at c.in_ok-options-in-Message.ensures in (
      c.loop-read.invariant.consumed,
      inl (inl (slice_range stream c.in-Message.from to, (take to stream, drop to stream, framed, sym (take-append-drop to stream)), gives)),
    )

pub returns-then-not-branch-clause-opening : goal.returns-then-not-branch-clause-opening
returns-then-not-branch-clause-opening g c =
    let left = g.R.Source.left in
    let now = left c.loop-read.input in
    let later = left c.read_piece.new.input in
    let stream = c.loop-read.read.items in
    let all = c.read_piece.new.read.items in
    let found = c.in_ok-read_piece.field-0 in
    let piece = c.in_ok-read_piece.ensures.piece in
    let (same, at_end) = read-all now later stream all found c.if-not-branch.true piece in
    let (partial, coming) = rw c.as_slice.ensures.value at c.in-Partial.ensures in (
      reads-on (left c.args.input.now) now later stream all found c.loop-read.invariant.consumed piece,
      inr (refl, subst IsPartial (sym same) partial, at_end),
    )
