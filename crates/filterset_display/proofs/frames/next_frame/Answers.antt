use Rattle.std.proofs.Common.{◌≤◌, length, inl, sym, ap, ◌∙◌, arith}
use Rattle.filterset_display.specs.Heads.{head_of}
use Rattle.filterset_display.proofs.FrameLemmas.{front-within, message-coming, message-found, no_end, no_head, no_message, too_short}
use Rattle.filterset_display.proofs.frames.next_frame.Goals as goal

pub overflow_sub-stream : goal.overflow_sub-stream
overflow_sub-stream c = front-within c.args.stream.now c.in-Whole.head _ c.front.ensures c.in-Whole.ensures.within.0

pub returns-then-stream-head : goal.returns-then-stream-head
returns-then-stream-head c =
    let found = sym (c.in-Whole.ensures.value ∙ ap head_of c.front.ensures) in
    let within = front-within c.args.stream.now c.in-Whole.head _ c.front.ensures c.in-Whole.ensures.within.0 in (
      too_short c.args.stream.now c.in-Whole.head c.in-Whole.length found c.if-stream-head.true,
      message-coming c.args.stream.now c.in-Whole.head c.in-Whole.length found c.if-stream-head.true within,
    )

pub returns-then-stream-lt-MOST_OF_HEAD : goal.returns-then-stream-lt-MOST_OF_HEAD
returns-then-stream-lt-MOST_OF_HEAD c =
    (no_head c.args.stream.now (sym (c.in-Partial.ensures.value ∙ ap head_of c.front.ensures)), inl c.if-stream-lt-MOST_OF_HEAD.true)

pub returns-else-stream-lt-MOST_OF_HEAD : goal.returns-else-stream-lt-MOST_OF_HEAD
returns-else-stream-lt-MOST_OF_HEAD c =
    no_end c.args.stream.now (sym (c.in-Partial.ensures.value ∙ ap head_of c.front.ensures)) c.if-stream-lt-MOST_OF_HEAD.false

pub returns-in-Malformed : goal.returns-in-Malformed
returns-in-Malformed c = no_message c.args.stream.now (sym (c.in-Malformed.ensures.value ∙ ap head_of c.front.ensures))

pub returns-else-stream-head : goal.returns-else-stream-head
returns-else-stream-head c =
    let within : c.in-Whole.head ≤ length c.args.stream.now = front-within c.args.stream.now c.in-Whole.head _ c.front.ensures c.in-Whole.ensures.within.0 in
    let room = c.if-stream-head.false in (
      omega arith,
      omega arith,
      message-found c.args.stream.now c.in-Whole.head c.in-Whole.length (sym (c.in-Whole.ensures.value ∙ ap head_of c.front.ensures)) room within,
    )
