use Rattle.std.proofs.Common.{◌≡◌, ◌∙◌, sym}
use Rattle.std.specs.Str.{chars}
use Rattle.std.proofs.lemmas.{Iterator.YieldsList-from_chars, Iterator.Consumers.YieldsList-end, List.map-id}
use Rattle.filterset_texts.specs.Parts.{Fits}
use Rattle.filterset_texts.proofs.{Cuts.in_turn_nothing, Spelling.spelled_more}
use Rattle.filterset_texts.proofs.texts.append_text.Goals as goal

pub loop-c-preserved : goal.loop-c-preserved
loop-c-preserved c =
    rw c.in_ok-push.ensures.items
    (spelled_more c.args.sequence.now.items c.loop-c.sequence.items c.loop-c.yielded c.in-Some.c c.in_ok-make_literal.field-0 c.in_ok-make_literal.ensures c.loop-c.invariant)

pub returns : goal.returns
returns c =
    let whole = YieldsList-end (YieldsList-from_chars c.args.text.now c.utf8.text cc) c.loop-c.yielded _ c.loop-c.yielded_by _ _ c.in-None.is c.next.ensures.steps in
    rw (sym (map-id c.loop-c.yielded) ∙ whole.0) at c.loop-c.invariant
