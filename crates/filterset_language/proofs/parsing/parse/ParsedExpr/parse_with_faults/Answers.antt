use Rattle.std.proofs.Common.{length, arith, inl, inr, ⊎_elim}
use Rattle.filterset_language.specs.Views.{tree_of}
use Rattle.filterset_language.proofs.SpelledIsRead.{whole_again}
use Rattle.filterset_language.proofs.{ReadIsSpelled.whole_takes, ReadIsSpelled.front_takes_whole, Recovering.if_ok}
use Rattle.filterset_language.proofs.WholeTextReading.{spelled_whole, none_seen}
use Rattle.filterset_language.proofs.parsing.parse.ParsedExpr.parse_with_faults.Goals as goal

pub returns-clause-clean : goal.returns-clause-clean
returns-clause-clean c = if_ok c.read_whole.result _ _ (λ p w empty.
    let h = w.clean empty in
    (h.expr, h.is, record { spelled = whole_takes _ c.args.input.now h.expr h.read; patterns = h.patterns })) c.read_whole.ensures

pub returns-clause-spelled : goal.returns-clause-spelled
returns-clause-spelled c = if_ok c.read_whole.result _ _ (λ p w e spells.
    ⊎_elim
    (λ a. inl a)
    (λ b. inr (record { no_tree = none_seen tree_of p.tree b.0; some = b.1; bodies = b.2 }))
    (spelled_whole c.args.input.now _ _ e w (whole_again c.args.input.now e spells (length c.args.input.now) (omega arith)))) c.read_whole.ensures

pub returns-clause-stand : goal.returns-clause-stand
returns-clause-stand c = if_ok c.read_whole.result _ _ (λ p w. w.stand) c.read_whole.ensures

pub returns-clause-front : goal.returns-clause-front
returns-clause-front c = if_ok c.read_whole.result _ _ (λ p w span one.
    let r = w.front span one in
    (r.expr, r.is, front_takes_whole (length c.args.input.now) c.args.input.now r.expr _ r.read)) c.read_whole.ensures

pub returns-clause-last : goal.returns-clause-last
returns-clause-last c = if_ok c.read_whole.result _ _ (λ p w. w.last) c.read_whole.ensures
