use Rattle.std.proofs.Common.{◌≡◌, ℕ, ◌+◌, ◌<◌, List, length, get_or, drop, Ok, sym, ap, ◌∙◌, arith}
use Rattle.std.proofs.lemmas.List.{at_drop_more, at_drop_all, length_push}
use Rattle.std.proofs.lemmas.Iterator.{YieldsList-from_chars, Consumers.YieldsList-turn, Consumers.YieldsList-end}
use Rattle.std.proofs.lemmas.Result.{err_from_is_err_and, IfOk-weaker, IfErr-weaker}
use Rattle.std.specs.Str.{chars}
use Rattle.filterset_glob.specs.Opened.{state_of}
use Rattle.filterset_glob.specs.Reading.{State, step, finish, run, reading}
use Rattle.filterset_glob.proofs.{ReadIsSpelled.run-err, Opened.if_fault-weaker}
use Rattle.filterset_glob.proofs.reader.read_tokens.Goals as goal

run-drop : (t : List ℕ) (n c : ℕ) (s : State) → (n < length t) × (c ≡ get_or t n c) → run (drop n t) (Ok s) ≡ run (drop (n + 1) t) (step s c)
run-drop t n c s h = at_drop_more (λ l. run l (Ok s)) t n c h.0 ∙ ap (λ x. run (drop (n + 1) t) (step s x)) (sym h.1)

pub loop-character-preserved : goal.loop-character-preserved
loop-character-preserved c =
    let t : List ℕ = chars c.args.text.now in
    let n : ℕ = length c.loop-character.yielded in
    let turn = YieldsList-turn (YieldsList-from_chars c.args.text.now c.utf8.text cc) c.loop-character.yielded _ c.loop-character.yielded_by _ _ c.in-Some.character c.in-Some.is c.next.ensures.steps in
    ap (λ k. run (drop k t) (Ok (state_of c.read.new.self c.in_ok-class.class))) (length_push c.loop-character.yielded c.in-Some.character)
    ∙ ap (run (drop (n + 1) t)) (sym c.in_ok-class.ensures.read)
    ∙ sym (run-drop t n c.in-Some.character (state_of c.loop-character.reader c.loop-character.class) turn)
    ∙ c.loop-character.invariant

pub returns-in_err-class-clause-refused : goal.returns-in_err-class-clause-refused
returns-in_err-class-clause-refused c =
    let t : List ℕ = chars c.args.text.now in
    let n : ℕ = length c.loop-character.yielded in
    let s : State = state_of c.loop-character.reader c.loop-character.class in
    let turn = YieldsList-turn (YieldsList-from_chars c.args.text.now c.utf8.text cc) c.loop-character.yielded _ c.loop-character.yielded_by _ _ c.in-Some.character c.in-Some.is c.next.ensures.steps in
    let p = err_from_is_err_and c.from_residual-in_err-class.result c.from_residual-in_err-class.ensures.1 in
    rw (p.1, p.2) (if_fault-weaker c.in_err-class.field-0.0 _ _
    (λ fault stopped. sym c.loop-character.invariant ∙ run-drop t n c.in-Some.character s turn ∙ ap (run (drop (n + 1) t)) stopped ∙ run-err (drop (n + 1) t) fault)
    c.in_err-class.ensures.refused)

pub returns-clause-read : goal.returns-clause-read
returns-clause-read c =
    let t : List ℕ = chars c.args.text.now in
    let s : State = state_of c.loop-character.reader c.loop-character.class in
    let end = YieldsList-end (YieldsList-from_chars c.args.text.now c.utf8.text cc) c.loop-character.yielded _ c.loop-character.yielded_by _ _ c.in-None.is c.next.ensures.steps in
    let is : reading t ≡ finish s = sym c.loop-character.invariant ∙ at_drop_all (λ l. run l (Ok s)) t (length c.loop-character.yielded) (omega (arith, end.1)) in
    IfOk-weaker c.finish.result _ _ (λ tokens e. is ∙ e) c.finish.ensures.read

pub returns-clause-refused : goal.returns-clause-refused
returns-clause-refused c =
    let t : List ℕ = chars c.args.text.now in
    let s : State = state_of c.loop-character.reader c.loop-character.class in
    let end = YieldsList-end (YieldsList-from_chars c.args.text.now c.utf8.text cc) c.loop-character.yielded _ c.loop-character.yielded_by _ _ c.in-None.is c.next.ensures.steps in
    let is : reading t ≡ finish s = sym c.loop-character.invariant ∙ at_drop_all (λ l. run l (Ok s)) t (length c.loop-character.yielded) (omega (arith, end.1)) in
    IfErr-weaker c.finish.result _ _ (λ refusal. if_fault-weaker refusal _ _ (λ fault e. is ∙ e)) c.finish.ensures.refused
