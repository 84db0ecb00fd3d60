use Rattle.std.proofs.Common.{◌≡◌, ℕ, List, [], ◌∷◌, ◌++◌, Bool, true, false, Some, chars, drop, length, string_bytes, sym, ap, ◌∙◌, subst, arith, append-nil}
use Rattle.std.proofs.lemmas.{List.at_drop_all, Iterator.YieldsList-from_chars}
use Rattle.std.proofs.lemmas.Iterator.Consumers.{YieldsList-turn, YieldsList-end}
use Rattle.filterset_matchers.specs.Pattern.{plain_text}
use Rattle.filterset_matchers.proofs.Unescaping.{goes_on, passes_escaped, passes_plain, passes_slash, stops_escaped, stops_special, turned}
use Rattle.filterset_matchers.proofs.matcher.plain.unescape.Goals as goal

pub loop-character-preserved-then-is_escaped : goal.loop-character-preserved-then-is_escaped
loop-character-preserved-then-is_escaped c =
    let yielded = c.loop-character.yielded in let ch : ℕ = c.in-Some.character in let found : List ℕ = string_bytes c.loop-character.text in
    let t : List ℕ = chars c.args.pattern.now in let rest : List ℕ = drop (length (yielded ++ ch ∷ [])) t in
    let turn = YieldsList-turn (YieldsList-from_chars c.args.pattern.now c.utf8.pattern cc) yielded _ c.loop-character.yielded_by _ _ ch c.in-Some.is c.next.ensures.steps in
    let here = turned true found t yielded ch (plain_text c.args.pattern.now) turn (rw c.if-is_escaped.true at c.loop-character.invariant) in
    ap (λ (w : List ℕ). goes_on false w rest) c.in_ok-push.ensures.bytes ∙ sym (passes_escaped found rest ch (sym c.may_be_escaped.ensures ∙ c.if-not-may_be_escaped.false)) ∙ here

pub returns-then-not-may_be_escaped : goal.returns-then-not-may_be_escaped
returns-then-not-may_be_escaped c =
    let yielded = c.loop-character.yielded in let ch : ℕ = c.in-Some.character in let found : List ℕ = string_bytes c.loop-character.text in
    let t : List ℕ = chars c.args.pattern.now in let rest : List ℕ = drop (length (yielded ++ ch ∷ [])) t in
    let turn = YieldsList-turn (YieldsList-from_chars c.args.pattern.now c.utf8.pattern cc) yielded _ c.loop-character.yielded_by _ _ ch c.in-Some.is c.next.ensures.steps in
    let here = turned true found t yielded ch (plain_text c.args.pattern.now) turn (rw c.if-is_escaped.true at c.loop-character.invariant) in
    sym (stops_escaped found rest ch (sym c.may_be_escaped.ensures ∙ c.if-not-may_be_escaped.true)) ∙ here

pub loop-character-preserved-then-character-eq92 : goal.loop-character-preserved-then-character-eq92
loop-character-preserved-then-character-eq92 c =
    let yielded = c.loop-character.yielded in let ch : ℕ = c.in-Some.character in let found : List ℕ = string_bytes c.loop-character.text in
    let t : List ℕ = chars c.args.pattern.now in let rest : List ℕ = drop (length (yielded ++ ch ∷ [])) t in
    let turn = YieldsList-turn (YieldsList-from_chars c.args.pattern.now c.utf8.pattern cc) yielded _ c.loop-character.yielded_by _ _ ch c.in-Some.is c.next.ensures.steps in
    let here = turned false found t yielded ch (plain_text c.args.pattern.now) turn (rw c.if-is_escaped.false at c.loop-character.invariant) in
    sym (passes_slash found rest ch c.if-character-eq92.true) ∙ here

pub returns-then-is_special : goal.returns-then-is_special
returns-then-is_special c =
    let yielded = c.loop-character.yielded in let ch : ℕ = c.in-Some.character in let found : List ℕ = string_bytes c.loop-character.text in
    let t : List ℕ = chars c.args.pattern.now in let rest : List ℕ = drop (length (yielded ++ ch ∷ [])) t in
    let turn = YieldsList-turn (YieldsList-from_chars c.args.pattern.now c.utf8.pattern cc) yielded _ c.loop-character.yielded_by _ _ ch c.in-Some.is c.next.ensures.steps in
    let here = turned false found t yielded ch (plain_text c.args.pattern.now) turn (rw c.if-is_escaped.false at c.loop-character.invariant) in
    sym (stops_special found rest ch c.if-character-eq92.false (sym c.is_special.ensures ∙ c.if-is_special.true)) ∙ here

pub loop-character-preserved : goal.loop-character-preserved
loop-character-preserved c =
    let yielded = c.loop-character.yielded in let ch : ℕ = c.in-Some.character in let found : List ℕ = string_bytes c.loop-character.text in
    let t : List ℕ = chars c.args.pattern.now in let rest : List ℕ = drop (length (yielded ++ ch ∷ [])) t in
    let turn = YieldsList-turn (YieldsList-from_chars c.args.pattern.now c.utf8.pattern cc) yielded _ c.loop-character.yielded_by _ _ ch c.in-Some.is c.next.ensures.steps in
    let here = turned false found t yielded ch (plain_text c.args.pattern.now) turn (rw c.if-is_escaped.false at c.loop-character.invariant) in
    subst (λ (b : Bool). goes_on b (string_bytes c.push-else-character-eq92.new.self) rest ≡ plain_text c.args.pattern.now) (sym c.if-is_escaped.false)
    (ap (λ (w : List ℕ). goes_on false w rest) c.in_ok-push-2.ensures.bytes ∙ sym (passes_plain found rest ch c.if-character-eq92.false (sym c.is_special.ensures ∙ c.if-is_special.false)) ∙ here)

pub returns-then-is_escaped-2 : goal.returns-then-is_escaped-2
returns-then-is_escaped-2 c =
    let t : List ℕ = chars c.args.pattern.now in
    let yielded = c.loop-character.yielded in
    let found : List ℕ = string_bytes c.loop-character.text in
    let end = YieldsList-end (YieldsList-from_chars c.args.pattern.now c.utf8.pattern cc) yielded _ c.loop-character.yielded_by _ _ c.in-None.is c.next.ensures.steps in
    let so_far : goes_on true found (drop (length yielded) t) ≡ plain_text c.args.pattern.now = rw c.if-is_escaped-2.true at c.loop-character.invariant in
    let all = at_drop_all (goes_on true found) t (length yielded) (omega (arith, end.1)) in
    sym all ∙ so_far

pub returns : goal.returns
returns c =
    let t : List ℕ = chars c.args.pattern.now in
    let yielded = c.loop-character.yielded in
    let found : List ℕ = string_bytes c.loop-character.text in
    let end = YieldsList-end (YieldsList-from_chars c.args.pattern.now c.utf8.pattern cc) yielded _ c.loop-character.yielded_by _ _ c.in-None.is c.next.ensures.steps in
    let so_far : goes_on false found (drop (length yielded) t) ≡ plain_text c.args.pattern.now = rw c.if-is_escaped-2.false at c.loop-character.invariant in
    let all = at_drop_all (goes_on false found) t (length yielded) (omega (arith, end.1)) in
    sym (ap Some (append-nil found)) ∙ sym all ∙ so_far
