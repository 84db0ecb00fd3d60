use Rattle.std.proofs.Common.{◌≡◌, ◌≤◌, List, ℕ, [], ◌∷◌, ◌++◌, length, Option, Some, None, refl, ap, ◌∙◌, subst, arith}
use Rattle.std.specs.Prelude.{codes, string_bytes, IfSome}
use Rattle.std.specs.{Option.option_map, declared.alloc.Global.Global, declared.string.String.String}
use Rattle.filterset_faults.specs.declared.error.ParseSingleError.{ParseSingleError}
use Rattle.filterset_language.specs.Parsing.Position.{Position, position_of, skip, after}
use Rattle.filterset_language.specs.Parsing.{PlatformNames.platform_in, RawTexts.raw_at, RawTexts.SpelledTo}
use Rattle.filterset_language.specs.Parsing.{Recovery.Recovers, Recovery.beside, Outcome.Faults}
use Rattle.filterset_language.specs.Parsing.Descent.{◌>>=◌, between, platform_at}
use Rattle.filterset_language.proofs.Matching.{platform_recovers, platform_found}
use Rattle.filterset_language.proofs.Recovering.{recovers_then, recovers_none, refused, reported, keeps_then}
use Rattle.filterset_grammar.specs.Tree.{Platform}
use Rattle.filterset_language.proofs.parsing.predicates.read_platform.Goals as goal

-- a platform that was not read
platform_unread : (p s : Position) (f g h : Faults) → s ≡ skip p → Recovers f g None (raw_at s) → length g ≤ length h → Recovers f h None (platform_at p)
platform_unread p s f g h skipped a le =
    let read = subst (λ (x : Position). Recovers f g None (raw_at x)) skipped a in
    recovers_none f g h (raw_at (skip p)) (λ x. after (codes ")") (skip x.1) >>= λ r. platform_in x.0 >>= λ y. Some (Platform y (between p.at x.1.at), r)) read le

-- a platform that was read and not named, which is reported
platform_unnamed : (p s q u : Position) (f g h i : Faults) (value : List ℕ) (one : ParseSingleError) → s ≡ skip p → Recovers f g (Some (value, q)) (raw_at s) → Recovers g h (Some u) (after (codes ")") (skip q)) → None ≡ platform_in value
    → i ≡ h ++ (one ∷ []) → Recovers f i None (platform_at p)
platform_unnamed p s q u f g h i value one skipped a b none pushed =
    let le : length i ≤ length i = omega arith in
    let read = subst (λ (x : Position). Recovers f g (Some (value, q)) (raw_at x)) skipped a in
    let unnamed : (platform_in value >>= λ y. Some (Platform y (between p.at q.at), u)) ≡ None = rw (← none) refl in
    recovers_then f g i (value, q) None (raw_at (skip p)) (λ x. after (codes ")") (skip x.1) >>= λ r. platform_in x.0 >>= λ y. Some (Platform y (between p.at x.1.at), r)) read
    (recovers_then g h i u None (after (codes ")") (skip q)) (λ r. platform_in value >>= λ y. Some (Platform y (between p.at q.at), r)) b (refused h i i None _ one pushed le unnamed))

pub returns-in_default-clause-value : goal.returns-in_default-clause-value
returns-in_default-clause-value c =
    let a = c.in_ok-value.value-is in
    let b = c.in_default.is in
    let is : c.in_ok-value.field-0.value ≡ None = cc in
    let q = position_of c.in_ok-value.field-0.end in
    let read = subst (λ (o : Option (String Global)). Recovers c.args.faults.now.items c.read_raw_text.new.faults.items (beside q (option_map string_bytes o)) (raw_at (position_of c.skip_blanks.result))) is c.in_ok-value.ensures.value in
    platform_unread (position_of c.args.input) (position_of c.skip_blanks.result) _ _ _ c.skip_blanks.ensures.value read c.in_ok-end.ensures.value.grows

pub returns-in_default-platform_of-clause-value : goal.returns-in_default-platform_of-clause-value
returns-in_default-platform_of-clause-value c =
    let a = c.in_ok-value.value-is in
    let b = c.in-Some.is in
    let is : c.in_ok-value.field-0.value ≡ Some c.in-Some.value = cc in
    let q = position_of c.in_ok-value.field-0.end in
    let read = subst (λ (o : Option (String Global)). Recovers c.args.faults.now.items c.read_raw_text.new.faults.items (beside q (option_map string_bytes o)) (raw_at (position_of c.skip_blanks.result))) is c.in_ok-value.ensures.value in
    platform_unnamed (position_of c.args.input) (position_of c.skip_blanks.result) q (position_of c.in_ok-end.end) _ _ _ _ (string_bytes c.in-Some.value) _ c.skip_blanks.ensures.value read c.in_ok-end.ensures.value
    (c.in_default-platform_of.ensures.value ∙ ap platform_in c.as_str.ensures.value) c.in_ok-push.ensures.items

pub returns-clause-value : goal.returns-clause-value
returns-clause-value c =
    let a = c.in_ok-value.value-is in
    let b = c.in-Some.is in
    let is : c.in_ok-value.field-0.value ≡ Some c.in-Some.value = cc in
    let q = position_of c.in_ok-value.field-0.end in
    let read = subst (λ (o : Option (String Global)). Recovers c.args.faults.now.items c.read_raw_text.new.faults.items (beside q (option_map string_bytes o)) (raw_at (position_of c.skip_blanks.result))) is c.in_ok-value.ensures.value in
    rw c.up_to-span.ensures (platform_recovers (position_of c.args.input) (position_of c.skip_blanks.result) q (position_of c.in_ok-end.end) _ _ _ (string_bytes c.in-Some.value) c.in-Some-platform_of.platform c.skip_blanks.ensures.value read c.in_ok-end.ensures.value
    (c.in-Some-platform_of.ensures.value ∙ ap platform_in c.as_str.ensures.value))

pub returns-in_default-platform_of-clause-stand : goal.returns-in_default-platform_of-clause-stand
returns-in_default-platform_of-clause-stand c =
    let a = c.in_ok-value.value-is in
    let b = c.in-Some.is in
    let is : c.in_ok-value.field-0.value ≡ Some c.in-Some.value = cc in
    let end = c.in_ok-value.field-0.end in
    let spelled = subst (λ (o : Option (String Global)). IfSome o (λ v. SpelledTo (position_of c.skip_blanks.result) (string_bytes v) (position_of end))) is c.in_ok-value.ensures.spelled in
    let behind = c.in_ok-value.ensures.behind.text ∙ c.skip_blanks.ensures.behind.text in
    let before = keeps_then _ _ _ _ _ _ c.skip_blanks.ensures.behind.text behind c.in_ok-value.ensures.stand c.in_ok-end.ensures.stand in
    λ old. reported _ _ _ _ c.in_ok-push.ensures.items
    (rw c.up_to-span.ensures (platform_found c.args.input c.skip_blanks.result end (string_bytes c.in-Some.value) c.skip_blanks.ensures.value spelled (rw (← c.as_str.ensures.value) c.in_default-platform_of.ensures.named))) (before old)
