use Rattle.std.proofs.Common.{◌≤◌, refl, ap, ◌∙◌, arith}
use Rattle.std.specs.Option.{option_map}
use Rattle.filterset_language.specs.{Parsing.Position.position_of, Parsed.LiesOnBody}
use Rattle.filterset_language.proofs.{Matching.matching_gives, Outcomes.gives_as}
use Rattle.filterset_matchers.specs.{Matchers.matcher_of, Matcher.Matcher}
use Rattle.filterset_grammar.specs.{Tree.Leaf, Tree.Matching, Tree.Set, Patterns.LeafIsRead}
use Rattle.filterset_faults.specs.declared.span.SourceSpan.{SourceSpan}
use Rattle.filterset_language.proofs.parsing.predicates.read_matching.Goals as goal

pub returns-clause-value : goal.returns-clause-value
returns-clause-value c =
    let i = c.args.input in
    let predicate = c.args.name in
    let end = c.in_ok-matcher.matcher.end in
    let le : i.offset ≤ end.offset =
    omega (arith, c.skip_blanks.ensures.behind.end, c.skip_blanks.ensures.behind.shorter, c.in_ok-matcher.ensures.behind.end, c.in_ok-matcher.ensures.behind.shorter)
    in
    let read =
    matching_gives c.skip_blanks.result.text.now i.text.now predicate (position_of i) (position_of c.skip_blanks.result) (position_of end) (position_of c.in_ok-end.end) _ _ _ _ c.skip_blanks.ensures.behind.text c.skip_blanks.ensures.value le c.in_ok-matcher.ensures.value c.in_ok-end.ensures.value
    in
    let is = c.make_leaf.ensures ∙ ap (λ (s : SourceSpan). option_map (λ (m : Matcher). Matching predicate m s) (option_map matcher_of c.in_ok-matcher.matcher.value)) c.up_to.ensures in
    gives_as LeafIsRead (λ (l : Leaf SourceSpan). LiesOnBody i.text.now (Set l)) _ _ _ _ _ _ _ read is refl
