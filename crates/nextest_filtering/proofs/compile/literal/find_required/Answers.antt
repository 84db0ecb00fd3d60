use Rattle.std.specs.Str.{chars}
use Rattle.regex.specs.Patterns.{Reads, default_config}
use Rattle.regex_extract.specs.Needles.{ContainsNeedle, needles_of}
use Rattle.regex_hir.specs.Meaning.{meaning}
use Rattle.regex_syntax.specs.Grammar.{read}
use Rattle.filterset_matchers.proofs.{PatternLemmas.IsSomeAnd-map, TextParts.HasTextParts-of_tree}
use Rattle.filterset_matchers.specs.Compiled.{IsReadAs}
use Rattle.nextest_filtering.proofs.Patterns.{needles_stand}
use Rattle.nextest_filtering.proofs.compile.literal.find_required.Goals as goal

pub returns-in-Some-clause-stands : goal.returns-in-Some-clause-stands
unfolding Reads
returns-in-Some-clause-stands c =
    let pattern = c.args.pattern.now in
    let tree = c.in-Ok.parsed.hir in
    let reading : IsReadAs pattern tree = record {
      same = IsSomeAnd-map (read default_config (chars pattern)) (rw c.default.ensures at c.in-Ok.ensures.ok) (λ x h. (h.0, h.1));
      text = HasTextParts-of_tree _ (rw c.default.ensures at c.in-Ok.ensures.formed);
    } in
    let contains : ContainsNeedle (meaning tree) (needles_of c.in-Some.texts) = rw c.in-Some.is at c.in_ok-texts.ensures.contains in
    needles_stand pattern tree (needles_of c.in-Some.texts) reading contains
