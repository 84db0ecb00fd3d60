use Rattle.std.proofs.Common.{◌≡◌, All, IsUtf8, map, take, string_bytes}
use Rattle.filterset_matchers.proofs.matcher.pattern.texts_of_needles.Given as goal

-- the texts are the needles so far, each of which is UTF-8
abbrev pub invariant-loop-needle : goal.invariant-loop-needle
invariant-loop-needle l = record {
  same : map string_bytes l.texts.items ≡ map (λ n. n.items) (take l.needle-index l.needles);
  utf8 : All IsUtf8 (map string_bytes l.texts.items);
}
