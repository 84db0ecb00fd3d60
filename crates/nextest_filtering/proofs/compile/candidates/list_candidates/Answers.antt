use Rattle.std.proofs.Common.{◌≡◌, ◌<◌, ℕ, List, [], Contains, get_or, length, map, sym, ◌∙◌, ap, subst, ⊎_elim, arith}
use Rattle.std.specs.Str.Iter.{HasSubslice}
use Rattle.std.proofs.lemmas.{Bool.cases_lt, List.get_or_default, List.length-map}
use Rattle.std.proofs.lemmas.List.Elements.{Contains-append_left, Contains-append_right, Contains-append_cases}
use Rattle.std.proofs.lemmas.Str.{IsUtf8-string_bytes}
use Rattle.filterset_matchers.specs.Matchers.{matcher_of}
use Rattle.regex_extract.specs.Needles.{AreFilled, needles_of}
use Rattle.nextest_filtering.specs.{Candidates.AreContaining, Candidates.OneStandsInNames, Joined.name_of}
use Rattle.nextest_filtering.proofs.{Members.none_in, Patterns.text_here}
use Rattle.nextest_filtering.proofs.compile.candidates.list_candidates.Goals as goal

pub loop-text-init : goal.loop-text-init
loop-text-init c = record {
  some = λ p has. absurd (none_in p (subst (λ ps. Contains ps p) c.new-found.ensures.items has));
  all = λ k below p within stands. absurd (omega (arith, below));
}

pub list_containing-requires : goal.list_containing-requires
list_containing-requires c =
    let texts = c.deref-text-items.result.now in
    let filled : AreFilled (needles_of c.in-Some.texts) = rw c.in-Some.is at c.in_ok-texts.ensures.filled in
    let all : AreFilled (map (λ t. t.items) texts) = rw c.deref-text-items.ensures.value filled in
    let within : c.loop-text.text-index < length (map (λ t. t.items) texts) = omega (arith, c.loop-text-test.true, length-map texts (λ t. t.items)) in
    let here = text_here texts c.loop-text.text-index c.text-item.result c.loop-text-test.true c.text-item.is in
    subst (λ text. 0 < length text) (here ∙ sym c.deref.ensures.value) (all c.loop-text.text-index [] within)

pub loop-text-preserved : goal.loop-text-preserved
loop-text-preserved c =
    let packages = c.args.members.now.packages.items in
    let before = c.loop-text.invariant in
    let found = c.loop-text.found.items in
    let more = c.in_ok-more.more.items in
    let i = c.loop-text.text-index in
    let text = c.text-item.result.items in
    let those : AreContaining packages text more = subst (λ (t : List ℕ). AreContaining packages t more) c.deref.ensures.value c.in_ok-more.ensures in
    let here = text_here c.deref-text-items.result.now i c.text-item.result c.loop-text-test.true c.text-item.is in
    record {
      some = λ p known. ⊎_elim (before.some p) (λ new. ((those p).0 new).0) (Contains-append_cases found more p (subst (λ ps. Contains ps p) c.in_ok-append.ensures.items known));
      all = λ k below p within stands. subst (λ ps. Contains ps p) (sym c.in_ok-append.ensures.items) (⊎_elim
          (λ less. Contains-append_left found more p (before.all k less p within stands))
          (λ over.
          let same : k ≡ i = omega (arith, over, below) in
          let now = subst (λ (n : ℕ). HasSubslice (name_of p) (get_or (map (λ t. t.items) c.deref-text-items.result.now) n [])) same stands in
          Contains-append_right found more p ((those p).1 (within, subst (HasSubslice (name_of p)) here now)))
          (cases_lt k i));
    }

pub returns : goal.returns
returns c = record {
  some = c.loop-text.invariant.some;
  all = λ p within matches.
      let texts = c.in-Some.texts in
      let needles = needles_of texts in
      let all : OneStandsInNames (matcher_of c.args.matcher.now) needles = rw c.in-Some.is at c.in_ok-texts.ensures.stands in
      let one = all (name_of p) (IsUtf8-string_bytes p.now.name) matches in
      let same : map (λ t. t.items) c.deref-text-items.result.now ≡ needles = ap (map (λ t. t.items)) c.deref-text-items.ensures.value in
      let below : one.0 < c.loop-text.text-index = omega (arith, one.2, length-map texts.items (λ t. t.items), ap length c.deref-text-items.ensures.value, c.loop-text-test.false) in
      let here : one.1 ≡ get_or (map (λ t. t.items) c.deref-text-items.result.now) one.0 [] =
      sym one.3 ∙ sym (get_or_default needles one.0 [] one.1 one.2) ∙ ap (λ ns. get_or ns one.0 []) (sym same) in
      c.loop-text.invariant.all one.0 below p within (subst (HasSubslice (name_of p)) here one.4);
}
