use Rattle.std.proofs.Common.{◌∙◌, ℕ, List, length, refl, subst}
use Rattle.std.specs.Str.Iter.{HasSubslice}
use Rattle.filterset_record.specs.{Columns.names_of, Hits.IsNextHit, Hits.NoneHas}
use Rattle.filterset_record.proofs.{ColumnLemmas.passed_over, HitLemmas.hit_answered, HitLemmas.hit_place}
use Rattle.filterset_record.proofs.search.find_some_text.Goals as goal

pub loop-hit-preserved : goal.loop-hit-preserved
loop-hit-preserved c =
    let before = c.loop-hit.invariant in
    let names = names_of c.args.names.now in
    let needle = c.args.value.now in
    let from = c.loop-hit.place.position in
    let hit = c.in-Some.hit in
    let is = subst (λ (text : List ℕ). IsNextHit text names from hit) (c.new-finder.ensures ∙ c.as_bytes.ensures.value) c.in-Some.ensures in
    record {
      room = c.put.ensures.room ∙ before.room;
      place = hit_place needle c.args.names.now from hit _ is refl refl;
      answered = hit_answered needle c.loop-hit.bits.words.items c.put.new.self.words.items names from hit before.answered is c.put.ensures.put;
    }

pub returns-clause-found : goal.returns-clause-found
returns-clause-found c =
    let before = c.loop-hit.invariant in
    let names = names_of c.args.names.now in
    let needle = c.args.value.now in
    let from = c.loop-hit.place.position in
    let none = subst (λ (text : List ℕ). NoneHas text names from (length names)) (c.new-finder.ensures ∙ c.as_bytes.ensures.value) c.in_default.ensures in
    passed_over c.loop-hit.bits.words.items names (λ position name. HasSubslice name.now needle) from (length names) before.place.0 before.answered none
