use Rattle.std.proofs.Common.{◌≡◌, ◌∙◌, ◌∷◌, [], ℕ, Bor, Contains, List, false, true, length, subst, sym, ⊎_elim, arith}
use Rattle.std.specs.Str.Iter.{HasSubslice}
use Rattle.std.proofs.lemmas.{Bool.cases_lt, List.get_or_default}
use Rattle.std.proofs.lemmas.List.Elements.{Contains-append_left, Contains-push, Contains-push_cases}
use Rattle.filterset_graph.specs.declared.package.PackageMetadata.{PackageMetadata}
use Rattle.nextest_filtering.specs.{Hits.IsAt, Hits.IsNextHit, Hits.NoneHas, Joined.name_of}
use Rattle.nextest_filtering.proofs.NameHits.{all_past}
use Rattle.nextest_filtering.proofs.compile.members.Members.list_containing.Goals.{then-hit+in_ok-push, else-hit}
use Rattle.nextest_filtering.proofs.compile.members.Members.list_containing.Goals as goal

pub loop-hit-init : goal.loop-hit-init
loop-hit-init c = record {
  place = omega arith;
  some = λ p has. absurd (let none = subst (λ ps. Contains ps p) c.new-found.ensures.items has in omega (arith, none.1));
  all = λ k p below at has. absurd (omega (arith, below));
}

pub loop-hit-preserved : goal.loop-hit-preserved
loop-hit-preserved c =
    let before = c.loop-hit.invariant in
    let packages = c.args.self.now.packages.items in
    let needle = c.args.text.now in
    let from = c.loop-hit.next in
    let found = c.loop-hit.found.items in
    let hit = c.in-Some.hit in
    let is = subst (λ (text : List ℕ). IsNextHit text packages from hit) c.new-finder.ensures c.in-Some.ensures in
    elim c.if-hit.branch [
      | then-hit+in_ok-push w ↦
          let p = w.index.result.now in
          let at : IsAt packages hit.position p = (is.within, sym w.index.ensures) in
          record {
            place = omega (arith, is.within);
            some = rw (w.found-is, w.in_ok-push.ensures.items) (λ q known. ⊎_elim (before.some q)
                (λ same. subst (λ (r : Bor PackageMetadata). Contains packages r × HasSubslice (name_of r) needle) same ((hit.position, at.0, at.1), (is.has p at).0 w.if-hit.true))
                (Contains-push_cases found p q known));
            all = rw (w.found-is, w.in_ok-push.ensures.items) (all_past needle packages found _ from hit is before.all
                (λ q known. Contains-append_left found (p ∷ []) q known)
                (λ q here has. subst (Contains _) (sym at.1 ∙ get_or_default packages hit.position p q is.within ∙ here.1) (Contains-push found p)));
          }
      | else-hit w ↦ record {
        place = omega (arith, is.within);
        some = rw w.found-is before.some;
        all = rw w.found-is (all_past needle packages found found from hit is before.all (λ q known. known)
            (λ q here has. absurd (let clash : false ≡ true = sym w.if-hit.false ∙ (is.has q here).1 has in cc)));
      }
    ]

pub returns : goal.returns
returns c p =
    let before = c.loop-hit.invariant in
    let packages = c.args.self.now.packages.items in
    let none = subst (λ (text : List ℕ). NoneHas text packages c.loop-hit.next (length packages)) c.new-finder.ensures c.in_default.ensures in (
      before.some p,
      λ is.
          let at : IsAt packages is.0.0 p = (is.0.1, is.0.2) in
          ⊎_elim (λ early. before.all is.0.0 p early at is.1) (λ late. absurd (none is.0.0 p late is.0.1 at is.1)) (cases_lt is.0.0 c.loop-hit.next),
    )
