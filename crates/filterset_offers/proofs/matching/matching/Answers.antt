use Rattle.std.proofs.Common.{◌↔◌, ◌++◌, [], ◌∷◌, Bor, IsTrue, get_or, map, subst, sym, take, ◌∙◌}
use Rattle.std.proofs.lemmas.{Bool.false≢true, List.map_more, List.take_all}
use Rattle.filterset_graph.specs.Packages.{Text}
use Rattle.filterset_matchers.specs.{Matcher.Matcher, Matcher.MatchesName, Matchers.matcher_of}
use Rattle.filterset_offers.specs.Sieves.{Selects, Sieves.no_more}
use Rattle.filterset_offers.proofs.SieveLemmas.{Selects-left, Selects-taken}
use Rattle.filterset_offers.proofs.matching.matching.Goals.{then-branch+in_ok-push, else-branch}
use Rattle.filterset_offers.proofs.matching.matching.Goals as goal

abbrev text : Bor Text → Text
text n = n.now

pub loop-name-init : goal.loop-name-init
loop-name-init c = (c.in_ok-ready.ensures, rw c.new-found.ensures.items no_more)

pub loop-name-preserved : goal.loop-name-preserved
loop-name-preserved c =
    let names = c.args.names.now in
    let i = c.loop-name.name-index in
    let none : Bor Text = record { ref_ptr = (0, 0); now = [] } in
    let name = get_or names i none in
    let old = map text (take i names) in
    let same = c.loop-name.invariant.0 in
    let P = MatchesName (matcher_of c.args.matcher.now) in
    let says = subst (λ (m : Matcher). IsTrue c.in_ok-matches.field-0 ↔ MatchesName m name.now) same c.in_ok-matches.ensures.matches in
    let next : Selects P (old ++ name.now ∷ []) (map text c.if-branch.found.items) = elim c.if-branch.branch [
      | then-branch+in_ok-push w ↦
          rw w.found-is (Selects-taken P text old name c.loop-name.found.items w.push.new.self.items w.in_ok-push.ensures.items c.loop-name.invariant.1 (says.0 w.if-branch.true))
      | else-branch w ↦
          rw w.found-is (Selects-left P old _ name.now c.loop-name.invariant.1 (λ is. false≢true (sym w.if-branch.false ∙ says.1 is)))
    ] in
    (c.in_ok-matches.ensures.same ∙ same, subst (λ ns. Selects P ns (map text c.if-branch.found.items)) (sym (map_more text names i none c.loop-name-test.true)) next)

pub returns : goal.returns
returns c =
    let are = c.loop-name.invariant.1 in
    rw (take_all c.loop-name.name-index c.args.names.now c.loop-name-test.false) at are
