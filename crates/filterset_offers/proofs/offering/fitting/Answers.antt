use Rattle.std.proofs.Common.{◌≡◌, ◌<◌, ◌+◌, ◌++◌, ◌∷◌, ◌⊎◌, ◌∙◌, ℕ, Bool, Global, List, [], Vec, ap, false, get_or, inl, inr, length, map, subst, sym, take, true}
use Rattle.std.proofs.lemmas.List.{map_more}
use Rattle.filterset_faults.specs.declared.kind.FiltersetKind.{FiltersetKind}
use Rattle.filterset_offers.proofs.SieveLemmas.{sieve-left, sieve-taken}
use Rattle.filterset_offers.specs.Sieves.Sieves.{no_more}
use Rattle.filterset_offers.specs.Candidates.{Row, row_of}
use Rattle.filterset_offers.specs.Standing.{AreFitting, Fits, GapRows, gap_rows}
use Rattle.filterset_offers.specs.declared.candidates.Candidate.{Candidate}
use Rattle.filterset_offers.proofs.offering.fitting.Goals as goal
use Rattle.filterset_offers.proofs.offering.fitting.Goals.{then-branch+in_ok-push, else-branch}

-- one more candidate fits or not
next : (kind : FiltersetKind) (gaps : GapRows) (is_closed : Bool) (all : List Candidate) (i : ℕ) (d : Candidate) (found new : List Candidate) (answer : Bool)
    → Fits kind gaps is_closed (row_of (get_or all i d)) answer → i < length all
    → AreFitting kind gaps is_closed (map row_of (take i all)) (map row_of found)
    → ((answer ≡ true) × (new ≡ found ++ get_or all i d ∷ [])) ⊎ ((answer ≡ false) × (new ≡ found))
    → AreFitting kind gaps is_closed (map row_of (take (i + 1) all)) (map row_of new)
next kind gaps is_closed all i d found new answer fits lt are after =
    let row = row_of (get_or all i d) in
    let In : Row → Type 0 = λ r. Fits kind gaps is_closed r true in
    let Out : Row → Type 0 = λ r. Fits kind gaps is_closed r false in
    let Is : Bool → Type 0 = λ b. Fits kind gaps is_closed row b in
    let P : List Row → Type 0 = λ rows. AreFitting kind gaps is_closed rows (map row_of new) in
    let Q : List Candidate → Type 0 = λ fs. AreFitting kind gaps is_closed (map row_of (take i all) ++ row ∷ []) (map row_of fs) in
    subst P (sym (map_more row_of all i d lt)) (elim after [
      | inl (does, pushed) ↦ sieve-taken In Out row_of (map row_of (take i all)) (get_or all i d) found new pushed are (subst Is does fits)
      | inr (other, same) ↦ subst Q (sym same) (sieve-left In Out (map row_of (take i all)) (map row_of found) row are (subst Is other fits))
    ])

pub loop-candidate-init : goal.loop-candidate-init
loop-candidate-init c = rw c.new-found.ensures.items no_more

pub loop-candidate-preserved : goal.loop-candidate-preserved
loop-candidate-preserved c =
    next c.args.kind (gap_rows c.args.gaps.now) c.args.is_closed c.args.candidates.now c.loop-candidate.candidate-index _ c.loop-candidate.found.items
    c.if-branch.found.items c.in_ok-fits.field-0 c.in_ok-fits.ensures c.loop-candidate-test.true c.loop-candidate.invariant
    (elim c.if-branch.branch [
      | then-branch+in_ok-push w ↦ inl (w.if-branch.true, ap (λ (v : Vec Candidate Global). v.items) w.found-is ∙ w.in_ok-push.ensures.items)
      | else-branch w ↦ inr (w.if-branch.false, ap (λ (v : Vec Candidate Global). v.items) w.found-is)
    ])
