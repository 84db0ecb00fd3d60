use Rattle.std.proofs.Common.{◌≡◌, ◌∙◌, ℕ, ap, false, inl, inr, refl, rules, subst, sym, true}
use Rattle.std.proofs.lemmas.{Bool.false≢true, Result.IfOk-weaker}
use Rattle.serde_json.specs.{View.view, declared.value.Value.the_lemmas, declared.value.Value.TheVariants.Null}
use Rattle.filterset_entries.specs.{Checked.text_row, Placements.span_in, Placements.spot_of}
use Rattle.filterset_documents.specs.Filtersets.{is_in}
use Rattle.filterset_offers.specs.Workspaces.{known_of}
use Rattle.filterset_offers.specs.{Completion.CompletesIn, Completion.CompletesText, Standing.GapRows}
use Rattle.filterset_offers.proofs.documents.complete_at.Goals as goal

pub returns-then-is_in : goal.returns-then-is_in
returns-then-is_in c =
    let known = known_of c.args.workspace in
    let shown = c.args.shown.now in
    let text = shown.lines.text.now in
    let row = text_row c.args.entry.now in
    let spot = spot_of c.args.place.spot in
    let tested : is_in (span_in spot c.in-Some.gaps.word.at) c.args.offset ≡ true =
    sym (c.is_in.ensures ∙ ap (λ s. is_in s c.args.offset) c.span_in.ensures) ∙ c.if-is_in.true in
    IfOk-weaker c.complete_gaps.result _ _
    (λ value is.
    let At : ℕ → Type 0 = λ k. CompletesText known shown.encoding text c.args.offset spot row k (view value) in
    let In : GapRows → Type 0 = λ gaps. CompletesIn known shown.encoding text c.args.offset spot row gaps (view value) in
    subst At c.text_offset.ensures (inr (c.in-Some.ensures.boundary.0 refl, subst In c.in-Some.ensures.gaps (rw tested is))))
    c.complete_gaps.ensures

pub returns-else-is_in : goal.returns-else-is_in
returns-else-is_in c =
    let known = known_of c.args.workspace in
    let shown = c.args.shown.now in
    let text = shown.lines.text.now in
    let row = text_row c.args.entry.now in
    let spot = spot_of c.args.place.spot in
    let tested : is_in (span_in spot c.in-Some.gaps.word.at) c.args.offset ≡ false =
    sym (c.is_in.ensures ∙ ap (λ s. is_in s c.args.offset) c.span_in.ensures) ∙ c.if-is_in.false in
    let At : ℕ → Type 0 = λ k. CompletesText known shown.encoding text c.args.offset spot row k (view Null) in
    let In : GapRows → Type 0 = λ gaps. CompletesIn known shown.encoding text c.args.offset spot row gaps (view Null) in
    subst At c.text_offset.ensures (inr (c.in-Some.ensures.boundary.0 refl, subst In c.in-Some.ensures.gaps (rw tested (search (rules, the_lemmas)))))

pub returns-in_default : goal.returns-in_default
returns-in_default c =
    let known = known_of c.args.workspace in
    let shown = c.args.shown.now in
    let row = text_row c.args.entry.now in
    let At : ℕ → Type 0 = λ k. CompletesText known shown.encoding shown.lines.text.now c.args.offset (spot_of c.args.place.spot) row k (view Null) in
    subst At c.text_offset.ensures (inl (λ b. false≢true (c.in_default.ensures.boundary.1 b), search (rules, the_lemmas)))
