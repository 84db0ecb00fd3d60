use Rattle.std.proofs.Common.{◌≡◌, List, Result, ap, map, option_map, string_bytes, subst, sym}
use Rattle.std.proofs.lemmas.Result.{IfOk-weaker}
use Rattle.std.specs.{List.AllZip, Prelude.MatchResult}
use Rattle.serde_json.specs.View.{view}
use Rattle.filterset_display.specs.Columns.{Text}
use Rattle.filterset_entries.specs.{Checked.TextRow, Checked.text_row, Endings.AnswersUnknown, Profile.IsEntryOf, Profile.IsProfileOf}
use Rattle.filterset_entries.specs.declared.{setting.Setting.Setting, text.Ending.Ending}
use Rattle.filterset_entries.specs.declared.setting.OverrideEntry.{OverrideEntry}
use Rattle.filterset_overrides.specs.declared.asked.AskedProfile.{AskedProfile}
use Rattle.filterset_asking.specs.Asking.{AnswersIn}
use Rattle.filterset_asking.proofs.profiled.ask_profile.Goals as goal

pub returns-clause-answered : goal.returns-clause-answered
returns-clause-answered c =
    let lines = c.as_slice-lineage.ensures.value in
    let ranks = c.as_slice-ranked.ensures.value in
    let lineage = map (λ p. p.now) c.in_ok-lineage.lineage.items in
    let chosen = rw (c.in-Entry.is, c.given_text-text.ensures) at c.in_ok-default.ensures in
    let AreEntries : List OverrideEntry → Type 0 = AllZip (IsEntryOf c.args.texts) c.in_ok-ranked.ranked.items in
    let AreProfiles : List AskedProfile → Type 0 = AllZip IsProfileOf lineage in
    let Told : Ending → Text → Result TextRow Text → Type 0 = λ ending text outcome. MatchResult outcome
    (λ row. (setting : Setting) × (setting.graph.now ≡ c.args.asked.now.graph.now) × (setting.groups.now ≡ c.args.groups.now)
    × (text_row setting.default.now ≡ row) × AreEntries setting.overrides.now × AreProfiles setting.profiles.now
    × AnswersIn c.args.asked.now (option_map view c.args.given.kept) setting ending text) (λ path. AnswersUnknown path ending text) in
    IfOk-weaker c.ask_under.result _ _ (λ answer told. (
      lineage,
      c.in_ok-ranked.ranked.items,
      c.in_ok-filter.filter,
      rw c.as_slice-profiles.ensures.value at c.in_ok-lineage.ensures.found,
      rw lines at c.in_ok-ranked.ensures,
      rw (lines, ranks) at c.in_ok-filter.ensures,
      subst (Told answer.ending (string_bytes answer.text)) (sym chosen.0) (
        told.0,
        told.1.0,
        told.1.1,
        ap text_row told.1.2,
        subst AreEntries (sym told.1.3) (rw ranks at c.in_ok-overrides.ensures),
        subst AreProfiles (sym told.1.4) (rw lines at c.in_ok-profiles.ensures),
        told.2,
      ),
    )) c.ask_under.ensures.answered
