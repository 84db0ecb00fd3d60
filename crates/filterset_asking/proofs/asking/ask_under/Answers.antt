use Rattle.std.specs.Prelude.{◌≡◌, List, Option}
use Rattle.std.specs.{List.AllZip}
use Rattle.std.proofs.{Common.refl, lemmas.Result.IfErr-weaker, lemmas.Result.IfOk-weaker}
use Rattle.serde_json.specs.{Data.Data}
use Rattle.filterset_answers.specs.{Binaries.IsAsked}
use Rattle.filterset_display.specs.{Columns.Text}
use Rattle.filterset_entries.specs.declared.{setting.Setting.Setting, text.Ending.Ending}
use Rattle.filterset_listing.specs.declared.binary.AskedBinary.{AskedBinary}
use Rattle.filterset_loading.specs.Files.{name_of}
use Rattle.filterset_loading.proofs.FaultLemmas.{OrMemory-weaker}
use Rattle.filterset_asking.specs.Asking.{AnswersIn, AnswersWanted, HasParts, Lacks, LacksOf}
use Rattle.filterset_asking.specs.declared.asking.{AskedWorkspace.AskedWorkspace, ProfileSetting.ProfileSetting, Wanted.Wanted}
use Rattle.filterset_asking.proofs.asking.ask_under.Goals as goal

-- what answers under a setting of these parts answers under one
in_setting : (asked : AskedWorkspace) (wanted : Wanted) (kept : Option Data) (own : ProfileSetting) (binaries : List AskedBinary) (ending : Ending) (text : Text) (setting : Setting)
    → asked.wanted ≡ wanted → AllZip IsAsked asked.suites.now binaries → AnswersWanted asked.form wanted setting binaries kept ending text
    → (setting.default.now ≡ own.default) × (setting.overrides.now ≡ own.overrides.items) × (setting.profiles.now ≡ own.profiles.items)
    → (like : Setting) × HasParts setting.graph.now setting.groups.now own like × AnswersIn asked kept like ending text
in_setting asked wanted kept own binaries ending text setting is zipped answers has = (setting, (refl, refl, has.0, has.1, has.2), (binaries, zipped, rw is answers))

pub returns-in-Answer-clause-answered : goal.returns-in-Answer-clause-answered
returns-in-Answer-clause-answered c =
    let told = rw c.as_slice-binaries.ensures.value at c.answer_asked.ensures.answered in
    IfOk-weaker c.answer_asked.result _ _ (λ answer answers. in_setting c.args.asked.now _ _ c.args.own.now c.in_ok-binaries.binaries.items _ _ _ c.in-Answer.is c.in_ok-binaries.ensures answers (refl, c.as_slice-overrides.ensures.value, c.as_slice-profiles.ensures.value)) told

pub returns-in-Answer-clause-missing : goal.returns-in-Answer-clause-missing
returns-in-Answer-clause-missing c =
    let asked = c.args.asked.now in
    let binaries = c.in_ok-binaries.binaries.items in
    let told = rw c.as_slice-binaries.ensures.value at c.answer_asked.ensures.missing in
    IfErr-weaker c.answer_asked.result _ _ (OrMemory-weaker (LacksOf (name_of asked.list.now) c.in-Answer.own binaries) (Lacks asked)
    (λ fault lacks. rw c.in-Answer.is (binaries, c.in_ok-binaries.ensures, lacks))) told

pub returns-in_ok-warn_setting-in-Warnings-clause-answered : goal.returns-in_ok-warn_setting-in-Warnings-clause-answered
returns-in_ok-warn_setting-in-Warnings-clause-answered c =
    let told = rw c.as_slice-binaries.ensures.value at c.in_ok-warn_setting-in-Warnings.ensures in
    in_setting c.args.asked.now _ _ c.args.own.now c.in_ok-binaries.binaries.items _ _ _ c.in-Warnings.is c.in_ok-binaries.ensures told
    (refl, c.as_slice-overrides.ensures.value, c.as_slice-profiles.ensures.value)
