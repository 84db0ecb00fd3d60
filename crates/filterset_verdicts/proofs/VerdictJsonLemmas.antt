-- The values of verdicts have no floats, so they are written compactly.
use Rattle.std.proofs.Common.{◌≡◌, ◌∙◌, ℕ, Bool, false, List, [], ◌∷◌, ap, map, refl}
use Rattle.serde_json.specs.{Data.Data, View.items_of, Written.has_float, Written.items_have_float}
use Rattle.filterset_deciding.specs.declared.{deciding.Verdict.Verdict, demand.Demand.Demand}
use Rattle.filterset_deciding.specs.declared.{demand.TestField.TestField, question.Question.Question}
use Rattle.filterset_deciding.specs.declared.deciding.Verdict.TheVariants as verdicts
use Rattle.filterset_graph.specs.declared.package.PackageMetadata.{PackageMetadata}
use Rattle.filterset_verdicts.specs.VerdictJson.{IsVerdictData, demand_item, number_item, picked_numbers}

-- numbers of filtersets are none
numbers_have_no_float : (ns : List ℕ) → items_have_float (items_of (map number_item ns)) ≡ false
numbers_have_no_float [] = refl
numbers_have_no_float (n ∷ ns) = numbers_have_no_float ns

-- nor are demands
demands_have_no_float : (field : TestField) (demands : List Demand) → items_have_float (items_of (map (demand_item field) demands)) ≡ false
demands_have_no_float field [] = refl
demands_have_no_float field (d ∷ demands) = demands_have_no_float field demands

pub verdict_has_no_float : (question : Question) (is_listed : Bool) (packages : List PackageMetadata) (verdict : Verdict) (d : Data)
    → IsVerdictData question is_listed packages verdict d → has_float d ≡ false
verdict_has_no_float question is_listed packages verdicts.Always d is = ap has_float is
verdict_has_no_float question is_listed packages (verdicts.Fails witness) d is =
    ap has_float is.2 ∙ rw (numbers_have_no_float (picked_numbers 1 witness.picks.items)) refl
verdict_has_no_float question is_listed packages (verdicts.Unknown doubt) d is =
    ap has_float is ∙ rw (demands_have_no_float doubt.field doubt.demands.items) refl
verdict_has_no_float question is_listed packages verdicts.Stopped d is = ap has_float is
