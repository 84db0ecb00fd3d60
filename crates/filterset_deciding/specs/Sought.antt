-- What is found about texts that meet demands.
use Rattle.std.specs.Prelude.{◌↔◌, ℕ, List, IsUtf8, chars, string_bytes}
use Rattle.filterset_texts.specs.Parts as part
use Rattle.filterset_texts.specs.declared.part.Condition.{Condition}
use Rattle.filterset_deciding.specs.Texts.{AreComparisons, HasUnsearched, IsMetBy, Meets}
use Rattle.filterset_deciding.specs.declared.{demand.Demand.Demand, texts.Sought.Sought}
use Rattle.filterset_deciding.specs.declared.texts.Sought.TheVariants.{Text, Nothing, Stopped, Unknown}

-- what was found about the demands is so
abbrev pub IsSoughtOf : List Demand → Sought → Type 0
IsSoughtOf demands (Text text) = Meets (string_bytes text) demands
IsSoughtOf demands Nothing = (text : List ℕ) → IsUtf8 text → ¬ Meets text demands
IsSoughtOf demands Unknown = (¬ AreComparisons demands) × HasUnsearched demands
IsSoughtOf demands Stopped = ¬ AreComparisons demands

-- the same texts meet the condition, by their characters, and the demand
abbrev pub IsConditionOf : Demand → Condition → Type 0
IsConditionOf demand condition =
    (text : List ℕ) → IsUtf8 text → part.IsMetBy (chars text) condition ↔ IsMetBy text demand

-- the same texts meet all conditions and all demands
abbrev pub AreConditionsOf : List Demand → List Condition → Type 0
AreConditionsOf demands conditions =
    (text : List ℕ) → IsUtf8 text → part.Meets (chars text) conditions ↔ Meets text demands
