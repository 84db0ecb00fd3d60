-- The places of values.
use Rattle.std.proofs.Common.{◌≡◌, ℕ, List, Err, IfOk, IfSome, None, Ok, Option, Result, Some, ap, subst, sym, ◌∙◌}
use Rattle.std.specs.{List.slice_get, declared.alloc.AllocError.AllocError}
use Rattle.toml.specs.Data.{Data}
use Rattle.filterset_sources.specs.Configurations.{IsFile}
use Rattle.filterset_configuration.specs.{Numbers.AreApart, Numbers.numbered, Places.IsNumberedPlace}
use Rattle.filterset_configuration.specs.declared.{place.Place.Place, stretch.Stretch.Stretch}
use Rattle.filterset_configuration.specs.Wrong.{IsValuePlace, ValueRow, values_of}
use Rattle.filterset_json.specs.Shape.{Text}

-- a place by the number that the value has in the file with numbers
pub value-place : (file : Text) (at : ℕ) (row other : ValueRow) (literals : List Stretch) (made : Data) (values : List ValueRow) (text number : Text)
    (r : Result (Option Place) AllocError) → AreApart 0 literals → IsFile (numbered file literals) made → values ≡ values_of made
    → slice_get values at ≡ Some other → other.path ≡ row.path → text ≡ row.text → number ≡ other.text
    → IfOk r (λ o. IfSome o (IsNumberedPlace literals file text number)) → IfOk r (λ o. IfSome o (IsValuePlace file at row))
value-place file at row other literals made values text number (Err e) apart parses are there path text_is number_is h = tt
value-place file at row other literals made values text number (Ok None) apart parses are there path text_is number_is h = tt
value-place file at row other literals made values text number (Ok (Some place)) apart parses are there path text_is number_is h = (
  literals,
  made,
  other,
  apart,
  parses,
  ap (λ vs. slice_get vs at) (sym are) ∙ there,
  path,
  subst (λ t. IsNumberedPlace literals file t other.text place) text_is (subst (λ n. IsNumberedPlace literals file text n place) number_is h),
)
