-- The default filter that an override sets.
use Rattle.std.proofs.Common.{◌≡◌, ◌++◌, Bool, true, List, Option, Some, None, Result, Ok, Err, ap, sym, ◌∙◌}
use Rattle.std.specs.Prelude.{◌&&◌, IfOk, codes, is_some, option_map, string_bytes, unwrap_or}
use Rattle.std.specs.declared.alloc.AllocError.{AllocError}
use Rattle.std.proofs.lemmas.Bool.{and_parts, false≢true}
use Rattle.filterset_json.specs.Shape.{Text}
use Rattle.filterset_configuration.specs.Ranking.{IsDefaultFilter, IsSetTo, first_default}
use Rattle.filterset_configuration.specs.declared.defaults.DefaultFilter.{DefaultFilter}
use Rattle.filterset_configuration.specs.declared.defaults.DefaultFilter.TheVariants.{All, Set, Unknown}
use Rattle.filterset_configuration.specs.declared.{profiles.Profile.Profile, ranking.RankedOverride.RankedOverride}
use Rattle.filterset_configuration.proofs.Finds.{find_passes}

-- what may be so, and is known, is so
surely : (o : Option Bool) → is_some o ≡ true → unwrap_or o true ≡ true → o ≡ Some true
surely None known may = absurd (false≢true known)
surely (Some b) known may = ap Some may

-- where the first override that may set it surely applies, the default filter is its own
pub set_by_override : (ranked : List RankedOverride) (lineage : List Profile) (first : RankedOverride) (path text : Text)
    → first_default ranked ≡ Some first → is_some first.for_target ≡ true → option_map (λ s. string_bytes s) first.read.now.default_filter ≡ Some text
    → path ≡ string_bytes first.path → (o : Result DefaultFilter AllocError) → IfOk o (IsSetTo path text) → IfOk o (IsDefaultFilter ranked lineage)
set_by_override ranked lineage first path text is_first known sets at (Err e) h = tt
set_by_override ranked lineage first path text is_first known sets at (Ok (Set p t)) h =
    let passes = find_passes (λ (r : RankedOverride). is_some r.read.now.default_filter && unwrap_or r.for_target true) ranked first is_first in
    rw is_first (surely first.for_target known ((and_parts _ _ passes).1), (h.0 ∙ ap (λ x. x ++ codes ".default-filter") at, sets ∙ ap Some (sym h.1)))
set_by_override ranked lineage first path text is_first known sets at (Ok (Unknown p)) h = absurd h
set_by_override ranked lineage first path text is_first known sets at (Ok All) h = absurd h
