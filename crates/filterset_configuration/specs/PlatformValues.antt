-- What platforms mean, as far as facts decide it.
use Rattle.std.specs.Prelude.{◌≡◌, Bool, true, false, not, ◌&&◌, codes, List, Option, None, Some, IsSome, if◌then◌else◌, option_and_then, option_map}
use Rattle.std.specs.{List.list_any, Option.option_map_or, Str.bytes_eq}
use Rattle.filterset_configuration.specs.PlatformTrees.{Setting, name, key_value, Expr, set, literal, negated, all, any, Exprs, none, more, Spec, is_named, satisfies, spec_of, Facts}
use Rattle.filterset_configuration.specs.declared.platforms.filter.PlatformFilter.{PlatformFilter}
use Rattle.filterset_configuration.specs.declared.platforms.specification.PlatformSpec.{PlatformSpec}
use Rattle.filterset_json.specs.Shape.{Text}

abbrev pub same_setting : Setting → Setting → Bool
same_setting (name n) (name m) = bytes_eq n m
same_setting (key_value k v) (key_value l w) = bytes_eq k l && bytes_eq v w
same_setting _ _ = false

-- the setting is one of these
abbrev pub is_set : List Setting → Setting → Bool
is_set ts s = list_any (λ t. same_setting t s) ts

-- the name or the key of a setting
abbrev pub word_of : Setting → Text
word_of (name n) = n
word_of (key_value k v) = k

-- one of these settings has this name or key
abbrev pub sets : List Setting → Text → Bool
sets ss word = list_any (λ s. bytes_eq (word_of s) word) ss

-- what settings lack of those that each platform has: an architecture and an operating system
abbrev pub lacking : List Setting → Option Text
lacking ss =
    if not (sets ss (codes "target_arch")) then Some (codes "target_arch")
    else if not (sets ss (codes "target_os")) then Some (codes "target_os") else None

-- Kleene's connectives: `None` is unknown, and one side may decide
abbrev pub both : Option Bool → Option Bool → Option Bool
both (Some b) y = if b then y else Some false
both None y = option_and_then (λ b. if b then None else Some false) y

abbrev pub either : Option Bool → Option Bool → Option Bool
either (Some b) y = if b then Some true else y
either None y = option_and_then (λ b. if b then Some true else None) y

abbrev mutual
  -- the value of an expression where these are set, if that is known
  pub value : Option (List Setting) → Expr → Option Bool
  value facts (set s) = option_map (λ ts. is_set ts s) facts
  value facts (literal b) = Some b
  value facts (negated e) = option_map not (value facts e)
  value facts (all es) = all_value facts es
  value facts (any es) = any_value facts es

  pub all_value : Option (List Setting) → Exprs → Option Bool
  all_value facts none = Some true
  all_value facts (more e es) = both (value facts e) (all_value facts es)

  pub any_value : Option (List Setting) → Exprs → Option Bool
  any_value facts none = Some false
  any_value facts (more e es) = either (value facts e) (any_value facts es)

-- whether a platform is what a configuration asks for
abbrev pub spec_value : Facts → Spec → Option Bool
spec_value facts (is_named t) = option_map (λ known. bytes_eq known t) facts.triple
spec_value facts (satisfies e) = value facts.settings e

-- a part of a filter that is missing asks for nothing
abbrev pub part_value : Facts → Option PlatformSpec → Option Bool
part_value facts part = option_map_or (λ s. spec_value facts (spec_of s)) part (Some true)

-- whether a filter applies to what is built for a target on a host
abbrev pub applies : Facts → Facts → PlatformFilter → Option Bool
applies host target filter = both (part_value host filter.host) (part_value target filter.target)

-- what is known is also known there, where more may be
pub record Extends (facts world : Facts) : Type 0 where
  pub same_triple : IsSome facts.triple → world.triple ≡ facts.triple
  pub same_settings : IsSome facts.settings → world.settings ≡ facts.settings

-- all is known
abbrev pub IsKnown : Facts → Type 0
IsKnown facts = IsSome facts.triple × IsSome facts.settings
