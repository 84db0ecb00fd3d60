-- What facts decide stays so where more is known.
use Rattle.std.proofs.Common.{◌≡◌, Bool, true, false, List, Option, Some, None, refl, sym, ap, ◌∙◌}
use Rattle.std.specs.{Prelude.not, Prelude.IfSome, Prelude.IsSome, Option.option_map, Str.bytes_eq}
use Rattle.std.proofs.lemmas.Bool.{false≢true}
use Rattle.filterset_configuration.specs.PlatformTrees.{Setting, Expr, set, literal, negated, all, any, Exprs, none, more, Spec, is_named, satisfies, spec_of, Facts}
use Rattle.filterset_configuration.specs.PlatformValues.{applies, is_set, both, either, value, all_value, any_value, Extends, IsKnown, spec_value, part_value}
use Rattle.filterset_configuration.specs.declared.platforms.filter.PlatformFilter.{PlatformFilter}
use Rattle.filterset_configuration.specs.declared.platforms.specification.PlatformSpec.{PlatformSpec}

none_some : {X : Type 0} {x : X} → None ≡ Some x → ⊥
none_some e = cc

-- y knows what x knows
abbrev Tells : Option Bool → Option Bool → Type 0
Tells x y = (b : Bool) → x ≡ Some b → y ≡ Some b

not_tells : (x y : Option Bool) → Tells x y → Tells (option_map not x) (option_map not y)
not_tells None y h = λ b e. absurd (none_some e)
not_tells (Some c) y h = λ b e. ap (option_map not) (h c refl) ∙ e

both_tells : (x y p q : Option Bool) → Tells x p → Tells y q → Tells (both x y) (both p q)
both_tells (Some false) y p q h k = λ b e. rw (h false refl) e
both_tells (Some true) y p q h k = λ b e. rw (h true refl) (k b e)
both_tells None (Some false) p q h k = λ b e. rw (k false refl) (both_false p ∙ e)
  where
    both_false : (p : Option Bool) → both p (Some false) ≡ Some false
    both_false (Some false) = refl
    both_false (Some true) = refl
    both_false None = refl
both_tells None (Some true) p q h k = λ b e. absurd (none_some e)
both_tells None None p q h k = λ b e. absurd (none_some e)

either_tells : (x y p q : Option Bool) → Tells x p → Tells y q → Tells (either x y) (either p q)
either_tells (Some true) y p q h k = λ b e. rw (h true refl) e
either_tells (Some false) y p q h k = λ b e. rw (h false refl) (k b e)
either_tells None (Some true) p q h k = λ b e. rw (k true refl) (either_true p ∙ e)
  where
    either_true : (p : Option Bool) → either p (Some true) ≡ Some true
    either_true (Some false) = refl
    either_true (Some true) = refl
    either_true None = refl
either_tells None (Some false) p q h k = λ b e. absurd (none_some e)
either_tells None None p q h k = λ b e. absurd (none_some e)

-- what is made of what is known
known_tells : {X : Type 0} (o p : Option X) (f : X → Bool) → (IsSome o → p ≡ o) → Tells (option_map f o) (option_map f p)
known_tells None p f h = λ b e. absurd (none_some e)
known_tells (Some x) p f h = λ b e. ap (option_map f) (h refl) ∙ e

module _ (facts world : Option (List Setting)) (known : IsSome facts → world ≡ facts) where
  mutual
    value_tells : (e : Expr) → Tells (value facts e) (value world e)
    value_tells (set s) = known_tells facts world (λ ts. is_set ts s) known
    value_tells (literal c) = λ b h. h
    value_tells (negated e) = not_tells (value facts e) (value world e) (value_tells e)
    value_tells (all es) = all_tells es
    value_tells (any es) = any_tells es

    all_tells : (es : Exprs) → Tells (all_value facts es) (all_value world es)
    all_tells none = λ b h. h
    all_tells (more e es) = both_tells (value facts e) (all_value facts es) (value world e) (all_value world es) (value_tells e) (all_tells es)

    any_tells : (es : Exprs) → Tells (any_value facts es) (any_value world es)
    any_tells none = λ b h. h
    any_tells (more e es) = either_tells (value facts e) (any_value facts es) (value world e) (any_value world es) (value_tells e) (any_tells es)

spec_tells : (facts world : Facts) (s : Spec) → Extends facts world → Tells (spec_value facts s) (spec_value world s)
spec_tells facts world (is_named t) h = known_tells facts.triple world.triple (λ k. bytes_eq k t) h.same_triple
spec_tells facts world (satisfies e) h = value_tells facts.settings world.settings h.same_settings e

if_some : (o : Option Bool) (P : Bool → Type 0) → ((b : Bool) → o ≡ Some b → P b) → IfSome o P
if_some None P h = tt
if_some (Some b) P h = h b refl

pub spec_sound : (facts : Facts) (s : Spec) (o : Option Bool) → o ≡ spec_value facts s
    → IfSome o (λ b. (world : Facts) → Extends facts world → spec_value world s ≡ Some b)
spec_sound facts s o e = if_some o _ (λ b f world h. spec_tells facts world s h b (sym e ∙ f))

part_tells : (facts world : Facts) (part : Option PlatformSpec) → Extends facts world → Tells (part_value facts part) (part_value world part)
part_tells facts world None h = λ b e. e
part_tells facts world (Some s) h = spec_tells facts world (spec_of s) h

pub filter_sound : (host target : Facts) (filter : PlatformFilter) (o : Option Bool) → o ≡ applies host target filter
    → IfSome o (λ b. (h t : Facts) → Extends host h → Extends target t → applies h t filter ≡ Some b)
filter_sound host target filter o e =
    if_some o _ (λ b f h t on_host on_target. both_tells (part_value host filter.host) (part_value target filter.target) (part_value h filter.host) (part_value t filter.target) (part_tells host h filter.host on_host) (part_tells target t filter.target on_target) b (sym e ∙ f))

-- where all is known, the answer is
both_known : (x y : Option Bool) → IsSome x → IsSome y → IsSome (both x y)
both_known None y h k = absurd (false≢true h)
both_known (Some false) y h k = refl
both_known (Some true) y h k = k

either_known : (x y : Option Bool) → IsSome x → IsSome y → IsSome (either x y)
either_known None y h k = absurd (false≢true h)
either_known (Some true) y h k = refl
either_known (Some false) y h k = k

map_known : {X Y : Type 0} (f : X → Y) (o : Option X) → IsSome o → IsSome (option_map f o)
map_known f None h = absurd (false≢true h)
map_known f (Some x) h = refl

module _ (facts : Option (List Setting)) (known : IsSome facts) where
  mutual
    value_known : (e : Expr) → IsSome (value facts e)
    value_known (set s) = map_known (λ ts. is_set ts s) facts known
    value_known (literal b) = refl
    value_known (negated e) = map_known not (value facts e) (value_known e)
    value_known (all es) = all_known es
    value_known (any es) = any_known es

    all_known : (es : Exprs) → IsSome (all_value facts es)
    all_known none = refl
    all_known (more e es) = both_known (value facts e) (all_value facts es) (value_known e) (all_known es)

    any_known : (es : Exprs) → IsSome (any_value facts es)
    any_known none = refl
    any_known (more e es) = either_known (value facts e) (any_value facts es) (value_known e) (any_known es)

pub spec_known : (facts : Facts) (s : Spec) (o : Option Bool) → o ≡ spec_value facts s → IsKnown facts → IsSome o
spec_known facts (is_named t) o e h = rw e (map_known (λ k. bytes_eq k t) facts.triple h.0)
spec_known facts (satisfies x) o e h = rw e (value_known facts.settings h.1 x)
