use Rattle.std.proofs.Common.{rules, tests, ◌+◌, ◌++◌, ◌∷◌, ◌∙◌, [], Bor, List, ℕ, ap, map, string_bytes, subst, sym, take}
use Rattle.std.specs.{List.list_any, Str.bytes_eq}
use Rattle.std.proofs.lemmas.{Iterator.YieldsList-from_slice, Iterator.Search.any_from_yields_List, List.take_all}
use Rattle.filterset_overrides.specs.{Applying.Text, Giving.AreDistinctOf}
use Rattle.filterset_overrides.proofs.KeyLemmas.{key_kept, key_pushed}
use Rattle.filterset_overrides.proofs.ListLemmas.{behind, map_append, map_more}
use Rattle.filterset_overrides.proofs.keys.push_keys.Goals as goal

pub returns : goal.returns
returns c all before = rw (take_all c.loop-setting.setting-index c.args.settings.now c.loop-setting-test.false) at (c.loop-setting.invariant all before)

pub loop-setting-preserved-then-any : goal.loop-setting-preserved-then-any
loop-setting-preserved-then-any c all before =
    let items = c.args.settings.now in
    let i = c.loop-setting.setting-index in
    let one = c.setting-item.result in
    let so_far = map string_bytes (take i items) in
    let keys = c.loop-setting.keys.items in
    let key = c.as_str-key.result in
    let f = λ (k : Bor (List ℕ)). k.now in
    let is = any_from_yields_List (λ (k : Bor (List ℕ)). bytes_eq k.now key.now) _ _ c.any.result c.any.ensures.ran (YieldsList-from_slice c.deref.result.now cc) (λ x b q k. search (rules, tests)) in
    let same = ap (list_any (λ (k : Bor (List ℕ)). bytes_eq k.now key.now)) (sym c.deref.ensures.value) ∙ sym is in
    let whole = behind all so_far (key.now ∷ []) (map string_bytes (take (i + 1) items)) (map_more string_bytes items i one c.loop-setting-test.true (sym c.setting-item.is) ∙ ap (λ (k : List ℕ). so_far ++ k ∷ []) (sym c.as_str-key.ensures.value)) in
    subst (λ (texts : List Text). AreDistinctOf texts (map f keys)) whole
    (key_kept f key.now keys (all ++ so_far) (c.loop-setting.invariant all before) (same ∙ c.if-any.true))

pub loop-setting-preserved : goal.loop-setting-preserved
loop-setting-preserved c all before =
    let items = c.args.settings.now in
    let i = c.loop-setting.setting-index in
    let one = c.setting-item.result in
    let so_far = map string_bytes (take i items) in
    let keys = c.loop-setting.keys.items in
    let key = c.as_str-key.result in
    let f = λ (k : Bor (List ℕ)). k.now in
    let is = any_from_yields_List (λ (k : Bor (List ℕ)). bytes_eq k.now key.now) _ _ c.any.result c.any.ensures.ran (YieldsList-from_slice c.deref.result.now cc) (λ x b q k. search (rules, tests)) in
    let same = ap (list_any (λ (k : Bor (List ℕ)). bytes_eq k.now key.now)) (sym c.deref.ensures.value) ∙ sym is in
    let whole = behind all so_far (key.now ∷ []) (map string_bytes (take (i + 1) items)) (map_more string_bytes items i one c.loop-setting-test.true (sym c.setting-item.is) ∙ ap (λ (k : List ℕ). so_far ++ k ∷ []) (sym c.as_str-key.ensures.value)) in
    rw (ap (map f) c.in_ok-push.ensures.items ∙ map_append f keys (key ∷ [])) (subst (λ (ts : List Text). AreDistinctOf ts (map f keys ++ key.now ∷ [])) whole
    (key_pushed f key.now keys (all ++ so_far) (c.loop-setting.invariant all before) (same ∙ c.if-any.false)))
