use Rattle.std.proofs.Common.{rules, tests, ◌≡◌, ◌&&◌, ◌++◌, ap, bytes_eq, codes, string_bytes, ◌∙◌}
use Rattle.std.specs.List.{list_any}
use Rattle.std.proofs.lemmas.Iterator.{YieldsList-from_slice, Search.any_from_yields_List}
use Rattle.filterset_configuration.specs.{Keys.KeyRow, declared.keys.FoundKey.FoundKey}
use Rattle.filterset_configuration.proofs.KeyLemmas.{any-rows}
use Rattle.filterset_configuration.proofs.unknown.is_renamed.Goals as goal

pub returns : goal.returns
returns c =
    let keys = c.args.keys.now in
    let prefix = string_bytes c.args.found.now.prefix in
    let any : c.any.result ≡ list_any (λ (k : FoundKey). bytes_eq (string_bytes k.prefix) prefix && bytes_eq k.key.now c.args.renamed.now) keys =
    any_from_yields_List (λ (k : FoundKey). bytes_eq (string_bytes k.prefix) prefix && bytes_eq k.key.now c.args.renamed.now) _ _ c.any.result c.any.ensures.ran
    (YieldsList-from_slice keys cc) (λ x b q k. search (rules, tests)) in
    any
    ∙ ap (λ t. list_any (λ (k : FoundKey). bytes_eq (string_bytes k.prefix) prefix && bytes_eq k.key.now t) keys) c.requires
    ∙ any-rows (λ (r : KeyRow). bytes_eq r.prefix prefix && bytes_eq r.key (c.args.found.now.key.now ++ codes "_")) keys
