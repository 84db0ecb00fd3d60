use Rattle.std.proofs.Common.{◌≡◌, Bor, Global, List, String, ℕ, map, rules, string_bytes, subst}
use Rattle.std.specs.{HashSet.keys, Map.Iter.deref}
use Rattle.std.proofs.lemmas.Map.Iter.{iter_end}
use Rattle.filterset_verdicts.proofs.listed.custom_names.Goals as goal

pub returns : goal.returns
returns c =
    let custom = keys c.args.groups.now in
    let start : c.into_iter-name-iterator.result ≡ custom = search rules in
    let end = iter_end deref custom c.loop-name.yielded c.into_iter-name-iterator.result c.loop-name.name-iterator c.next.new.self c.next.result start c.loop-name.yielded_by c.in-None.is c.next.ensures.steps in
    subst (λ (strings : List (String Global)). map (λ (g : Bor (List ℕ)). g.now) c.loop-name.names.items ≡ map (λ (s : String Global). string_bytes s) strings) end.0 c.loop-name.invariant
