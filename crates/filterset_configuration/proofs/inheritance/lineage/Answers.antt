use Rattle.std.proofs.Common.{◌≡◌, ◌<◌, true, false, List, ◌∷◌, [], ◌++◌, Option, Some, None, Bor, length, get_or, map, set, arith, ap, refl, subst, sym, ◌∙◌}
use Rattle.std.specs.Prelude.{option_copied}
use Rattle.std.proofs.lemmas.List.{length-set, map-append}
use Rattle.filterset_json.specs.Shape.{Text}
use Rattle.filterset_configuration.proofs.Chains.{IsPassed, cycle_found, leads_push, lineage_once, mark_read, missing_found, no_fault, one_more_passed}
use Rattle.filterset_configuration.specs.Lineages.{IsMissing, Leads, named, parent}
use Rattle.filterset_configuration.specs.{Names.is_built_in, Paths.profile_path}
use Rattle.filterset_configuration.specs.declared.{fault.LineageFault.TheVariants.Cycle, profiles.Profile.Profile}
use Rattle.filterset_configuration.proofs.inheritance.lineage.Goals as goal

-- a chain that leads to the next name
leads_to : (ps : List Profile) (name : Text) (chain : List Profile) (next found : Option (Bor Text)) → next ≡ found
    → Leads ps (Some name) chain (option_copied next) → Leads ps (Some name) chain (option_copied found)
leads_to ps name chain next found is h = subst (λ (o : Option (Bor Text)). Leads ps (Some name) chain (option_copied o)) is h

pub returns-then-is_built_in-clause-only : goal.returns-then-is_built_in-clause-only
returns-then-is_built_in-clause-only c = λ other h.
    let ps = c.args.profiles.now in
    let name = c.args.name.now in
    let chain = map (λ p. p.now) c.loop-next.chain.items in
    let leads = leads_to ps name chain c.loop-next.next (Some c.in-Some.wanted) c.in-Some.is c.loop-next.invariant.leads in
    lineage_once ps name chain other (Some c.in-Some.wanted.now, leads, sym c.in_default-find_profile.ensures.found, sym c.is_built_in.ensures ∙ c.if-is_built_in.true) h

pub returns-in_default-find_profile-clause-refused : goal.returns-in_default-find_profile-clause-refused
returns-in_default-find_profile-clause-refused c =
    let ps = c.args.profiles.now in
    let name = c.args.name.now in
    let chain = map (λ p. p.now) c.loop-next.chain.items in
    let wanted = c.in-Some.wanted.now in
    let fault = c.in_ok-missing.field-0 in
    let leads = leads_to ps name chain c.loop-next.next (Some c.in-Some.wanted) c.in-Some.is c.loop-next.invariant.leads in
    let is : IsMissing chain wanted fault = subst (λ (xs : List (Bor Profile)). IsMissing (map (λ p. p.now) xs) wanted fault) c.deref.ensures.value c.in_ok-missing.ensures in
    missing_found ps name chain wanted fault leads (sym c.in_default-find_profile.ensures.found) (sym c.is_built_in.ensures ∙ c.if-is_built_in.false) is

pub returns-in_default-find_profile-clause-only : goal.returns-in_default-find_profile-clause-only
returns-in_default-find_profile-clause-only c = λ other h.
    no_fault c.args.profiles.now c.args.name.now other c.in_ok-missing.field-0 h (returns-in_default-find_profile-clause-refused c)

pub returns-then-index-clause-refused : goal.returns-then-index-clause-refused
returns-then-index-clause-refused c =
    let ps = c.args.profiles.now in
    let name = c.args.name.now in
    let chain = map (λ p. p.now) c.loop-next.chain.items in
    let marks = c.loop-next.is_passed.items in
    let i = c.in-Some-find_profile.at in
    let p = c.in-Some-find_profile.profile.now in
    let leads = leads_to ps name chain c.loop-next.next (Some c.in-Some.wanted) c.in-Some.is c.loop-next.invariant.leads in
    let found = c.in-Some-find_profile.ensures in
    let many = c.loop-next.invariant.many in
    let within : i < length ps = found.position.0 in
    let mark : get_or marks i false ≡ true = mark_read marks i c.index.result.now true (omega arith) c.index.ensures c.if-index.true in
    cycle_found ps name chain (Some c.in-Some.wanted.now) p c.in_ok-path.path leads (sym found.found) (c.loop-next.invariant.passed i p mark found.position.1)
    (c.in_ok-path.ensures ∙ ap profile_path c.as_str.ensures.value)

pub returns-then-index-clause-only : goal.returns-then-index-clause-only
returns-then-index-clause-only c = λ other h.
    no_fault c.args.profiles.now c.args.name.now other (Cycle c.in_ok-path.path) h (returns-then-index-clause-refused c)

pub loop-next-preserved : goal.loop-next-preserved
loop-next-preserved c =
    let ps = c.args.profiles.now in
    let name = c.args.name.now in
    let items = c.loop-next.chain.items in
    let chain = map (λ p. p.now) items in
    let marks = c.loop-next.is_passed.items in
    let i = c.in-Some-find_profile.at in
    let profile = c.in-Some-find_profile.profile in
    let p = profile.now in
    let leads = leads_to ps name chain c.loop-next.next (Some c.in-Some.wanted) c.in-Some.is c.loop-next.invariant.leads in
    let found = c.in-Some-find_profile.ensures in
    let pushed : map (λ q. q.now) c.push.new.self.items ≡ chain ++ p ∷ [] = ap (map (λ q. q.now)) c.in_ok-push.ensures.items ∙ map-append (λ q. q.now) items (profile ∷ []) in
    let longer : Leads ps (Some name) (chain ++ p ∷ []) (parent p) = leads_push ps (Some name) chain (Some c.in-Some.wanted.now) p leads (sym found.found) in
    let here = subst (λ (xs : List Profile). Leads ps (Some name) xs (parent p)) (sym pushed) longer in
    record {
      leads = subst (λ (o : Option Text). Leads ps (Some name) (map (λ q. q.now) c.push.new.self.items) o) (sym c.parent-next.ensures) here;
      many = length-set marks i true ∙ c.loop-next.invariant.many;
      passed = subst (λ (xs : List Profile). IsPassed ps (set marks i true) xs) (sym pushed)
          (one_more_passed ps marks chain i p c.loop-next.invariant.passed found.position.1);
    }

pub returns-clause-only : goal.returns-clause-only
returns-clause-only c = λ other h.
    let ps = c.args.profiles.now in
    let name = c.args.name.now in
    let chain = map (λ p. p.now) c.loop-next.chain.items in
    lineage_once ps name chain other (None, leads_to ps name chain c.loop-next.next None c.in_default.is c.loop-next.invariant.leads, refl, tt) h
