use Rattle.std.proofs.{Common.◌≡◌, Common.◌∙◌, Common.refl, Common.sym, Common.true, lemmas.Bool.false≢true}
use Rattle.filterset_deciding.specs.Aspects.{is_of_platform}
use Rattle.filterset_deciding.proofs.Agreeing.{agrees_on}
use Rattle.filterset_graph.specs.declared.package.BuildPlatform.{BuildPlatform, TheVariants.Target, TheVariants.Host}
use Rattle.filterset_deciding.proofs.aspects.find_platform.Goals as goal

one_of_two : (p : BuildPlatform) → ¬ (p ≡ Target) → ¬ (p ≡ Host) → ⊥
one_of_two Target f g = f refl
one_of_two Host f g = g refl

pub returns-then-is_platform_allowed-clause-some :
    goal.returns-then-is_platform_allowed-clause-some
returns-then-is_platform_allowed-clause-some c = λ test same. (c.is_platform_allowed.ensures test same).0 c.if-is_platform_allowed.true

pub returns-then-is_platform_allowed-2-clause-some :
    goal.returns-then-is_platform_allowed-2-clause-some
returns-then-is_platform_allowed-2-clause-some c = λ test same.
    (c.is_platform_allowed-else-is_platform_allowed.ensures test same).0 c.if-is_platform_allowed-2.true

pub returns-else-is_platform_allowed-2-clause-none :
    goal.returns-else-is_platform_allowed-2-clause-none
returns-else-is_platform_allowed-2-clause-none c = λ test agrees.
    let on = agrees_on (λ leaf. is_of_platform leaf ≡ true) test c.args.branch.now agrees in
    one_of_two test.query.binary_query.platform
    (λ same. false≢true (sym c.if-is_platform_allowed.false ∙ (c.is_platform_allowed.ensures test same).1 on))
    (λ same. false≢true (sym c.if-is_platform_allowed-2.false ∙ (c.is_platform_allowed-else-is_platform_allowed.ensures test same).1 on))
