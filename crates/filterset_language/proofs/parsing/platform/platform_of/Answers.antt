use Rattle.std.proofs.Common.{sym, rules}
use Rattle.filterset_language.proofs.Trimming.{platform_again, platform_found, no_platform, none_in}
use Rattle.filterset_graph.specs.declared.package.BuildPlatform.TheVariants.{Target, Host}
use Rattle.filterset_language.proofs.parsing.platform.platform_of.Goals as goal

pub returns-in-host : goal.returns-in-host
returns-in-host c =
    let names = platform_found Host _ _ c.utf8.value (search rules) c.in-host.is in
    record { value = sym (platform_again Host _ names); named = names }

pub returns-in-target : goal.returns-in-target
returns-in-target c =
    let names = platform_found Target _ _ c.utf8.value (search rules) c.in-target.is in
    record { value = sym (platform_again Target _ names); named = names }

pub returns-in_default : goal.returns-in_default
returns-in_default c =
    let none = no_platform c.args.value.now _ (search rules) c.in_default.not-host c.in_default.not-target in
    record { value = none_in c.args.value.now none; named = none }
