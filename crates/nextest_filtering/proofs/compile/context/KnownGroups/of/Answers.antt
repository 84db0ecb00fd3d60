use Rattle.std.proofs.Common.{rules}
use Rattle.nextest_filtering.proofs.GroupNames.{collected_names}
use Rattle.nextest_filtering.proofs.compile.context.KnownGroups.of.Goals as goal

pub returns-clause-groups : goal.returns-clause-groups
returns-clause-groups c = collected_names c.args.names.items c.in_ok-collect.field-0 (search rules)
