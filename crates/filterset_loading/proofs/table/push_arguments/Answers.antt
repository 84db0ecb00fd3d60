use Rattle.std.proofs.Common.{◌≡◌, ◌++◌, arith, rules, string_bytes}
use Rattle.std.proofs.lemmas.Grind.{common_steps}
use Rattle.filterset_loading.specs.Table.{argument_line, long_name, short_name}
use Rattle.filterset_loading.proofs.table.push_arguments.Goals as goal
use Rattle.filterset_loading.proofs.table.push_arguments.Goals.{in-Some+in_ok-write-2, in_default, in-Some-get_short+in_ok-write-3, in_default-get_short}

pub loop-argument-preserved : goal.loop-argument-preserved
loop-argument-preserved c =
    let argument = c.argument-item.result in
    let long : string_bytes c.match-get_long.output ≡ string_bytes c.write.new.self ++ long_name argument.long =
    elim c.match-get_long.branch [ in-Some+in_ok-write-2 w ↦ search rules | in_default w ↦ search rules ] in
    let short : string_bytes c.match-get_short.output ≡ string_bytes c.push_str.new.self ++ short_name argument.short =
    elim c.match-get_short.branch [ in-Some-get_short+in_ok-write-3 w ↦ search rules | in_default-get_short w ↦ search rules ] in
    let line : string_bytes c.writeln.new.self ≡ string_bytes c.loop-argument.output ++ argument_line c.args.command.now argument = grind (arith, common_steps) in
    grind (arith, common_steps)
