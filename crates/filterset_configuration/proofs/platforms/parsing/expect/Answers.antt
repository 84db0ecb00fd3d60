use Rattle.std.proofs.Common.{length, ap}
use Rattle.std.specs.Str.{trim_start}
use Rattle.filterset_configuration.proofs.PlatformWords.{trim_rest}
use Rattle.filterset_configuration.proofs.platforms.parsing.expect.Goals as goal

pub returns : goal.returns
returns c =
    let moved = rw c.trim_start.ensures.trim at (trim_rest c.args.text.now c.trim_start.result.now c.trim_start.ensures.value) in
    (trim_start c.args.text.now, moved, ap length c.trim_start.ensures.trim, c.requires)
