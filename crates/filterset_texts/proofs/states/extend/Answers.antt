use Rattle.std.proofs.Common.{◌∙◌, ap, string_bytes, [], ◌∷◌, ◌++◌, arith, rules}
use Rattle.std.specs.Str.{chars}
use Rattle.std.proofs.lemmas.Str.{IsUtf8-string_bytes}
use Rattle.filterset_texts.proofs.Growth.{chars_longer}
use Rattle.filterset_texts.proofs.states.extend.Goals as goal

pub returns : goal.returns
returns c = search (rules, arith, chars_longer, IsUtf8-string_bytes)
