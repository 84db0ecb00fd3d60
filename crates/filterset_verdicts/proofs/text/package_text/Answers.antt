use Rattle.std.proofs.Common.{inl}
use Rattle.filterset_verdicts.proofs.text.package_text.Goals as goal

pub returns-in-Some : goal.returns-in-Some
returns-in-Some c = inl (c.in-Some.package.now, c.in-Some.ensures.0, c.in-Some.ensures.1, c.as_str.ensures.value)
