use Rattle.std.proofs.{Common.codes, lemmas.Str.Pattern.contains_text}
use Rattle.nextest_filtering.proofs.DepsAreNamed.{deps_are_named}
use Rattle.nextest_filtering.proofs.filterset.Filterset.needs_deps.Goals as goal

-- a tree that asks for it is spelled with the word
pub returns-clause-named : goal.returns-clause-named
returns-clause-named c = λ e spells has.
    (contains_text c.contains.result (codes "deps") c.args.raw_expr.now c.contains.ensures.cases).1 (deps_are_named c.args.raw_expr.now e spells has)
