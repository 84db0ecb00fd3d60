use Rattle.std.proofs.Common.{codes}
use Rattle.filterset_rewriting.specs.Links.{and_capitals, and_sign, and_word, or_capitals, or_sign, or_word}
use Rattle.filterset_rewriting.proofs.links.read_operator.Goals as goal

pub returns-in-Some-clause-found : goal.returns-in-Some-clause-found
returns-in-Some-clause-found c = record { word = codes "and"; says = and_word; begins = c.in-Some.ensures.found }

pub returns-in-Some-after_word-clause-found : goal.returns-in-Some-after_word-clause-found
returns-in-Some-after_word-clause-found c = record { word = codes "AND"; says = and_capitals; begins = c.in-Some-after_word.ensures.found }

pub returns-in-Some-after_word-2-clause-found : goal.returns-in-Some-after_word-2-clause-found
returns-in-Some-after_word-2-clause-found c = record { word = codes "&&"; says = and_sign; begins = c.in-Some-after_word-2.ensures.found }

pub returns-in-Some-after_word-3-clause-found : goal.returns-in-Some-after_word-3-clause-found
returns-in-Some-after_word-3-clause-found c = record { word = codes "or"; says = or_word; begins = c.in-Some-after_word-3.ensures.found }

pub returns-in-Some-after_word-4-clause-found : goal.returns-in-Some-after_word-4-clause-found
returns-in-Some-after_word-4-clause-found c = record { word = codes "OR"; says = or_capitals; begins = c.in-Some-after_word-4.ensures.found }

pub returns-in-Some-after_word-5-clause-found : goal.returns-in-Some-after_word-5-clause-found
returns-in-Some-after_word-5-clause-found c = record { word = codes "||"; says = or_sign; begins = c.in-Some-after_word-5.ensures.found }
