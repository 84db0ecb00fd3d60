use Rattle.std.proofs.Common.{rules, sym}
use Rattle.filterset_language.specs.Faults.{misplaced_and, misplaced_or, misplaced_AND, misplaced_OR, misplaced_ampersands, misplaced_pipes}
use Rattle.filterset_language.proofs.FaultsStand.{none_misplaced}
use Rattle.filterset_language.proofs.parsing.misplaced.find_misplaced.Goals as goal

pub returns-in-Some-clause-value : goal.returns-in-Some-clause-value
returns-in-Some-clause-value c = record { suggested = misplaced_and; stands = sym c.in-Some.ensures.value }

pub returns-in-Some-after_word-clause-value : goal.returns-in-Some-after_word-clause-value
returns-in-Some-after_word-clause-value c = record { suggested = misplaced_or; stands = sym c.in-Some-after_word.ensures.value }

pub returns-in-Some-after_word-2-clause-value : goal.returns-in-Some-after_word-2-clause-value
returns-in-Some-after_word-2-clause-value c = record { suggested = misplaced_AND; stands = sym c.in-Some-after_word-2.ensures.value }

pub returns-in-Some-after_word-3-clause-value : goal.returns-in-Some-after_word-3-clause-value
returns-in-Some-after_word-3-clause-value c = record { suggested = misplaced_OR; stands = sym c.in-Some-after_word-3.ensures.value }

pub returns-in-Some-after-clause-value : goal.returns-in-Some-after-clause-value
returns-in-Some-after-clause-value c = record { suggested = misplaced_ampersands; stands = sym c.in-Some-after.ensures.value }

pub returns-clause-value : goal.returns-clause-value
returns-clause-value c = record { suggested = misplaced_pipes; stands = sym c.in_ok-end.ensures.value }

pub returns-in_err-end-clause-none : goal.returns-in_err-end-clause-none
returns-in_err-end-clause-none c = λ none. none_misplaced _ (search rules) (search rules) (search rules) (search rules) (search rules) (search rules)
