use Rattle.std.proofs.Common.{◌≡◌, ◌++◌, ◌∷◌, [], Bool, List, Option, true, false, subst, sym}
use Rattle.std.specs.{List.AllZip, List.count_by, Option.is_none, Option.unwrap_or}
use Rattle.filterset_overrides.specs.{Applied.AreTaken, Applying.DoesApply, Applying.sets, Giving.Gives}
use Rattle.filterset_overrides.proofs.GivingLemmas.{given_tests, more_taken, same_taken}
use Rattle.filterset_overrides.proofs.counting.columns.count_given.Goals as goal

pub returns-then-not-sets : goal.returns-then-not-sets
returns-then-not-sets c packages default tests before applied taken =
    let o = c.args.applied.now.asked in
    let unset : sets o.settings.now c.args.key.now ≡ false = sym c.if-not-sets.ensures in
    (unset, same_taken packages default tests c.args.key.now before o c.args.applied.now.answers.items c.args.taken.now.items applied.0 taken unset)

pub returns : goal.returns
returns c packages default tests before applied are =
    let o = c.args.applied.now.asked in
    let key = c.args.key.now in
    let answers = c.args.applied.now.answers.items in
    let taken = c.args.taken.now.items in
    let given = c.in_ok-given.given.items in
    let is_set : sets o.settings.now key ≡ true = sym c.if-not-sets.ensures in
    let given_is = rw (c.as_slice.ensures.value, c.as_slice-2.ensures.value) at c.in_ok-given.ensures in
    let more_is = rw (c.as_slice-3.ensures.value, c.as_slice-4.ensures.value) at c.in_ok-taken.ensures in
    let gives = subst (λ (gs : List (Option Bool)). AllZip (λ test. Gives (DoesApply packages default test) key before o) tests gs) (sym given_is)
    (given_tests packages default tests key before o answers taken applied.0 are) in
    let unknown : c.count_answers.result.unknown ≡ count_by is_none given = rw c.as_slice-5.ensures.value at c.count_answers.ensures.unknown in (
      (is_set, (given, gives, rw c.as_slice-5.ensures.value at c.count_answers.ensures.sure, unknown)),
      subst (λ (ts : List (Option Bool)). AreTaken packages default tests key (before ++ o ∷ []) ts) (sym more_is) (more_taken packages default tests key before o answers taken applied.0 are is_set),
    )
