-- Suites with their tests.
use Rattle.std.proofs.Common.{◌∙◌, Bool, List, None, Option, Some, codes, map}
use Rattle.std.specs.{List.AllZip, Prelude.IsSomeAnd}
pub use Rattle.std.proofs.lemmas.Slice.Zip.{all_zipped_more as AllZip-push}
use Rattle.serde_json.specs.{Data.Data, Find.get}
use Rattle.filterset_json.specs.Shape.{Required, Text}
use Rattle.filterset_sources.specs.Shape.{IsObjectOf}
use Rattle.filterset_sources.specs.Suites.{IsCounted, IsListedUnder, IsSuiteUnder, IsTestList, ListedRow}
use Rattle.filterset_sources.specs.declared.list.{RunIgnored.RunIgnored, Suite.Suite}
use Rattle.filterset_sources.specs.declared.list.suites.{ListedSuite.ListedSuite, ListedTest.ListedTest}
use Rattle.filterset_sources.proofs.ShapeLemmas.{EachMember-zip}

abbrev pub test_row : ListedTest → Text × Bool
test_row test = (test.name, test.is_ignored)

-- what holds of what is there
some_weaker : {T : Type 0} (o : Option T) (P Q : T → Type 0) → ((x : T) → P x → Q x) → IsSomeAnd o P → IsSomeAnd o Q
some_weaker None P Q f h = h
some_weaker (Some x) P Q f h = f x h

-- the suites of a list, with their tests
pub counted_list : (run : RunIgnored) (d : Data) (all : List ListedSuite) (suites : List Suite) → AllZip (λ listed. IsCounted run (listed.suite, map test_row listed.tests.items)) all suites
    → Required (codes "rust-suites") (IsObjectOf IsListedUnder) d (map (λ listed. (listed.suite, map test_row listed.tests.items)) all) → IsTestList run d suites
counted_list run d all suites counted listed =
    let row : ListedSuite → ListedRow = λ one. (one.suite, map test_row one.tests.items) in
    some_weaker (get (codes "rust-suites") d) (λ e. IsObjectOf IsListedUnder e (map row all)) (λ e. IsObjectOf (IsSuiteUnder run) e suites)
    (λ e is. (
      is.0,
      is.1,
      EachMember-zip IsListedUnder (IsSuiteUnder run) row (λ one suite. IsCounted run (row one) suite)
          (λ key d one suite same under. ((row one).1, ((same.0 d under.0.0, under.0.1), same.1 ∙ under.1), same.2)) is.0 all suites counted is.2,
    )) listed
