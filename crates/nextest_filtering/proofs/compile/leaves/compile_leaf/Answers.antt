use Rattle.std.proofs.{Common.◌≢◌, Common.[], Common.IsTrue, Common.refl, lemmas.Result.on_ok_weaker}
use Rattle.filterset_faults.specs.declared.error.ParseSingleError.TheVariants.{NoPackageMatch, NoBinaryNameMatch, NoBinaryIdMatch, NoGroupMatch}
use Rattle.filterset_graph.specs.Binaries.{IsBinaryId, IsBinaryName}
use Rattle.filterset_graph.specs.declared.package.PackageMetadata.{PackageMetadata}
use Rattle.filterset_grammar.specs.Tree.{Matching}
use Rattle.filterset_grammar.specs.declared.predicate.Predicate.TheVariants.{Package, Deps, Rdeps, Binary, BinaryId, Group}
use Rattle.filterset_matchers.specs.Matchers.{matcher_of}
use Rattle.nextest_filtering.specs.{Checks.MatchesSomeName, Compiling.packages_of, Groups.IsGroupName}
use Rattle.nextest_filtering.proofs.PackageSets.{some_named, some_dependency, some_dependent}
use Rattle.nextest_filtering.proofs.Unmatched.{adds_one, kept_away}
use Rattle.filterset_expression.specs.Meaning.{IsNamed}
use Rattle.nextest_filtering.proofs.compile.leaves.compile_leaf.Goals as goal

pub returns-in_ok-select_named-in-Package-clause-unmatched : goal.returns-in_ok-select_named-in-Package-clause-unmatched
returns-in_ok-select_named-in-Package-clause-unmatched c =
    let packages = packages_of c.args.cx.now in
    let matcher = matcher_of c.in-Package.matcher in
    let fault = NoPackageMatch c.in-Package.span in
    let keys = c.in_ok-select_named-in-Package.field-0.keys in
    let old = c.args.faults.now.items in
    let new = c.compile_packages.new.faults.items in
    let some = some_named packages matcher keys c.in_ok-select_named-in-Package.ensures in
    rw c.in-Package.is (on_ok_weaker c.compile_packages.result
    (λ added. adds_one packages c.args.known_groups.now (Matching Package matcher c.in-Package.span) fault old new refl
    (kept_away (keys ≢ []) ((p : PackageMetadata) × IsNamed packages matcher p) some.0 some.1 fault old new added)) c.compile_packages.ensures.unmatched)

pub returns-in_ok-select_dependencies-in-Deps-clause-unmatched : goal.returns-in_ok-select_dependencies-in-Deps-clause-unmatched
returns-in_ok-select_dependencies-in-Deps-clause-unmatched c =
    let packages = packages_of c.args.cx.now in
    let matcher = matcher_of c.in-Deps.matcher in
    let fault = NoPackageMatch c.in-Deps.span in
    let keys = c.in_ok-select_dependencies-in-Deps.field-0.keys in
    let old = c.args.faults.now.items in
    let new = c.compile_packages-in-Deps.new.faults.items in
    let some = some_dependency packages matcher keys c.in_ok-select_dependencies-in-Deps.ensures in
    rw c.in-Deps.is (on_ok_weaker c.compile_packages-in-Deps.result
    (λ added. adds_one packages c.args.known_groups.now (Matching Deps matcher c.in-Deps.span) fault old new refl
    (kept_away (keys ≢ []) ((p : PackageMetadata) × IsNamed packages matcher p) some.0 some.1 fault old new added)) c.compile_packages-in-Deps.ensures.unmatched)

pub returns-in_ok-select_dependents-in-Rdeps-clause-unmatched : goal.returns-in_ok-select_dependents-in-Rdeps-clause-unmatched
returns-in_ok-select_dependents-in-Rdeps-clause-unmatched c =
    let packages = packages_of c.args.cx.now in
    let matcher = matcher_of c.in-Rdeps.matcher in
    let fault = NoPackageMatch c.in-Rdeps.span in
    let keys = c.in_ok-select_dependents-in-Rdeps.field-0.keys in
    let old = c.args.faults.now.items in
    let new = c.compile_packages-in-Rdeps.new.faults.items in
    let some = some_dependent packages matcher keys c.in_ok-select_dependents-in-Rdeps.ensures in
    rw c.in-Rdeps.is (on_ok_weaker c.compile_packages-in-Rdeps.result
    (λ added. adds_one packages c.args.known_groups.now (Matching Rdeps matcher c.in-Rdeps.span) fault old new refl
    (kept_away (keys ≢ []) ((p : PackageMetadata) × IsNamed packages matcher p) some.0 some.1 fault old new added)) c.compile_packages-in-Rdeps.ensures.unmatched)

pub returns-in_ok-try_clone-in-Binary-clause-unmatched : goal.returns-in_ok-try_clone-in-Binary-clause-unmatched
returns-in_ok-try_clone-in-Binary-clause-unmatched c =
    let matcher = matcher_of c.in-Binary.matcher in
    let fault = NoBinaryNameMatch c.in-Binary.span in
    let old = c.args.faults.now.items in
    let new = c.push_unless.new.faults.items in
    let matched = c.in_ok-is_matched-in-Binary in
    rw c.in-Binary.is (adds_one (packages_of c.args.cx.now) c.args.known_groups.now (Matching Binary matcher c.in-Binary.span) fault old new refl
    (kept_away (IsTrue matched.is_matched) (MatchesSomeName matcher (IsBinaryName (packages_of c.args.cx.now))) matched.ensures.0 matched.ensures.1 fault old new c.in_ok-push_unless-in-Binary.ensures))

pub returns-in_ok-try_clone-in-BinaryId-clause-unmatched : goal.returns-in_ok-try_clone-in-BinaryId-clause-unmatched
returns-in_ok-try_clone-in-BinaryId-clause-unmatched c =
    let matcher = matcher_of c.in-BinaryId.matcher in
    let fault = NoBinaryIdMatch c.in-BinaryId.span in
    let old = c.args.faults.now.items in
    let new = c.push_unless-in-BinaryId.new.faults.items in
    let matched = c.in_ok-is_matched-in-BinaryId in
    rw c.in-BinaryId.is (adds_one (packages_of c.args.cx.now) c.args.known_groups.now (Matching BinaryId matcher c.in-BinaryId.span) fault old new refl
    (kept_away (IsTrue matched.is_matched) (MatchesSomeName matcher (IsBinaryId (packages_of c.args.cx.now))) matched.ensures.0 matched.ensures.1 fault old new c.in_ok-push_unless-in-BinaryId.ensures))

pub returns-in_ok-try_clone-in-Group-clause-unmatched : goal.returns-in_ok-try_clone-in-Group-clause-unmatched
returns-in_ok-try_clone-in-Group-clause-unmatched c =
    let matcher = matcher_of c.in-Group.matcher in
    let fault = NoGroupMatch c.in-Group.span in
    let old = c.args.faults.now.items in
    let new = c.push_unless-in-Group.new.faults.items in
    let matched = c.in_ok-is_matched-in-Group in
    rw c.in-Group.is (adds_one (packages_of c.args.cx.now) c.args.known_groups.now (Matching Group matcher c.in-Group.span) fault old new refl
    (kept_away (IsTrue matched.is_matched) (MatchesSomeName matcher (IsGroupName c.args.known_groups.now)) matched.ensures.0 matched.ensures.1 fault old new c.in_ok-push_unless-in-Group.ensures))
