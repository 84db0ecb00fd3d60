use Rattle.std.proofs.lemmas.Result.{IfOk-weaker}
use Rattle.filterset_matchers.specs.Matchers.{matcher_of}
use Rattle.nextest_filtering.specs.{Candidates.AreCandidates, Compiling.packages_of}
use Rattle.nextest_filtering.proofs.PackageSets.{match_candidates, match_members}
use Rattle.nextest_filtering.proofs.compile.packages.select_named.Goals as goal

pub returns-in-Some : goal.returns-in-Some
returns-in-Some c =
    let matcher = matcher_of c.args.matcher.now in
    let members = c.members-members.result.now.packages.items in
    let candidates = rw c.in-Some.is at c.in_ok-candidates.ensures in
    let among : AreCandidates members matcher c.deref.result.now = rw c.deref.ensures.value candidates in
    IfOk-weaker c.select_among.result _ _ (λ ids are id.
    let found = match_candidates members c.deref.result.now matcher id among in
    let named = match_members (packages_of c.args.cx.now) matcher members c.members-members.ensures id in
    ((λ has. named.0 (found.0 ((are id).0 has))), (λ is. (are id).1 (found.1 (named.1 is))))) c.select_among.ensures

pub returns-in-None : goal.returns-in-None
returns-in-None c =
    let matcher = matcher_of c.args.matcher.now in
    let members = c.members-members.result.now.packages.items in
    IfOk-weaker c.select_among-in-None.result _ _ (λ ids are id.
    let named = match_members (packages_of c.args.cx.now) matcher c.packages.result.now (rw c.packages.ensures c.members-members.ensures) id in
    ((λ has. named.0 ((are id).0 has)), (λ is. (are id).1 (named.1 is)))) c.select_among-in-None.ensures
