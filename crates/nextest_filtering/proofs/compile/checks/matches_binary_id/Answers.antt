use Rattle.std.proofs.Common.{◌≡◌, ℕ, true, length, take, refl, sym, ◌∙◌, ap, subst, arith}
use Rattle.std.specs.Prelude.{All}
use Rattle.std.proofs.Math.Seq.{take-length}
use Rattle.std.proofs.lemmas.List.Elements.{All-nil, All-more, All-same}
use Rattle.filterset_matchers.specs.{Matcher.Matcher, Matcher.MatchesName, Matchers.matcher_of}
use Rattle.nextest_filtering.specs.Binaries.{NameAndId, name_and_id}
use Rattle.nextest_filtering.specs.{Compiling.packages_of, declared.compile.context.TestBinary.TestBinary}
use Rattle.nextest_filtering.proofs.Binaries.{is_kept, of_kept, matches_id, matches_no_id}
use Rattle.nextest_filtering.proofs.Members.{here}
use Rattle.nextest_filtering.proofs.compile.checks.matches_binary_id.Goals as goal

-- not matched
abbrev Missed : Matcher → TestBinary → Type 0
Missed matcher binary = ¬ MatchesName matcher binary.id

pub loop-binary-init : goal.loop-binary-init
loop-binary-init c = (c.in_ok-ready.ensures, All-nil (Missed (matcher_of c.args.matcher.now)))

pub loop-binary-preserved : goal.loop-binary-preserved
loop-binary-preserved c =
    let matcher = matcher_of c.args.matcher.now in
    let binaries = c.binaries-binaries.result.now in
    let binary = c.binary-item.result in
    let missed : Missed matcher binary = λ matched. (let h : c.in_ok-matches.field-0 ≡ true = c.in_ok-matches.ensures.matches.1 (subst (λ (m : Matcher). MatchesName m c.as_str.result.now) (sym c.loop-binary.invariant.0) (subst (MatchesName matcher) (sym c.as_str.ensures) matched)) in let e = c.if-branch.false in cc) in
    (c.matches.ensures.same ∙ c.loop-binary.invariant.0, All-more (Missed matcher) binaries c.loop-binary.binary-index binary c.loop-binary-test.true c.loop-binary.invariant.1 (subst (Missed matcher) c.binary-item.is missed))

pub returns-then-branch : goal.returns-then-branch
returns-then-branch c =
    let matcher = matcher_of c.args.matcher.now in
    let packages = packages_of c.args.cx.now in
    let binary = c.binary-item.result in
    let row = is_kept packages c.binaries-binaries.result.now c.binaries-binaries.ensures binary (here c.binaries-binaries.result.now c.loop-binary.binary-index binary c.loop-binary-test.true c.binary-item.is) in
    let matched = subst (MatchesName matcher) c.as_str.ensures (subst (λ (m : Matcher). MatchesName m c.as_str.result.now) c.loop-binary.invariant.0 (c.in_ok-matches.ensures.matches.0 c.if-branch.true)) in
    ((λ yes. matches_id packages matcher (name_and_id binary) row matched), (λ some. refl))

pub returns : goal.returns
returns c =
    let matcher = matcher_of c.args.matcher.now in
    let packages = packages_of c.args.cx.now in
    let binaries = c.binaries-binaries.result.now in
    let end : c.loop-binary.binary-index ≡ length binaries = omega (arith, c.loop-binary-test.false, c.loop-binary.auto.binary-index-end) in
    let all : All (Missed matcher) binaries = All-same (Missed matcher) binaries (take c.loop-binary.binary-index binaries) (sym (ap (λ (n : ℕ). take n binaries) end ∙ take-length binaries)) c.loop-binary.invariant.1 in
    ((λ yes. absurd (cc)), (λ some. absurd (matches_no_id packages matcher (of_kept packages binaries c.binaries-binaries.ensures (λ (row : NameAndId). ¬ MatchesName matcher row.id) all) some)))
