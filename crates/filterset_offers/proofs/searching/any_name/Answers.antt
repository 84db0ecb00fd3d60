use Rattle.std.proofs.Common.{◌≡◌, ◌<◌, ◌≤◌, ◌∙◌, [], ℕ, Bor, List, get_or, length, map, subst, sym}
use Rattle.std.proofs.lemmas.{Bool.false≢true, List.get_or-map, List.length-map, List.Elements.All-more}
use Rattle.filterset_graph.specs.Packages.{Text}
use Rattle.filterset_matchers.specs.{Matcher.Matcher, Matcher.MatchesName, Matchers.matcher_of}
use Rattle.filterset_offers.proofs.AnyLemmas.{found, not_found}
use Rattle.filterset_offers.proofs.searching.any_name.Goals as goal

abbrev text : Bor Text → Text
text n = n.now

abbrev nothing : Bor Text
nothing = record { ref_ptr = (0, 0); now = [] }

within : (names : List (Bor Text)) (i : ℕ) → i < length names → i < length (map text names)
within names i lt = rw (length-map names text) lt

here : (names : List (Bor Text)) (i : ℕ) → i < length names
    → get_or (map text names) i (get_or names i nothing).now ≡ (get_or names i nothing).now
here names i lt = get_or-map text names i nothing (get_or names i nothing).now lt

pub loop-name-preserved : goal.loop-name-preserved
loop-name-preserved c =
    let matcher = matcher_of c.args.matcher.now in
    let names = c.args.names.now in
    let i = c.loop-name.name-index in
    let name = (get_or names i nothing).now in
    let same = c.loop-name.invariant.0 in
    let Missed : Text → Type 0 = λ n. ¬ MatchesName matcher n in
    let missed : Missed name = λ is.
    false≢true (sym c.if-branch.false ∙ c.in_ok-matches.ensures.matches.1 (subst (λ (m : Matcher). MatchesName m name) (sym same) is)) in (
      c.matches.ensures.same ∙ same,
      All-more Missed (map text names) i name (within names i c.loop-name-test.true) c.loop-name.invariant.1 (subst Missed (sym (here names i c.loop-name-test.true)) missed),
    )

pub returns-then-branch : goal.returns-then-branch
returns-then-branch c =
    let matcher = matcher_of c.args.matcher.now in
    let names = c.args.names.now in
    let i = c.loop-name.name-index in
    let name = (get_or names i nothing).now in
    found (MatchesName matcher) (map text names) i name (within names i c.loop-name-test.true) (here names i c.loop-name-test.true)
    (subst (λ (m : Matcher). MatchesName m name) c.loop-name.invariant.0 (c.in_ok-matches.ensures.matches.0 c.if-branch.true))

pub returns : goal.returns
returns c =
    let names = c.args.names.now in
    let end : length (map text names) ≤ c.loop-name.name-index = rw (length-map names text) c.loop-name-test.false in
    not_found (MatchesName (matcher_of c.args.matcher.now)) (map text names) c.loop-name.name-index end c.loop-name.invariant.1
