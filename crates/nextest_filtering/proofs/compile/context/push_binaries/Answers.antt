use Rattle.std.proofs.Common.{◌≡◌, ℕ, ◌+◌, List, [], ◌∷◌, ◌++◌, length, map, take, sym, ◌∙◌, ap, append_assoc, arith, rules}
use Rattle.std.specs.{Prelude.Option, Prelude.Some, Prelude.None, Prelude.option_map, List.filter_map, List.cons_option}
use Rattle.std.proofs.{Math.Seq.take-length, lemmas.List.map-append, lemmas.List.append-nil}
use Rattle.filterset_graph.specs.declared.package.BuildTarget.{BuildTarget}
use Rattle.nextest_filtering.specs.Binaries.{NameAndId, name_and_id, binary_with, binary_of}
use Rattle.nextest_filtering.specs.declared.compile.context.TestBinary.{TestBinary}
use Rattle.nextest_filtering.proofs.Filtered.{next_chosen}
use Rattle.nextest_filtering.proofs.compile.context.push_binaries.Goals.{in-Some+in_ok-id+in_ok-push, in_default}
use Rattle.nextest_filtering.proofs.compile.context.push_binaries.Goals as goal

-- one more was added
added : (old before : List NameAndId) (kept : List TestBinary) (binary : TestBinary) (o : Option NameAndId) → map name_and_id kept ≡ old ++ before → o ≡ Some (name_and_id binary)
    → map name_and_id (kept ++ binary ∷ []) ≡ old ++ (before ++ cons_option o [])
added old before kept binary o so_far is =
    map-append name_and_id kept (binary ∷ []) ∙ ap (λ (t : List NameAndId). t ++ name_and_id binary ∷ []) so_far ∙ append_assoc old before (name_and_id binary ∷ [])
    ∙ ap (λ (p : Option NameAndId). old ++ (before ++ cons_option p [])) (sym is)

pub loop-target-init : goal.loop-target-init
loop-target-init c = sym (append-nil _)

pub loop-target-preserved : goal.loop-target-preserved
loop-target-preserved c =
    let owner = c.args.owner.now in
    let targets = c.deref-target-items.result.now in
    let i = c.loop-target.target-index in
    let target = c.target-item.result in
    let old = map name_and_id c.args.binaries.now.items in
    let more = next_chosen (binary_of owner) targets i target c.loop-target-test.true c.target-item.is in
    let then : (rows : List NameAndId) → rows ≡ old ++ (filter_map (binary_of owner) (take i targets) ++ cons_option (binary_of owner target) []) → rows ≡ old ++ filter_map (binary_of owner) (take (i + 1) targets) =
    λ rows e. e ∙ ap (λ (t : List NameAndId). old ++ t) (sym more) in
    elim c.match-binary_kind.branch [
      | in-Some+in_ok-id+in_ok-push w ↦
          let binary : TestBinary = record { name = w.as_str-name.result; id = w.in_ok-id.id } in
          let made : name_and_id binary ≡ binary_with owner target w.in-Some.kind = search rules in
          let row : binary_of owner target ≡ Some (name_and_id binary) =
          ap (option_map (binary_with owner target)) (sym c.binary_kind.ensures ∙ w.in-Some.is) ∙ ap (λ (r : NameAndId). Some r) (sym made) in
          rw (w.binaries-is, w.in_ok-push.ensures.items) (then _ (added old (filter_map (binary_of owner) (take i targets)) c.loop-target.binaries.items _ (binary_of owner target) c.loop-target.invariant row))
      | in_default w ↦
          let none : binary_of owner target ≡ None = ap (option_map (binary_with owner target)) (sym c.binary_kind.ensures ∙ w.in_default.is) in
          rw w.binaries-is (then _ (c.loop-target.invariant ∙ ap (λ (t : List NameAndId). old ++ t) (sym (append-nil _)) ∙ ap (λ (o : Option NameAndId). old ++ (filter_map (binary_of owner) (take i targets) ++ cons_option o [])) (sym none)))
    ]

pub returns : goal.returns
returns c =
    let owner = c.args.owner.now in
    let targets = c.deref-target-items.result.now in
    let end : c.loop-target.target-index ≡ length targets = omega (arith, c.loop-target-test.false, c.loop-target.auto.target-index-end) in
    c.loop-target.invariant ∙ ap (λ (n : ℕ). map name_and_id c.args.binaries.now.items ++ filter_map (binary_of owner) (take n targets)) end
    ∙ ap (λ (t : List BuildTarget). map name_and_id c.args.binaries.now.items ++ filter_map (binary_of owner) t) (take-length targets ∙ c.deref-target-items.ensures.value)
