use Rattle.std.proofs.Common.{◌≡◌, ℕ, ◌+◌, Bor, List, [], ◌∷◌, ◌++◌, length, map, take, cond, refl, sym, ◌∙◌, ap, arith}
use Rattle.std.proofs.Math.Seq.{take-length}
use Rattle.std.proofs.lemmas.List.{map-append, append-nil, Elements.filter_more}
use Rattle.filterset_graph.specs.declared.package.PackageMetadata.{PackageMetadata}
use Rattle.nextest_filtering.specs.Binaries.{members_of}
use Rattle.nextest_filtering.proofs.compile.context.list_members.Goals.{then-package+in_ok-push, else-package}
use Rattle.nextest_filtering.proofs.compile.context.list_members.Goals as goal

abbrev seen : Bor PackageMetadata → PackageMetadata
seen p = p.now

pub loop-package-init : goal.loop-package-init
loop-package-init c = ap (map seen) c.new-members.ensures.items

pub loop-package-preserved : goal.loop-package-preserved
loop-package-preserved c =
    let packages = c.args.packages.now in
    let i = c.loop-package.package-index in
    let p = c.package-item.result in
    let here : PackageMetadata → List PackageMetadata = λ q. cond q.in_workspace (q ∷ []) [] in
    let more : members_of (take (i + 1) packages) ≡ members_of (take i packages) ++ here p =
    filter_more (λ (q : PackageMetadata). q.in_workspace) packages i p c.loop-package-test.true ∙ ap (λ (q : PackageMetadata). members_of (take i packages) ++ here q) (sym c.package-item.is) in
    elim c.if-package.branch [
      | then-package+in_ok-push w ↦
          let one : here p ≡ p ∷ [] = rw w.if-package.true refl in
          rw (w.members-is, w.in_ok-push.ensures.items) (map-append seen c.loop-package.members.items _ ∙ ap (λ (t : List PackageMetadata). t ++ p ∷ []) c.loop-package.invariant ∙ sym (more ∙ ap (λ (t : List PackageMetadata). members_of (take i packages) ++ t) one))
      | else-package w ↦
          let none : here p ≡ [] = rw w.if-package.false refl in
          rw w.members-is (c.loop-package.invariant ∙ sym (more ∙ ap (λ (t : List PackageMetadata). members_of (take i packages) ++ t) none ∙ append-nil _))
    ]

pub returns : goal.returns
returns c =
    let packages = c.args.packages.now in
    let end : c.loop-package.package-index ≡ length packages = omega (arith, c.loop-package-test.false, c.loop-package.auto.package-index-end) in
    c.loop-package.invariant ∙ ap (λ (n : ℕ). members_of (take n packages)) end ∙ ap members_of (take-length packages)
