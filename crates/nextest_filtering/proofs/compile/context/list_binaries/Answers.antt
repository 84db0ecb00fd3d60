use Rattle.std.proofs.Common.{◌≡◌, ℕ, suc, ◌+◌, Bor, List, [], ◌∷◌, ◌++◌, length, map, take, sym, ◌∙◌, ap, arith}
use Rattle.std.specs.List.{flat_map}
use Rattle.std.proofs.Math.Seq.{take-length, take-suc}
use Rattle.std.proofs.lemmas.{Grind.flat_map-append, List.map-append, List.append-nil}
use Rattle.filterset_graph.specs.declared.package.PackageMetadata.{PackageMetadata}
use Rattle.nextest_filtering.specs.Binaries.{NameAndId, binaries_of, name_and_id}
use Rattle.nextest_filtering.proofs.compile.context.list_binaries.Goals as goal

abbrev seen : Bor PackageMetadata → PackageMetadata
seen p = p.now

pub loop-package-init : goal.loop-package-init
loop-package-init c = ap (map name_and_id) c.new-binaries.ensures.items

pub loop-package-preserved : goal.loop-package-preserved
loop-package-preserved c =
    let packages = c.args.packages.now in
    let i = c.loop-package.package-index in
    let p = c.package-item.result in
    let next : i + 1 ≡ suc i = omega arith in
    let more : take (i + 1) packages ≡ take i packages ++ p ∷ [] =
    ap (λ (n : ℕ). take n packages) next ∙ take-suc packages i p c.loop-package-test.true ∙ ap (λ (q : Bor PackageMetadata). take i packages ++ q ∷ []) (sym c.package-item.is) in
    let all : flat_map binaries_of (map seen (take (i + 1) packages)) ≡ flat_map binaries_of (map seen (take i packages)) ++ binaries_of p.now =
    ap (λ (t : List (Bor PackageMetadata)). flat_map binaries_of (map seen t)) more ∙ ap (flat_map binaries_of) (map-append seen (take i packages) (p ∷ []))
    ∙ flat_map-append binaries_of (map seen (take i packages)) (p.now ∷ []) ∙ ap (λ (t : List NameAndId). flat_map binaries_of (map seen (take i packages)) ++ t) (append-nil (binaries_of p.now)) in
    c.in_ok-push_binaries.ensures ∙ ap (λ (t : List NameAndId). t ++ binaries_of p.now) c.loop-package.invariant ∙ sym all

pub returns : goal.returns
returns c =
    let packages = c.args.packages.now in
    let end : c.loop-package.package-index ≡ length packages = omega (arith, c.loop-package-test.false, c.loop-package.auto.package-index-end) in
    c.loop-package.invariant ∙ ap (λ (n : ℕ). flat_map binaries_of (map seen (take n packages))) end ∙ ap (λ (t : List (Bor PackageMetadata)). flat_map binaries_of (map seen t)) (take-length packages)
