-- Packages that are named one after the other.
use Rattle.std.proofs.Common.{◌≡◌, ◌+◌, ◌<◌, ◌≤◌, Bor, List, [], ◌∷◌, ◌++◌, Bool, true, false, cond, ◌||◌, length, map, take, arith, refl, sym, ap, ◌∙◌, string_bytes, length-append, length-take}
use Rattle.std.proofs.lemmas.List.{append-nil, length-map, map-append, take-append-le, take_all, Elements.filter-append}
use Rattle.std.proofs.lemmas.Map.Text.{is_eq-slice_cmp}
use Rattle.std.specs.{Cmp.Lexicographic.slice_cmp, List.list_any, Ordering.is_eq, Ordering.nat_cmp, Str.bytes_eq}
use Rattle.filterset_graph.specs.{Packages.Text, declared.package.PackageMetadata.PackageMetadata}
use Rattle.filterset_listing.specs.NamedPackages.{Names, members}
use Rattle.filterset_listing.specs.declared.explaining.packages.NamedPackages.{NamedPackages}

abbrev name_of : PackageMetadata → Text
name_of p = string_bytes p.name

-- as many are named as there are, up to ten
named_long : (packages : List PackageMetadata) (named : NamedPackages) → Names packages named → length named.names.items ≡ length (take 10 packages)
named_long packages named names =
    sym (length-map named.names.items (λ n. n.now)) ∙ ap length names.0 ∙ length-map (take 10 packages) name_of

-- one more of ten or more
pub one_other : (packages : List PackageMetadata) (p : PackageMetadata) (old new : NamedPackages) → Names packages old → 10 ≤ length old.names.items
    → new.names.items ≡ old.names.items → new.others ≡ old.others + 1 → Names (packages ++ p ∷ []) new
one_other packages p old new names many same more =
    let long = named_long packages old names in
    let above : 10 ≤ length packages = omega (arith, many, long, length-take 10 packages) in
    let longer = length-append packages (p ∷ []) in (
      ap (map (λ n. n.now)) same ∙ names.0 ∙ ap (map name_of) (sym (take-append-le 10 packages (p ∷ []) above)),
      omega (arith, more, names.1, above, longer),
    )

-- one more of fewer than ten
pub one_named : (packages : List PackageMetadata) (p : PackageMetadata) (old new : NamedPackages) (name : Bor Text) → Names packages old → length old.names.items < 10
    → name.now ≡ name_of p → new.names.items ≡ old.names.items ++ name ∷ [] → new.others ≡ old.others → Names (packages ++ p ∷ []) new
one_named packages p old new name names few is more same =
    let long = named_long packages old names in
    let below : length packages < 10 = omega (arith, few, long, length-take 10 packages) in
    let longer = length-append packages (p ∷ []) in
    let whole : take 10 (packages ++ p ∷ []) ≡ packages ++ p ∷ [] = take_all 10 (packages ++ p ∷ []) (omega (arith, below, longer)) in
    let before : take 10 packages ≡ packages = take_all 10 packages (omega (arith, below)) in (
      ap (map (λ n. n.now)) more ∙ map-append (λ (n : Bor Text). n.now) old.names.items (name ∷ []) ∙ ap (λ ns. ns ++ name.now ∷ []) (names.0 ∙ ap (map name_of) before) ∙ ap (λ n. map name_of packages ++ n ∷ []) is
          ∙ sym (map-append name_of packages (p ∷ [])) ∙ ap (map name_of) (sym whole),
      omega (arith, same, names.1, below, longer),
    )

-- a set is looked through for an id by its bytes
found_by_bytes : (id : Text) (set : List Text) → list_any (λ one. is_eq (slice_cmp nat_cmp id one)) set ≡ list_any (bytes_eq id) set
found_by_bytes id [] = refl
found_by_bytes id (one ∷ set) =
    ap (λ b. b || list_any (λ other. is_eq (slice_cmp nat_cmp id other)) set) (is_eq-slice_cmp id one) ∙ ap (λ b. bytes_eq id one || b) (found_by_bytes id set)

module _ (set : List Text) (packages : List PackageMetadata) (p : PackageMetadata) (found : Bool) (is : found ≡ list_any (λ one. is_eq (slice_cmp nat_cmp p.id one)) set) where
  more_members : members set (packages ++ p ∷ []) ≡ members set packages ++ members set (p ∷ [])
  more_members = filter-append (λ (q : PackageMetadata). list_any (bytes_eq q.id) set) packages (p ∷ [])

  -- one more member
  pub one_member : found ≡ true → members set (packages ++ p ∷ []) ≡ members set packages ++ p ∷ []
  one_member there =
      let has : list_any (bytes_eq p.id) set ≡ true = sym (found_by_bytes p.id set) ∙ sym is ∙ there in
      let own : members set (p ∷ []) ≡ p ∷ [] = ap (λ b. cond b (p ∷ []) []) has in
      more_members ∙ ap (λ ps. members set packages ++ ps) own

  -- one more package that is none
  pub no_member : found ≡ false → members set (packages ++ p ∷ []) ≡ members set packages
  no_member none =
      let has : list_any (bytes_eq p.id) set ≡ false = sym (found_by_bytes p.id set) ∙ sym is ∙ none in
      let own : members set (p ∷ []) ≡ [] = ap (λ b. cond b (p ∷ []) []) has in
      more_members ∙ ap (λ ps. members set packages ++ ps) own ∙ append-nil (members set packages)
