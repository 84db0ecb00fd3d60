-- Sets of packages: by name, and along paths.
use Rattle.std.proofs.Common.{◌≡◌, ◌≢◌, ◌↔◌, ◌⊎◌, inl, inr, ⊎_elim, ℕ, ◌+◌, ◌<◌, Bool, true, Bor, List, [], ◌∷◌, ◌++◌, map, length, refl, sym, ◌∙◌, ap, subst, arith}
use Rattle.std.specs.Prelude.{Contains, Some, IsTrue, slice_get, string_bytes, Vec}
use Rattle.std.specs.{BTreeSet.BTreeSet, BTreeSet.IsFromIterResult, declared.cmp.Ordering.TheVariants.Equal}
use Rattle.std.specs.{Cmp.Lexicographic.slice_cmp, Ordering.nat_cmp, Ordering.is_eq, Global.Global}
use Rattle.std.proofs.lemmas.Cmp.{nat_list_cmp_total}
use Rattle.std.proofs.lemmas.List.Elements.{Contains-append_left, Contains-append_right, Contains-append_cases}
use Rattle.std.proofs.lemmas.Map.Text.{is_eq-slice_cmp}
use Rattle.std.proofs.lemmas.Map.Views.{btree_set_contains_from_list, btree_set_contains_iff}
use Rattle.std.proofs.lemmas.{Slice.Eq.bytes_eq-Decides, Option.same_Some, Option.slice_get_within, Bool.cases_lt}
use Rattle.filterset_graph.proofs.Rows.{pushed_at, pushed_keeps, pushed_cases}
use Rattle.filterset_graph.proofs.Positions.{position_from_Contains, Contains-from_position, element_from_mapped, mapped_at}
use Rattle.filterset_graph.specs.Marked.{IsMarkedId, MarksReached, MarksReaching}
use Rattle.filterset_graph.specs.Packages.{Path, ids, AllDiffer}
use Rattle.filterset_graph.specs.{Walks.IsMarked, declared.package.PackageMetadata.PackageMetadata}
use Rattle.filterset_matchers.specs.Matcher.{Matcher, MatchesName}
use Rattle.filterset_expression.specs.Meaning.{IsMember, IsNamed, IsPackage, IsDependency, IsDependent}
use Rattle.nextest_filtering.proofs.Members.{none_in, first, first_or_later, kept, from_filter}
use Rattle.nextest_filtering.specs.{Binaries.members_of, Candidates.AreCandidates}
use Rattle.nextest_filtering.specs.PackageMarks.{IsMatchAt, HasNamed, IsNamedAt, MarksNamed, IsMarkedMember}

same_text : (a b : List ℕ) → slice_cmp nat_cmp a b ≡ Equal → a ≡ b
same_text a b e = (bytes_eq-Decides a b).0 (sym (is_eq-slice_cmp a b) ∙ ap is_eq e)

-- ---- a list with one id more, and the set that is collected of a list

pushed : (id x : List ℕ) (keys : List (List ℕ)) → Contains (keys ++ id ∷ []) x ↔ (Contains keys x ⊎ (id ≡ x))
pushed id x keys = (
  (λ c. ⊎_elim (λ old. inl old) (λ new. ⊎_elim (λ same. inr same) (λ rest. absurd (none_in x rest)) (first_or_later id [] x new)) (Contains-append_cases keys (id ∷ []) x c)),
  (λ h. ⊎_elim (λ old. Contains-append_left keys (id ∷ []) x old) (λ same. Contains-append_right keys (id ∷ []) x (subst (λ (z : List ℕ). Contains (id ∷ []) z) same (first id []))) h),
)

pub collected : (ids : List (List ℕ)) (set : BTreeSet (List ℕ)) → IsFromIterResult (slice_cmp nat_cmp) ids set → (id : List ℕ) → Contains set.keys id ↔ Contains ids id
collected ids set made id =
    let has = btree_set_contains_iff nat_list_cmp_total same_text set id in
    let listed = btree_set_contains_from_list nat_list_cmp_total same_text ids set made id in
    ((λ c. listed.0 (has.1 c)), (λ c. has.0 (listed.1 c)))

-- ---- positions and packages

-- ids that differ stand at one position each
same_position : (names : List (List ℕ)) → AllDiffer names → (j k : ℕ) (id : List ℕ) → slice_get names j ≡ Some id → slice_get names k ≡ Some id → j ≡ k
same_position names differ j k id at there =
    ⊎_elim (λ less. absurd (differ k (j, less, slice_get_within names k id there, at ∙ sym there)))
    (λ not. ⊎_elim (λ less. absurd (differ j (k, less, slice_get_within names j id at, there ∙ sym at))) (λ over. omega (arith, not, over)) (cases_lt k j)) (cases_lt j k)

module _ (packages : List PackageMetadata) (matcher : Matcher) where
  -- the positions of named packages
  pub named_at : (k : ℕ) (p : PackageMetadata) → slice_get packages k ≡ Some p → IsNamed packages matcher p → IsNamedAt packages matcher k
  named_at k p at is = (p, at, is.0.1, is.1)

  abbrev pub named_from : (k : ℕ) → IsNamedAt packages matcher k → (p : PackageMetadata) × (slice_get packages k ≡ Some p) × IsNamed packages matcher p
  named_from k is = (is.0, is.1, ((Contains-from_position packages is.0 k is.1, is.2), is.3))

  module _ (starts : List Bool) (marked : MarksNamed packages matcher starts) where
    -- the marked ids are those of named packages
    pub marked_id : (id : List ℕ) → IsMarkedId packages starts id → (p : PackageMetadata) × IsNamed packages matcher p × (p.id ≡ id)
    marked_id id is =
        let at = element_from_mapped (λ (p : PackageMetadata). p.id) packages is.0 id is.1 in
        let named = named_from is.0 ((marked is.0).0 is.2) in
        let same : named.0 ≡ at.0 = same_Some named.0 at.0 (sym named.1 ∙ at.1) in
        (named.0, named.2, ap (λ (p : PackageMetadata). p.id) same ∙ at.2)

    pub id_marked : (p : PackageMetadata) → IsNamed packages matcher p → IsMarkedId packages starts p.id
    id_marked p is =
        let at = position_from_Contains packages p is.0.0 in
        (at.0, mapped_at (λ (q : PackageMetadata). q.id) packages at.0 p at.1, (marked at.0).1 (named_at at.0 p at.1 is))

    module _ (differ : AllDiffer (ids packages)) (marks : Vec Bool Global) where
      -- a marked id of a package of the workspace
      member_of : (id : List ℕ) → IsMarkedMember packages marks.items id → (p : PackageMetadata) × IsMember packages p × (p.id ≡ id) × IsMarkedId packages marks.items id
      member_of id is =
          let k = is.0 in let p = is.1.0 in (
            p,
            (Contains-from_position packages p k is.1.1, is.1.3),
            is.1.4,
            (k, mapped_at (λ (q : PackageMetadata). q.id) packages k p is.1.1 ∙ ap (λ (t : List ℕ). Some t) is.1.4, is.1.2),
          )

      of_member : (id : List ℕ) (p : PackageMetadata) → IsMember packages p → p.id ≡ id → IsMarkedId packages marks.items id → IsMarkedMember packages marks.items id
      of_member id p member same is =
          let at = position_from_Contains packages p member.0 in
          let here = mapped_at (λ (q : PackageMetadata). q.id) packages at.0 p at.1 ∙ ap (λ (t : List ℕ). Some t) same in
          let position : is.0 ≡ at.0 = same_position (ids packages) differ is.0 at.0 id is.1 here in
          (at.0, (p, at.1, subst (λ (k : ℕ). IsMarked marks.items k) position is.2, member.1, same))

      pub dependencies : MarksReached packages starts marks → (id : List ℕ) → IsMarkedMember packages marks.items id ↔ IsDependency packages matcher id
      dependencies reached id = (to, from)
        where
          to : IsMarkedMember packages marks.items id → IsDependency packages matcher id
          to is =
              let m = member_of id is in let start = (reached id).0 m.3 in let named = marked_id start.0 start.1 in
              (m.0, named.0, m.1, m.2, named.1, subst (λ (s : List ℕ). Path packages s id) (sym named.2) start.2)

          from : IsDependency packages matcher id → IsMarkedMember packages marks.items id
          from is = of_member id is.0 is.2 is.3 ((reached id).1 (is.1.id, id_marked is.1 is.4, is.5))

      pub dependents : MarksReaching packages starts marks → (id : List ℕ) → IsMarkedMember packages marks.items id ↔ IsDependent packages matcher id
      dependents reaching id = (to, from)
        where
          to : IsMarkedMember packages marks.items id → IsDependent packages matcher id
          to is =
              let m = member_of id is in let end = (reaching id).0 m.3 in let named = marked_id end.0 end.1 in
              (m.0, named.0, m.1, m.2, named.1, subst (λ (s : List ℕ). Path packages id s) (sym named.2) end.2)

          from : IsDependent packages matcher id → IsMarkedMember packages marks.items id
          from is = of_member id is.0 is.2 is.3 ((reaching id).1 (is.1.id, id_marked is.1 is.4, is.5))

-- ---- whether some package is named

module _ (packages : List PackageMetadata) (matcher : Matcher) where
  -- a package that is named is in each of the sets
  itself : (p : PackageMetadata) → IsNamed packages matcher p → Path packages p.id p.id
  itself p is =
      let at = position_from_Contains packages p is.0.0 in
      (Contains-from_position (ids packages) p.id at.0 (mapped_at (λ (q : PackageMetadata). q.id) packages at.0 p at.1), ([], refl))

  module _ (keys : List (List ℕ)) where
    some_key : (id : List ℕ) → Contains keys id → keys ≢ []
    some_key id c none = none_in id (subst (λ (ks : List (List ℕ)). Contains ks id) none c)

    a_key : keys ≢ [] → (id : List ℕ) × Contains keys id
    a_key some = by keys refl
      where
        by : (ks : List (List ℕ)) → keys ≡ ks → (id : List ℕ) × Contains keys id
        by [] e = absurd (some e)
        by (k ∷ ks) e = (k, rw e (first k ks))

    pub some_named : ((id : List ℕ) → Contains keys id ↔ IsPackage packages matcher id) → (keys ≢ []) ↔ ((p : PackageMetadata) × IsNamed packages matcher p)
    some_named are = ((λ some. let k = a_key some in let is = (are k.0).0 k.1 in (is.0, is.1)), (λ is. some_key is.0.id ((are is.0.id).1 (is.0, is.1, refl))))

    pub some_dependency : ((id : List ℕ) → Contains keys id ↔ IsDependency packages matcher id) → (keys ≢ []) ↔ ((p : PackageMetadata) × IsNamed packages matcher p)
    some_dependency are = ((λ some. let k = a_key some in let is = (are k.0).0 k.1 in (is.1, is.4)), (λ is. some_key is.0.id ((are is.0.id).1 (is.0, is.0, is.1.0, refl, is.1, itself is.0 is.1))))

    pub some_dependent : ((id : List ℕ) → Contains keys id ↔ IsDependent packages matcher id) → (keys ≢ []) ↔ ((p : PackageMetadata) × IsNamed packages matcher p)
    some_dependent are = ((λ some. let k = a_key some in let is = (are k.0).0 k.1 in (is.1, is.4)), (λ is. some_key is.0.id ((are is.0.id).1 (is.0, is.0, is.1.0, refl, is.1, itself is.0 is.1))))

-- ---- gathering sets

module _ (Gives : ℕ → List ℕ → Type 0) where
  -- a position before n gives this id
  abbrev pub IsGivenBefore : ℕ → List ℕ → Type 0
  IsGivenBefore n id = (k : ℕ) × (k < n) × Gives k id

  given_before : (n : ℕ) (id : List ℕ) → IsGivenBefore (n + 1) id → IsGivenBefore n id ⊎ Gives n id
  given_before n id is =
      ⊎_elim (λ less. inl (is.0, less, is.2)) (λ over. let e : is.0 ≡ n = omega (arith, over, is.1) in inr (subst (λ (k : ℕ). Gives k id) e is.2)) (cases_lt is.0 n)

  given_still : (n : ℕ) (id : List ℕ) → IsGivenBefore n id → IsGivenBefore (n + 1) id
  given_still n id is = (is.0, omega (arith, is.1), is.2)

  -- nothing yet
  pub none_given : (keys : List (List ℕ)) → keys ≡ [] → (id : List ℕ) → Contains keys id ↔ IsGivenBefore 0 id
  none_given keys none id = ((λ c. absurd (none_in id (subst (λ (ks : List (List ℕ)). Contains ks id) none c))), (λ is. absurd (omega (arith, is.1))))

  module _ (keys : List (List ℕ)) (n : ℕ) (so_far : (id : List ℕ) → Contains keys id ↔ IsGivenBefore n id) where
    -- the next position gives an id, which is put last
    pub one_pushed : (new : List (List ℕ)) (key : List ℕ) → new ≡ keys ++ key ∷ [] → Gives n key → ((id : List ℕ) → Gives n id → key ≡ id) → (id : List ℕ) → Contains new id ↔ IsGivenBefore (n + 1) id
    one_pushed new key is here only id = (
      (λ c. ⊎_elim (λ old. given_still n id ((so_far id).0 old)) (λ same. (n, omega arith, subst (Gives n) same here)) ((pushed key id keys).0 (subst (λ (ks : List (List ℕ)). Contains ks id) is c))),
      (λ g. subst (λ (ks : List (List ℕ)). Contains ks id) (sym is) ((pushed key id keys).1 (⊎_elim (λ old. inl ((so_far id).1 old)) (λ now. inr (only id now)) (given_before n id g)))),
    )

    -- it gives none
    pub passed_over : ((id : List ℕ) → ¬ Gives n id) → (id : List ℕ) → Contains keys id ↔ IsGivenBefore (n + 1) id
    passed_over none id =
        ((λ c. given_still n id ((so_far id).0 c)), (λ g. ⊎_elim (λ old. (so_far id).1 old) (λ now. absurd (none id now)) (given_before n id g)))

    -- at the end all positions were passed
    pub all_given : ((k : ℕ) (id : List ℕ) → Gives k id → k < n) → (id : List ℕ) → Contains keys id ↔ ((k : ℕ) × Gives k id)
    all_given within id = ((λ c. let is = (so_far id).0 c in (is.0, is.2)), (λ g. (so_far id).1 (g.0, within g.0 id g.1, g.1)))

-- over the packages of the workspace, these are the ids of those that are named
pub match_members : (packages : List PackageMetadata) (matcher : Matcher) (members : List (Bor PackageMetadata)) → map (λ (p : Bor PackageMetadata). p.now) members ≡ members_of packages
    → (id : List ℕ) → ((k : ℕ) × IsMatchAt members matcher k id) ↔ IsPackage packages matcher id
match_members packages matcher members are id = (to, from)
  where
    to : ((k : ℕ) × IsMatchAt members matcher k id) → IsPackage packages matcher id
    to is =
        let p = is.1.0 in
        let here = mapped_at (λ (q : Bor PackageMetadata). q.now) members is.0 p is.1.1 in
        let c = subst (λ (ps : List PackageMetadata). Contains ps p.now) are (Contains-from_position _ p.now is.0 here) in
        (p.now, (from_filter (λ (q : PackageMetadata). q.in_workspace) packages p.now c, is.1.2), is.1.3)

    from : IsPackage packages matcher id → (k : ℕ) × IsMatchAt members matcher k id
    from is =
        let p = is.0 in
        let c = kept (λ (q : PackageMetadata). q.in_workspace) packages p is.1.0.0 is.1.0.1 in
        let at = position_from_Contains _ p (subst (λ (ps : List PackageMetadata). Contains ps p) (sym are) c) in
        let m = element_from_mapped (λ (q : Bor PackageMetadata). q.now) members at.0 p at.1 in
        (at.0, (m.0, m.1, subst (λ (q : PackageMetadata). MatchesName matcher (string_bytes q.name)) (sym m.2) is.1.1, ap (λ (q : PackageMetadata). q.id) m.2 ∙ is.2))

-- what is named among candidates is named among all
pub match_candidates : (packages found : List (Bor PackageMetadata)) (matcher : Matcher) (id : List ℕ) → AreCandidates packages matcher found
    → HasNamed found matcher id ↔ HasNamed packages matcher id
match_candidates packages found matcher id are = (
  (λ is.
      let p = is.1.0 in
      let at = position_from_Contains packages p (are.some p (Contains-from_position found p is.0 is.1.1)) in
      (at.0, (p, at.1, is.1.2, is.1.3))),
  (λ is.
      let p = is.1.0 in
      let at = position_from_Contains found p (are.all p (Contains-from_position packages p is.0 is.1.1) is.1.2) in
      (at.0, (p, at.1, is.1.2, is.1.3))),
)

-- a package has the id of a named one exactly where it is named
pub named_by_id : (packages : List PackageMetadata) (matcher : Matcher) → AllDiffer (ids packages) → (k : ℕ) (p : PackageMetadata) → slice_get packages k ≡ Some p
    → IsPackage packages matcher p.id ↔ IsNamedAt packages matcher k
named_by_id packages matcher differ k p at = (
  (λ is.
      let q = is.0 in
      let there = position_from_Contains packages q is.1.0.0 in
      let same_id = mapped_at (λ (r : PackageMetadata). r.id) packages there.0 q there.1 ∙ ap (λ (t : List ℕ). Some t) is.2 in
      let position = same_position (ids packages) differ there.0 k p.id same_id (mapped_at (λ (r : PackageMetadata). r.id) packages k p at) in
      subst (IsNamedAt packages matcher) position (named_at packages matcher there.0 q there.1 is.1)),
  (λ is. let named = named_from packages matcher k is in (named.0, named.2, ap (λ (r : PackageMetadata). r.id) (same_Some named.0 p (sym named.1 ∙ at)))),
)

-- one mark more
pub marked_one_more : (packages : List PackageMetadata) (matcher : Matcher) (marks : List Bool) (n : ℕ) (mark : Bool) → length marks ≡ n
    → ((k : ℕ) → IsMarked marks k ↔ ((k < n) × IsNamedAt packages matcher k)) → IsTrue mark ↔ IsNamedAt packages matcher n
    → (k : ℕ) → IsMarked (marks ++ mark ∷ []) k ↔ ((k < n + 1) × IsNamedAt packages matcher k)
marked_one_more packages matcher marks n mark size so_far here k = (to, from)
  where
    to : IsMarked (marks ++ mark ∷ []) k → (k < n + 1) × IsNamedAt packages matcher k
    to is = ⊎_elim (λ old. let h = (so_far k).0 old in (omega (arith, h.0), h.1))
        (λ new. (omega (arith, new.0, size), subst (IsNamedAt packages matcher) (sym (new.0 ∙ size)) (here.0 new.1))) (pushed_cases marks mark k true is)

    from : (k < n + 1) × IsNamedAt packages matcher k → IsMarked (marks ++ mark ∷ []) k
    from is = ⊎_elim (λ less. pushed_keeps marks mark k true ((so_far k).1 (less, is.1)))
        (λ over. let e : k ≡ n = omega (arith, over, is.0) in
        let yes : mark ≡ true = here.1 (subst (IsNamedAt packages matcher) e is.1) in
        subst (λ (j : ℕ). IsMarked (marks ++ mark ∷ []) j) (size ∙ sym e) (pushed_at marks mark ∙ ap (λ (b : Bool). Some b) yes)) (cases_lt k n)
