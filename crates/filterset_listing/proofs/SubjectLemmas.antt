-- What filtersets are asked about for a list, from one test or binary to the next.
use Rattle.std.proofs.Common.{arith, ◌≡◌, ◌∙◌, ◌⊎◌, ℕ, ◌+◌, ◌<◌, length, get_or, map, drop, List, [], ◌∷◌, ◌++◌, Option, Some, None, true, refl, sym, ap, subst, inl, inr, append_assoc, unwrap_or}
use Rattle.std.specs.{Borrow.Bor, Prelude.◌↔◌, Prelude.All, Prelude.Contains, Prelude.codes}
use Rattle.std.proofs.lemmas.List.{append-nil, drop_more, map-append}
use Rattle.std.proofs.lemmas.List.Elements.{All-append, All-cons, All-nil, Contains-append_left, Contains-append_right}
use Rattle.filterset_expression.specs.declared.expression.CompiledExpr.{CompiledExpr}
use Rattle.filterset_expression.specs.declared.query.{BinaryQuery.BinaryQuery, TestQuery.TestQuery}
use Rattle.filterset_listing.specs.{Asking.Text, Groups.Covers, Groups.HangsOn, Groups.MayBeIn, Groups.applies}
use Rattle.filterset_listing.specs.Overrides.{given_of}
use Rattle.filterset_listing.specs.Subjects.{AreOfName, AreOfTest, HangsBy, Parts, next_part, no_parts}
use Rattle.filterset_listing.specs.declared.explaining.candidate.Candidate.TheVariants.{Test}
use Rattle.filterset_listing.specs.declared.groups.{GroupOverride.GroupOverride, ToldOverride.ToldOverride}
use Rattle.filterset_listing.specs.declared.subjects.Subject.{Subject}

-- ---- groups

-- what was added twice
pub more_added : (old mid new all added : List Subject) → mid ≡ old ++ all → new ≡ mid ++ added → new ≡ old ++ (all ++ added)
more_added old mid new all added first second = second ∙ ap (λ t. t ++ added) first ∙ append_assoc old all added

-- the groups of subjects
abbrev pub groups_of : List Subject → List Text
groups_of = map (λ (s : Subject). s.group.now)

module _ (default : CompiledExpr) (overrides : List GroupOverride) (test : TestQuery) where
  abbrev IsTest : Subject → Type 0
  IsTest s = s.candidate ≡ Test test

  -- the override that the groups hang on, where these overrides are left
  abbrev pub Hangs : List Subject → Option (Bor Text) → List GroupOverride → Type 0
  Hangs added (Some path) left = HangsOn default overrides test path.now
  Hangs added None left = (added ≡ []) × ((path : Text) → HangsOn default left test path → HangsOn default overrides test path)

  -- the test was added in the groups of the overrides before these
  pub record Walked (added : List Subject) (path : Option (Bor Text)) (left : List GroupOverride) : Type 0 where
    pub tests : All IsTest added
    pub groups : All (MayBeIn default overrides test) (groups_of added)
    pub covered : (group : Text) → MayBeIn default overrides test group → Contains (groups_of added) group ⊎ MayBeIn default left test group
    pub left_may : (group : Text) → MayBeIn default left test group → MayBeIn default overrides test group
    pub hangs : Hangs added path left

  pub begins : (left : List GroupOverride) → ((text : Text) → (MayBeIn default left test text ↔ MayBeIn default overrides test text) × (HangsOn default left test text ↔ HangsOn default overrides test text))
      → Walked [] None left
  begins left same = record {
    tests = All-nil IsTest;
    groups = All-nil (MayBeIn default overrides test);
    covered = λ group may. inr ((same group).0.1 may);
    left_may = λ group may. (same group).0.0 may;
    hangs = (refl, λ path is. (same path).1.0 is);
  }

  module _ (added : List Subject) (s : Subject) where
    split : groups_of (added ++ s ∷ []) ≡ groups_of added ++ s.group.now ∷ []
    split = map-append (λ (t : Subject). t.group.now) added (s ∷ [])

    earlier : (group : Text) → Contains (groups_of added) group → Contains (groups_of (added ++ s ∷ [])) group
    earlier group has = subst (λ l. Contains l group) (sym split) (Contains-append_left (groups_of added) (s.group.now ∷ []) group has)

    own : (group : Text) → group ≡ s.group.now → Contains (groups_of (added ++ s ∷ [])) group
    own group here = subst (λ l. Contains l group) (sym split) (Contains-append_right (groups_of added) (s.group.now ∷ []) group (0, omega arith, sym here))

    one_test : s.candidate ≡ Test test → All IsTest added → All IsTest (added ++ s ∷ [])
    one_test is tests = All-append IsTest added (s ∷ []) tests (All-cons IsTest s [] is (All-nil IsTest))

    one_group : MayBeIn default overrides test s.group.now → All (MayBeIn default overrides test) (groups_of added) → All (MayBeIn default overrides test) (groups_of (added ++ s ∷ []))
    one_group may all = subst (All (MayBeIn default overrides test)) (sym split)
        (All-append (MayBeIn default overrides test) (groups_of added) (s.group.now ∷ []) all (All-cons (MayBeIn default overrides test) s.group.now [] may (All-nil (MayBeIn default overrides test))))

    -- the last group
    last_hangs : (path : Option (Bor Text)) (left : List GroupOverride) → Hangs added path left → HangsBy default overrides test (added ++ s ∷ []) path
    last_hangs None left (empty, hangs) = (s, ap (λ l. l ++ s ∷ []) empty)
    last_hangs (Some path) left hangs = hangs

    last : (path : Option (Bor Text)) (left : List GroupOverride) → Walked added path left → s.candidate ≡ Test test → MayBeIn default left test s.group.now
        → ((group : Text) → MayBeIn default left test group → group ≡ s.group.now)
        → AreOfTest default overrides test (added ++ s ∷ []) × HangsBy default overrides test (added ++ s ∷ []) path
    last path left walked is may alone = (
      (
        one_test is walked.tests,
        (one_group (walked.left_may s.group.now may) walked.groups, λ group could. elim (walked.covered group could) [ inl there ↦ earlier group there | inr here ↦ own group (alone group here) ]),
      ),
      last_hangs path left walked.hangs,
    )

    pub ended : (path : Option (Bor Text)) → Walked added path [] → s.candidate ≡ Test test → s.group.now ≡ codes "@global"
        → AreOfTest default overrides test (added ++ s ∷ []) × HangsBy default overrides test (added ++ s ∷ []) path
    ended path walked is global = last path [] walked is global (λ group here. here ∙ sym global)

    module _ (over : GroupOverride) (left : List GroupOverride) (covers : Covers default over test) (is : s.candidate ≡ Test test) (at : s.group ≡ over.group) where
      -- an override that surely applies
      pub surely : (path : Option (Bor Text)) → Walked added path (over ∷ left) → applies over test.binary_query.platform ≡ Some true
          → AreOfTest default overrides test (added ++ s ∷ []) × HangsBy default overrides test (added ++ s ∷ []) path
      surely path walked sure = last path (over ∷ left) walked is (inl (inl (covers, sure), ap (λ g. g.now) at))
          (λ group may. elim may [ inl here ↦ here.1 ∙ sym (ap (λ g. g.now) at) | inr later ↦ absurd (later.0 (covers, sure)) ])

      opened_hangs : (path : Option (Bor Text)) → applies over test.binary_query.platform ≡ None → Hangs added path (over ∷ left) → Hangs (added ++ s ∷ []) (Some (unwrap_or path over.path)) left
      opened_hangs None unknown (empty, hangs) = hangs over.path.now (inl ((covers, unknown), refl))
      opened_hangs (Some path) unknown hangs = hangs

      -- one whose platforms are unknown
      pub opened : (path : Option (Bor Text)) → Walked added path (over ∷ left) → applies over test.binary_query.platform ≡ None
          → Walked (added ++ s ∷ []) (Some (unwrap_or path over.path)) left
      opened path walked unknown = record {
        tests = one_test is walked.tests;
        groups = one_group (walked.left_may s.group.now (inl (inr (covers, unknown), ap (λ g. g.now) at))) walked.groups;
        covered = λ group may. elim (walked.covered group may) [
          | inl there ↦ inl (earlier group there)
          | inr either ↦ elim either [ inl here ↦ inl (own group (here.1 ∙ sym (ap (λ g. g.now) at))) | inr later ↦ inr later.1 ]
        ];
        left_may = λ group may. walked.left_may group (inr ((λ sure. (let clash : None ≡ Some true = sym unknown ∙ sure.1 in cc)), may));
        hangs = opened_hangs path unknown walked.hangs;
      }

  passed_hangs : (added : List Subject) (path : Option (Bor Text)) (over : GroupOverride) (left : List GroupOverride) → ¬ Covers default over test → Hangs added path (over ∷ left) → Hangs added path left
  passed_hangs added None over left never (empty, hangs) = (empty, λ path is. hangs path (inr ((λ unknown. never unknown.0), is)))
  passed_hangs added (Some path) over left never hangs = hangs

  -- an override that does not pick the test
  pub passed : (added : List Subject) (path : Option (Bor Text)) (over : GroupOverride) (left : List GroupOverride) → ¬ Covers default over test → Walked added path (over ∷ left) → Walked added path left
  passed added path over left never walked = record {
    tests = walked.tests;
    groups = walked.groups;
    covered = λ group may. elim (walked.covered group may) [
      | inl there ↦ inl there
      | inr either ↦ elim either [ inl here ↦ absurd (elim here.0 [ inl sure ↦ never sure.0 | inr unknown ↦ never unknown.0 ]) | inr later ↦ inr later.1 ]
    ];
    left_may = λ group may. walked.left_may group (inr ((λ sure. never sure.0), may));
    hangs = passed_hangs added path over left never walked.hangs;
  }

-- the overrides from a row on
pub left_from : (rows : List ToldOverride) (i : ℕ) (row : ToldOverride) → i < length rows → get_or rows i row ≡ row → map given_of (drop i rows) ≡ given_of row ∷ map given_of (drop (i + 1) rows)
left_from rows i row lt at = ap (map given_of) (drop_more rows i row lt ∙ ap (λ r. r ∷ drop (i + 1) rows) at)

-- a test of a binary, by its name
pub of_name : (default : CompiledExpr) (overrides : List GroupOverride) (subjects : List Subject) {binary : BinaryQuery} {name : Text} {test : TestQuery}
    → AreOfTest default overrides test subjects → test.binary_query ≡ binary → test.test_name.now ≡ name → AreOfName default overrides binary name subjects
of_name default overrides subjects {test = test} are by_binary by_name = (test, by_binary, by_name, are)

-- ---- parts

-- one more part
pub Parts-push : {A : Type 0} (P : A → List Subject → Type 0) (xs : List A) (x : A) (all added : List Subject) → Parts P xs all → P x added → Parts P (xs ++ x ∷ []) (all ++ added)
Parts-push P xs x all added no_parts is = subst (Parts P (x ∷ [])) (append-nil added) (next_part is no_parts)
Parts-push P xs x all added (next_part {x = y} {xs = ys} {front} {rest} is_first are) is =
    subst (Parts P (y ∷ (ys ++ x ∷ []))) (sym (append_assoc front rest added)) (next_part is_first (Parts-push P ys x rest added are is))
