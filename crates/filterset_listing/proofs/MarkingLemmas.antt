-- The steps in which a map is made of the members of another one.
use Rattle.std.proofs.Common.{◌≡◌, ℕ, ◌+◌, ◌<◌, Bool, true, false, cond, length, get_or, map, take, inl, inr, List, None, Some, Result, Ok, Err, IfOk, ◌≤◌, BTreeMap, [], ◌∷◌, ◌++◌, String, Global, string_bytes, string_cmp, nat_cmp, Less, Greater, refl, sym, ap, ◌∙◌, subst, arith, codes}
use Rattle.std.proofs.lemmas.{Cmp.nat_list_cmp_total, List.take_more, List.map-append}
use Rattle.std.proofs.lemmas.List.Elements.{Contains-append_left, Contains-push, Contains-push_cases}
use Rattle.std.proofs.lemmas.Slice.Eq.{bytes_eq-Decides}
use Rattle.std.specs.{BTreeMap.get_by, BTreeMap.insert_entry, Bool.Decides, Borrow.Bor, Cmp.Lexicographic.slice_cmp}
use Rattle.std.specs.{List.AllByRecursion, List.Sorted.IsStrictlySortedBy, Map.keys_of, Ordering.ordering_reverse}
use Rattle.std.specs.{Prelude.Contains, Prelude.Option, Prelude.unwrap_or, Str.bytes_eq}
use Rattle.filterset_graph.specs.declared.binary.TestCaseName.{TestCaseName}
use Rattle.filterset_listing.specs.Asking.{Text}
use Rattle.filterset_listing.specs.ListJson.{AreAnswers, IsCompactJson, IsKnown, IsMarked, MarksEach, MarksObject, MarksSuite, MarksTest, MarksUnder, an_object, answer_in, next_member, no_member, no_object}
use Rattle.filterset_listing.specs.declared.groups.TestAnswer.TheVariants.{Known, Unknown}
use Rattle.filterset_listing.specs.declared.listing.{UnknownTest.UnknownTest, json.TestMark.TestMark}
use Rattle.filterset_listing.specs.declared.listing.json.TestMark.TheVariants.{Asked, Beyond, Uncounted}
use Rattle.filterset_listing.proofs.ListingLemmas.{one_more}
use Rattle.serde_json.specs.Data.{Data, object, Members, no_members, member, depth}
use Rattle.serde_json.specs.{Find.as_object, Read.read, Read.max_depth, View.view, View.members_view}
use Rattle.serde_json.specs.Written.{IsInOrder, compact_text, has_float}
use Rattle.serde_json.specs.declared.value.Value.{Value, Object}
use Rattle.serde_json.proofs.Views.{Entry, view-Object}

-- what holds of each element of a list holds of one in its middle
here : {A : Type 0} (P : A → Type 0) (front : List A) (x : A) (rest : List A) → AllByRecursion P (front ++ x ∷ rest) → P x
here P [] x rest all = all.0
here P (y ∷ front) x rest all = here P front x rest all.1

-- a key that is above all others goes to the end
insert_entry-last : (front : List Entry) (key : String Global) (value : Value) (rest : List (String Global)) → IsStrictlySortedBy string_cmp (keys_of front ++ key ∷ rest)
    → insert_entry string_cmp front key value ≡ front ++ (key, value) ∷ []
unfolding IsStrictlySortedBy
insert_entry-last [] key value rest sorted = refl
insert_entry-last (x ∷ front) key value rest sorted =
    let above : string_cmp key x.0 ≡ Greater =
    nat_list_cmp_total.antisymm (string_bytes key) (string_bytes x.0) ∙ ap ordering_reverse (here (λ y. string_cmp x.0 y ≡ Less) (keys_of front) key rest sorted.0) in
    rw (above, insert_entry-last front key value rest sorted.1) refl

-- members, and others after them
abbrev pub followed : Members → Members → Members
followed no_members others = others
followed (member key d members) others = member key d (followed members others)

pub followed-none : (members : Members) → followed members no_members ≡ members
followed-none no_members = refl
followed-none (member key d members) = ap (member key d) (followed-none members)

followed-one : (front : List Entry) (e : Entry) (others : Members) → followed (members_view (front ++ e ∷ [])) others ≡ followed (members_view front) (member (string_bytes e.0) (view e.1) others)
followed-one [] e others = refl
followed-one (x ∷ front) e others = ap (member (string_bytes x.0) (view x.1)) (followed-one front e others)

keys_of-more : (front : List Entry) (key : String Global) (value : Value) (rest : List Entry) → keys_of (front ++ (key, value) ∷ []) ++ keys_of rest ≡ keys_of front ++ key ∷ keys_of rest
keys_of-more [] key value rest = refl
keys_of-more (x ∷ front) key value rest = ap (λ ks. x.0 ∷ ks) (keys_of-more front key value rest)

-- These members were made of others, of which some are left: whatever the rest becomes, the whole becomes the made ones and
-- after them what the rest became.
pub data Made (Before After : Members → Members → Type 0) (whole : Members) (made left : List Entry) : Type 0 where
  made_of : IsStrictlySortedBy string_cmp (keys_of made ++ keys_of left)
      → ((later : Members) → After (members_view left) later → Before whole (followed (members_view made) later))
      → Made Before After whole made left

pub made_one : {Before After Later : Members → Members → Type 0} (whole : Members) (made left rest new : List Entry) (key : String Global) (old value : Value)
    → Made Before After whole made left → left ≡ (key, old) ∷ rest → new ≡ insert_entry string_cmp made key value
    → ((later : Members) → Later (members_view rest) later → After (member (string_bytes key) (view old) (members_view rest)) (member (string_bytes key) (view value) later))
    → Made Before Later whole new rest
made_one whole made left rest new key old value (made_of sorted marks) first inserted next =
    let sorted_here : IsStrictlySortedBy string_cmp (keys_of made ++ key ∷ keys_of rest) = subst (λ l. IsStrictlySortedBy string_cmp (keys_of made ++ keys_of l)) first sorted in
    let is_new : new ≡ made ++ (key, value) ∷ [] = inserted ∙ insert_entry-last made key value (keys_of rest) sorted_here in
    rw is_new (made_of
    (subst (IsStrictlySortedBy string_cmp) (sym (keys_of-more made key value rest)) sorted_here)
    (λ later marked. rw (followed-one made (key, value) later) (marks _ (rw first (next later marked)))))

pub made_all : (Before After : Members → Members → Type 0) (whole : Members) (made left : List Entry) → Made Before After whole made left → left ≡ [] → After no_members no_members
    → Before whole (members_view made)
made_all Before After whole made left (made_of sorted marks) end ends = subst (Before whole) (followed-none (members_view made)) (marks no_members (rw end ends))

-- ---- the answers about tests

-- what is looked up after an insertion
put_in : {X : Type 0} (same : Bool) (answer : X) (known : Option X) (other : X) → unwrap_or (cond same (Some answer) known) other ≡ cond same answer (unwrap_or known other)
put_in true answer known other = refl
put_in false answer known other = refl

contains_none : {X : Type 0} (x : X) → ¬ Contains [] x
contains_none x there = absurd (omega (arith, there.1))

-- the first of a list, if it has one
pub first_none : {A : Type 0} (all : List A) → length all < 1 → take 1 all ≡ []
first_none [] short = refl
first_none (x ∷ all) short = absurd (omega (arith, short))

pub first_one : {A : Type 0} (all : List A) (x : A) → 1 ≤ length all → x ≡ get_or all 0 x → take 1 all ≡ x ∷ []
first_one [] x long is = absurd (omega (arith, long))
first_one (y ∷ all) x long is = ap (λ z. z ∷ []) (sym is)

passed : {X : Type 0} (xs : List X) (y x : X) → ¬ Contains xs x → (y ≡ x → ⊥) → ¬ Contains (xs ++ y ∷ []) x
passed xs y x none apart there = elim (Contains-push_cases xs y x there) [ inl before ↦ none before | inr last ↦ apart last ]

-- no test is named yet
pub no_answers : (answers : BTreeMap (Bor Text) TestMark) → answers.entries ≡ [] → AreAnswers [] [] [] [] answers
no_answers answers empty name = rw empty ((contains_none name, λ path. contains_none (name, path)), contains_none name, contains_none name)

-- what is not decided to be does not hold
apart : {P : Type 0} → Decides false P → P → ⊥
apart decides is = let e : false ≡ true = decides.1 is in cc

-- a test that is not the added one is as known as before
known_after : (unknown : List (Text × Text)) (added name path : Text) → Decides false (added ≡ name) → IsKnown [] unknown name
    → IsKnown [] (unknown ++ (added, path) ∷ []) name
known_after unknown added name path decides is =
    (is.0, λ other. passed unknown (added, path) (name, other) (is.1 other) (λ last. apart decides (ap (λ (t : Text × Text). t.0) last)))

-- one more test is picked without the default filter
beyond_more : (beyond : List Text) (added name : Text) (same : Bool) (mark : TestMark) → Decides same (added ≡ name) → IsMarked [] beyond [] [] name mark
    → IsMarked [] (beyond ++ added ∷ []) [] [] name (cond same Beyond mark)
beyond_more beyond added name true mark decides is =
    ((contains_none name, λ path. contains_none (name, path)), contains_none name, subst (Contains (beyond ++ added ∷ [])) (decides.0 refl) (Contains-push beyond added))
beyond_more beyond added name false Uncounted decides is = is
beyond_more beyond added name false Beyond decides is = (is.0, is.1, Contains-append_left beyond (added ∷ []) name is.2)
beyond_more beyond added name false (Asked (Unknown path)) decides is = is
beyond_more beyond added name false (Asked (Known true)) decides is = is
beyond_more beyond added name false (Asked (Known false)) decides is = (is.0, is.1, passed beyond added name is.2 (apart decides))

-- one more test is picked
picked_more : (beyond picked : List Text) (added name : Text) (same : Bool) (mark : TestMark) → Decides same (added ≡ name) → IsMarked [] beyond picked [] name mark
    → IsMarked [] beyond (picked ++ added ∷ []) [] name (cond same (Asked (Known true)) mark)
picked_more beyond picked added name true mark decides is =
    ((contains_none name, λ path. contains_none (name, path)), subst (Contains (picked ++ added ∷ [])) (decides.0 refl) (Contains-push picked added))
picked_more beyond picked added name false Uncounted decides is = is
picked_more beyond picked added name false Beyond decides is = (is.0, passed picked added name is.1 (apart decides), is.2)
picked_more beyond picked added name false (Asked (Unknown path)) decides is = is
picked_more beyond picked added name false (Asked (Known true)) decides is = (is.0, Contains-append_left picked (added ∷ []) name is.1)
picked_more beyond picked added name false (Asked (Known false)) decides is = (is.0, passed picked added name is.1 (apart decides), is.2)

-- one more test is unknown
unknown_more : (beyond picked : List Text) (unknown : List (Text × Text)) (added name : Text) (path : Bor Text) (same : Bool) (mark : TestMark) → Decides same (added ≡ name)
    → IsMarked [] beyond picked unknown name mark → IsMarked [] beyond picked (unknown ++ (added, path.now) ∷ []) name (cond same (Asked (Unknown path)) mark)
unknown_more beyond picked unknown added name path true mark decides is =
    (contains_none name, subst (λ n. Contains (unknown ++ (added, path.now) ∷ []) (n, path.now)) (decides.0 refl) (Contains-push unknown (added, path.now)))
unknown_more beyond picked unknown added name path false Uncounted decides is = is
unknown_more beyond picked unknown added name path false Beyond decides is = (known_after unknown added name path.now decides is.0, is.1, is.2)
unknown_more beyond picked unknown added name path false (Asked (Unknown other)) decides is =
    (is.0, Contains-append_left unknown ((added, path.now) ∷ []) (name, other.now) is.1)
unknown_more beyond picked unknown added name path false (Asked (Known true)) decides is = (known_after unknown added name path.now decides is.0, is.1)
unknown_more beyond picked unknown added name path false (Asked (Known false)) decides is = (known_after unknown added name path.now decides is.0, is.1, is.2)

-- one more test does not count
uncounted_more : (uncounted beyond picked : List Text) (unknown : List (Text × Text)) (added name : Text) (same : Bool) (mark : TestMark) → Decides same (added ≡ name)
    → IsMarked uncounted beyond picked unknown name mark → IsMarked (uncounted ++ added ∷ []) beyond picked unknown name (cond same Uncounted mark)
uncounted_more uncounted beyond picked unknown added name true mark decides is =
    subst (Contains (uncounted ++ added ∷ [])) (decides.0 refl) (Contains-push uncounted added)
uncounted_more uncounted beyond picked unknown added name false Uncounted decides is = Contains-append_left uncounted (added ∷ []) name is
uncounted_more uncounted beyond picked unknown added name false Beyond decides is =
    ((passed uncounted added name is.0.0 (apart decides), is.0.1), is.1, is.2)
uncounted_more uncounted beyond picked unknown added name false (Asked (Unknown path)) decides is =
    (passed uncounted added name is.0 (apart decides), is.1)
uncounted_more uncounted beyond picked unknown added name false (Asked (Known true)) decides is =
    ((passed uncounted added name is.0.0 (apart decides), is.0.1), is.1)
uncounted_more uncounted beyond picked unknown added name false (Asked (Known false)) decides is =
    ((passed uncounted added name is.0.0 (apart decides), is.0.1), is.1, is.2)

-- one more element of a list is put into the map
module _ (i : ℕ) (key : Text) (mark : TestMark) (old new : BTreeMap (Bor Text) TestMark)
    (updates : (name : Text) → get_by (λ k. slice_cmp nat_cmp name k.now) new ≡ cond (bytes_eq key name) (Some mark) (get_by (λ k. slice_cmp nat_cmp name k.now) old)) where
  mark_after : (name : Text) → answer_in new name ≡ cond (bytes_eq key name) mark (answer_in old name)
  mark_after name = ap (λ found. unwrap_or found (Asked (Known false))) (updates name) ∙ put_in (bytes_eq key name) mark _ (Asked (Known false))

  mapped_more : {A X : Type 0} (f : A → X) (xs : List A) (x : A) → i < length xs → get_or xs i x ≡ x → map f (take (i + 1) xs) ≡ map f (take i xs) ++ f x ∷ []
  mapped_more f xs x lt at = ap (map f) (take_more xs i x lt ∙ ap (λ y. take i xs ++ y ∷ []) at) ∙ map-append f (take i xs) (x ∷ [])

  pub beyond_one : (tests : List (Bor TestCaseName)) (test : Bor TestCaseName) → i < length tests → get_or tests i test ≡ test → key ≡ test.now → mark ≡ Beyond
      → AreAnswers [] (map (λ t. t.now) (take i tests)) [] [] old → AreAnswers [] (map (λ t. t.now) (take (i + 1) tests)) [] [] new
  beyond_one tests test lt at of is are name =
      rw (mark_after name, mapped_more (λ (t : Bor TestCaseName). t.now) tests test lt at, of, is) (beyond_more _ test.now name (bytes_eq test.now name) _ (bytes_eq-Decides test.now name) (are name))

  pub picked_one : (beyond : List Text) (tests : List (Bor TestCaseName)) (test : Bor TestCaseName) → i < length tests → get_or tests i test ≡ test → key ≡ test.now
      → mark ≡ Asked (Known true) → AreAnswers [] beyond (map (λ t. t.now) (take i tests)) [] old
      → AreAnswers [] beyond (map (λ t. t.now) (take (i + 1) tests)) [] new
  picked_one beyond tests test lt at of is are name =
      rw (mark_after name, mapped_more (λ (t : Bor TestCaseName). t.now) tests test lt at, of, is)
      (picked_more beyond _ test.now name (bytes_eq test.now name) _ (bytes_eq-Decides test.now name) (are name))

  pub unknown_one : (beyond picked : List Text) (tests : List UnknownTest) (test : UnknownTest) → i < length tests → get_or tests i test ≡ test → key ≡ test.test.now
      → mark ≡ Asked (Unknown test.path)
      → AreAnswers [] beyond picked (map (λ (u : UnknownTest). (u.test.now, u.path.now)) (take i tests)) old
      → AreAnswers [] beyond picked (map (λ (u : UnknownTest). (u.test.now, u.path.now)) (take (i + 1) tests)) new
  unknown_one beyond picked tests test lt at of is are name =
      rw (mark_after name, mapped_more {X = Text × Text} (λ (u : UnknownTest). (u.test.now, u.path.now)) tests test lt at, of, is)
      (unknown_more beyond picked _ test.test.now name test.path (bytes_eq test.test.now name) _ (bytes_eq-Decides test.test.now name) (are name))

  pub uncounted_one : (beyond picked : List Text) (unknown : List (Text × Text)) (tests : List Text) (test : Text) → i < length tests → get_or tests i test ≡ test → key ≡ test
      → mark ≡ Uncounted → AreAnswers (take i tests) beyond picked unknown old → AreAnswers (take (i + 1) tests) beyond picked unknown new
  uncounted_one beyond picked unknown tests test lt at of is are name =
      rw (mark_after name, one_more tests i test lt at, of, is)
      (uncounted_more _ beyond picked unknown test name (bytes_eq test name) _ (bytes_eq-Decides test name) (are name))

-- ---- changes

-- members that change as the first say change as the others do
weaker_each : {One Other : Text → Data → Data → Type 0} → ((name : Text) (before after : Data) → One name before after → Other name before after) → {members marked : Members}
    → MarksEach One members marked → MarksEach Other members marked
weaker_each weaker no_member = no_member
weaker_each weaker (next_member is others) = next_member (weaker _ _ _ is) (weaker_each weaker others)

weaker_object : {One Other : Members → Members → Type 0} → ((before after : Members) → One before after → Other before after) → {value marked : Data} → MarksObject One value marked → MarksObject Other value marked
weaker_object weaker (an_object is) = an_object (weaker _ _ is)
weaker_object weaker (no_object none) = no_object none

-- a suite is marked by what is said of its tests
pub suite_marked : (Says : Text → TestMark → Type 0) (answers : BTreeMap (Bor Text) TestMark) → ((name : Text) → Says name (answer_in answers name)) → {before after : Data}
    → MarksObject (MarksEach (MarksUnder (codes "testcases") (MarksObject (MarksEach (λ name. MarksTest (answer_in answers name)))))) before after
    → MarksSuite Says before after
suite_marked Says answers are = weaker_object (λ _ _. weaker_each (λ name before after m.
    ((λ is. weaker_object (λ _ _. weaker_each (λ test _ _ marks. (answer_in answers test, are test, marks))) (m.0 is)), m.1)))

-- what stands under a name that is the key, or another one
pub under : (Marks : Data → Data → Type 0) (key name : Text) (before after : Data) → name ≡ key → Marks before after → MarksUnder key Marks name before after
under Marks key name before after is marks = (λ e. marks, λ apart. absurd (apart is))

-- an object became another one
pub marked_object : {Marks : Members → Members → Type 0} (value : Data) (before : Members) (marked : BTreeMap (String Global) Value) → value ≡ object before
    → Marks before (members_view marked.entries) → MarksObject Marks value (view (Object marked))
marked_object value before marked is marks = rw (is, view-Object marked) (an_object marks)

-- what is no object stays as it is
pub marked_other : {Marks : Members → Members → Type 0} (value other : Value) → other ≡ value → as_object (view other) ≡ None → MarksObject Marks (view value) (view other)
marked_other {Marks} value other same none = subst (λ v. MarksObject Marks (view v) (view other)) same (no_object none)

-- what is written is compact JSON
pub compact_json : {E : Type 0} (value : Data) (written : Result (String Global) E) → IfOk written (λ s. has_float value ≡ false → string_bytes s ≡ compact_text value)
    → IfOk written (λ s. IsInOrder (string_bytes s) value)
    → IfOk written (λ s. depth value ≤ max_depth → read (string_bytes s) ≡ Some value) → IfOk written (λ s. IsCompactJson value (string_bytes s))
compact_json value (Ok s) text order back = record {
  bytes = text;
  in_order = order;
  reads_back = back;
}
compact_json value (Err e) text order back = tt
