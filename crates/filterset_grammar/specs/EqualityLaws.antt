-- The equality of trees is symmetric and transitive, or an equivalence, if the equality of their spans is. If equal spans
-- are the same, trees are equal if and only if what is compared of them is the same.
use Rattle.std.specs.Prelude.{◌≡◌, ◌==◌, ◌&&◌, Bool, true, false, [], refl}
use Rattle.std.specs.Bool.{Decides}
use Rattle.std.specs.Cmp.{IsPartialEquivalence, IsEquivalence, equiv, decided, partial_equiv_from_equiv, unsigned_Decides, on_equiv}
use Rattle.std.proofs.{Common.ap, Common.sym, Common.subst, Common.◌∙◌, lemmas.Bool.and_parts, lemmas.Bool.false≢true}
use Rattle.filterset_faults.specs.declared.span.SourceSpan.{SourceSpan}
use Rattle.filterset_graph.specs.declared.package.BuildPlatform.{BuildPlatform, TheVariants.Target, TheVariants.Host}
use Rattle.filterset_matchers.specs.Matcher as matcher
use Rattle.filterset_matchers.specs.Matcher.{Matcher}
use Rattle.filterset_matchers.specs.Equality.{Compared, compared, same_compared, same_compared_Decides}
use Rattle.filterset_matchers.specs.Equality as matchers
use Rattle.filterset_grammar.specs.Equality.{same_span, same_platform, same_predicate, same_leaf, same_not, same_or, same_joiner, same_tree, compared_matcher, compared_leaf, compared_tree}
use Rattle.filterset_grammar.specs.Tree.{Predicate, Package, Deps, Rdeps, Kind, Binary, BinaryId, Test, Group, Leaf, Matching, Platform, Default, All, None, Joiner, Both, Without, ExactlyOne, Tree, Not, Union, Join, Parens, Set}
use Rattle.filterset_grammar.specs.declared.operators.AndOperator.TheVariants.{LiteralAnd, Ampersand}
use Rattle.filterset_grammar.specs.declared.operators.{DifferenceOperator.TheVariants.Minus, NotOperator.NotOperator}
use Rattle.filterset_grammar.specs.declared.operators.NotOperator.TheVariants.{LiteralNot, Exclamation}
use Rattle.filterset_grammar.specs.declared.operators.OrOperator.{OrOperator}
use Rattle.filterset_grammar.specs.declared.operators.OrOperator.TheVariants.{LiteralOr, Pipe, Plus}
use Rattle.filterset_grammar.specs.declared.operators.SymmetricDifferenceOperator.TheVariants.{Caret}

-- a test that holds of the same alone, and of each with itself, says whether two are the same
decides : {K : Type 0} (test : K → K → Bool) → ((a b : K) → test a b ≡ true → a ≡ b) → ((a : K) → test a a ≡ true)
    → (a b : K) → Decides (test a b) (a ≡ b)
decides test is self a b = (is a b, λ e. subst (λ c. test a c ≡ true) e (self a))

span_is : (a b : SourceSpan) → same_span a b ≡ true → a ≡ b
span_is a b e =
    let parts = and_parts (a.offset == b.offset) (a.len == b.len) e in
    λ i. record {
      offset = (unsigned_Decides a.offset b.offset).0 parts.0 i;
      len = (unsigned_Decides a.len b.len).0 parts.1 i;
    }

span_self : (a : SourceSpan) → same_span a a ≡ true
span_self a = λ i. (unsigned_Decides a.offset a.offset).1 refl i && (unsigned_Decides a.len a.len).1 refl i

pub same_span_Decides : (a b : SourceSpan) → Decides (same_span a b) (a ≡ b)
same_span_Decides = decides same_span span_is span_self

platform_is : (a b : BuildPlatform) → same_platform a b ≡ true → a ≡ b
platform_is Target Target e = refl
platform_is Host Host e = refl
platform_is _ _ e = absurd (false≢true e)

platform_self : (a : BuildPlatform) → same_platform a a ≡ true
platform_self Target = refl
platform_self Host = refl

pub same_platform_Decides : (a b : BuildPlatform) → Decides (same_platform a b) (a ≡ b)
same_platform_Decides = decides same_platform platform_is platform_self

predicate_is : (a b : Predicate) → same_predicate a b ≡ true → a ≡ b
predicate_is Package Package e = refl
predicate_is Deps Deps e = refl
predicate_is Rdeps Rdeps e = refl
predicate_is Kind Kind e = refl
predicate_is Binary Binary e = refl
predicate_is BinaryId BinaryId e = refl
predicate_is Test Test e = refl
predicate_is Group Group e = refl
predicate_is _ _ e = absurd (false≢true e)

predicate_self : (a : Predicate) → same_predicate a a ≡ true
predicate_self Package = refl
predicate_self Deps = refl
predicate_self Rdeps = refl
predicate_self Kind = refl
predicate_self Binary = refl
predicate_self BinaryId = refl
predicate_self Test = refl
predicate_self Group = refl

not_is : (a b : NotOperator) → same_not a b ≡ true → a ≡ b
not_is LiteralNot LiteralNot e = refl
not_is Exclamation Exclamation e = refl
not_is _ _ e = absurd (false≢true e)

not_self : (a : NotOperator) → same_not a a ≡ true
not_self LiteralNot = refl
not_self Exclamation = refl

or_is : (a b : OrOperator) → same_or a b ≡ true → a ≡ b
or_is LiteralOr LiteralOr e = refl
or_is Pipe Pipe e = refl
or_is Plus Plus e = refl
or_is _ _ e = absurd (false≢true e)

or_self : (a : OrOperator) → same_or a a ≡ true
or_self LiteralOr = refl
or_self Pipe = refl
or_self Plus = refl

joiner_is : (a b : Joiner) → same_joiner a b ≡ true → a ≡ b
joiner_is (Both LiteralAnd) (Both LiteralAnd) e = refl
joiner_is (Both Ampersand) (Both Ampersand) e = refl
joiner_is (Without Minus) (Without Minus) e = refl
joiner_is (ExactlyOne Caret) (ExactlyOne Caret) e = refl
joiner_is _ _ e = absurd (false≢true e)

joiner_self : (a : Joiner) → same_joiner a a ≡ true
joiner_self (Both LiteralAnd) = refl
joiner_self (Both Ampersand) = refl
joiner_self (Without Minus) = refl
joiner_self (ExactlyOne Caret) = refl

pub same_platform_equiv : IsEquivalence same_platform
same_platform_equiv = decided same_platform same_platform_Decides

same_predicate_equiv : IsEquivalence same_predicate
same_predicate_equiv = decided same_predicate (decides same_predicate predicate_is predicate_self)

same_not_equiv : IsEquivalence same_not
same_not_equiv = decided same_not (decides same_not not_is not_self)

same_or_equiv : IsEquivalence same_or
same_or_equiv = decided same_or (decides same_or or_is or_self)

same_joiner_equiv : IsEquivalence same_joiner
same_joiner_equiv = decided same_joiner (decides same_joiner joiner_is joiner_self)

-- the equality of matchers
abbrev pub alike : Matcher → Matcher → Bool
alike m n = same_compared (compared m) (compared n)

pub alike_equiv : IsEquivalence alike
alike_equiv = on_equiv compared (decided same_compared same_compared_Decides)

-- where each of two tests goes from two pairs to a third one, both together do
chain : {a b c d e f : Bool} → (a ≡ true → c ≡ true → e ≡ true) → (b ≡ true → d ≡ true → f ≡ true)
    → (a && b) ≡ true → (c && d) ≡ true → (e && f) ≡ true
chain {a} {b} {c} {d} first second h k =
    let p = and_parts a b h in
    let q = and_parts c d k in
    λ i. first p.0 q.0 i && second p.1 q.1 i

chained : {K : Type 0} {E : K → K → Bool} → IsEquivalence E → (a b c : K) → E a b ≡ true → E b c ≡ true → E a c ≡ true
chained e = (partial_equiv_from_equiv e).trans

module _ {S : Type 0} {same : S → S → Bool} (spans : IsPartialEquivalence same) where
  leaf_symm : (a b : Leaf S) → same_leaf same a b ≡ same_leaf same b a
  leaf_symm (Matching p m s) (Matching q n t) =
      λ i. same_predicate_equiv.symm p q i && alike_equiv.symm m n i && spans.symm s t i
  leaf_symm (Platform p s) (Platform q t) = λ i. same_platform_equiv.symm p q i && spans.symm s t i
  leaf_symm (Default s) (Default t) = spans.symm s t
  leaf_symm All All = refl
  leaf_symm None None = refl
  leaf_symm _ _ = refl

  leaf_trans : (a b c : Leaf S) → same_leaf same a b ≡ true → same_leaf same b c ≡ true → same_leaf same a c ≡ true
  leaf_trans (Matching p m s) (Matching q n t) (Matching r o u) =
      chain (chain (chained same_predicate_equiv p q r) (chained alike_equiv m n o)) (spans.trans s t u)
  leaf_trans (Platform p s) (Platform q t) (Platform r u) = chain (chained same_platform_equiv p q r) (spans.trans s t u)
  leaf_trans (Default s) (Default t) (Default u) = spans.trans s t u
  leaf_trans All All All = λ h k. refl
  leaf_trans None None None = λ h k. refl
  leaf_trans (Matching p m s) (Matching q n t) _ = λ h k. absurd (false≢true k)
  leaf_trans (Platform p s) (Platform q t) _ = λ h k. absurd (false≢true k)
  leaf_trans (Default s) (Default t) _ = λ h k. absurd (false≢true k)
  leaf_trans All All _ = λ h k. absurd (false≢true k)
  leaf_trans None None _ = λ h k. absurd (false≢true k)
  leaf_trans _ _ _ = λ h k. absurd (false≢true h)

  pub same_leaf_per : IsPartialEquivalence (same_leaf same)
  same_leaf_per = record { symm = leaf_symm; trans = leaf_trans }

  tree_symm : (a b : Tree S) → same_tree same a b ≡ same_tree same b a
  tree_symm (Not op a) (Not other b) = λ i. same_not_equiv.symm op other i && tree_symm a b i
  tree_symm (Union op a b) (Union other c d) = λ i. same_or_equiv.symm op other i && tree_symm a c i && tree_symm b d i
  tree_symm (Join op a b) (Join other c d) =
      λ i. same_joiner_equiv.symm op other i && tree_symm a c i && tree_symm b d i
  tree_symm (Parens a) (Parens b) = tree_symm a b
  tree_symm (Set a) (Set b) = leaf_symm a b
  tree_symm _ _ = refl

  tree_trans : (a b c : Tree S) → same_tree same a b ≡ true → same_tree same b c ≡ true → same_tree same a c ≡ true
  tree_trans (Not o a) (Not p b) (Not q c) = chain (chained same_not_equiv o p q) (tree_trans a b c)
  tree_trans (Union o a d) (Union p b e) (Union q c f) =
      chain (chain (chained same_or_equiv o p q) (tree_trans a b c)) (tree_trans d e f)
  tree_trans (Join o a d) (Join p b e) (Join q c f) =
      chain (chain (chained same_joiner_equiv o p q) (tree_trans a b c)) (tree_trans d e f)
  tree_trans (Parens a) (Parens b) (Parens c) = tree_trans a b c
  tree_trans (Set a) (Set b) (Set c) = leaf_trans a b c
  tree_trans (Not o a) (Not p b) _ = λ h k. absurd (false≢true k)
  tree_trans (Union o a d) (Union p b e) _ = λ h k. absurd (false≢true k)
  tree_trans (Join o a d) (Join p b e) _ = λ h k. absurd (false≢true k)
  tree_trans (Parens a) (Parens b) _ = λ h k. absurd (false≢true k)
  tree_trans (Set a) (Set b) _ = λ h k. absurd (false≢true k)
  tree_trans _ _ _ = λ h k. absurd (false≢true h)

  pub same_tree_per : IsPartialEquivalence (same_tree same)
  same_tree_per = record { symm = tree_symm; trans = tree_trans }

module _ {S : Type 0} (same : S → S → Bool) (self : (s : S) → same s s ≡ true) where
  leaf_self : (a : Leaf S) → same_leaf same a a ≡ true
  leaf_self (Matching p m s) = λ i. predicate_self p i && alike_equiv.refl m i && self s i
  leaf_self (Platform p s) = λ i. platform_self p i && self s i
  leaf_self (Default s) = self s
  leaf_self All = refl
  leaf_self None = refl

  tree_self : (a : Tree S) → same_tree same a a ≡ true
  tree_self (Not op a) = λ i. not_self op i && tree_self a i
  tree_self (Union op a b) = λ i. or_self op i && tree_self a i && tree_self b i
  tree_self (Join op a b) = λ i. joiner_self op i && tree_self a i && tree_self b i
  tree_self (Parens a) = tree_self a
  tree_self (Set a) = leaf_self a

pub same_leaf_equiv : {S : Type 0} {same : S → S → Bool} → IsEquivalence same → IsEquivalence (same_leaf same)
same_leaf_equiv {S} {same} e = equiv (same_leaf_per (partial_equiv_from_equiv e)) (leaf_self same e.refl)

pub same_tree_equiv : {S : Type 0} {same : S → S → Bool} → IsEquivalence same → IsEquivalence (same_tree same)
same_tree_equiv {S} {same} e = equiv (same_tree_per (partial_equiv_from_equiv e)) (tree_self same e.refl)

-- what is compared of a matcher, as a matcher
abbrev as_matcher : Compared → Matcher
as_matcher (matchers.Equal value implicit) = matcher.Equal value implicit
as_matcher (matchers.Contains value implicit) = matcher.Contains value implicit
as_matcher (matchers.Glob tokens) = matcher.Glob [] tokens false
as_matcher (matchers.Regex pattern) = matcher.Regex pattern

is_as_matcher : (m : Matcher) → as_matcher (compared m) ≡ compared_matcher m
is_as_matcher (matcher.Equal value implicit) = refl
is_as_matcher (matcher.Contains value implicit) = refl
is_as_matcher (matcher.Glob text tokens implicit) = refl
is_as_matcher (matcher.Regex pattern) = refl

alike_is : (m n : Matcher) → alike m n ≡ true → compared_matcher m ≡ compared_matcher n
alike_is m n e =
    sym (is_as_matcher m) ∙ ap as_matcher ((same_compared_Decides (compared m) (compared n)).0 e) ∙ is_as_matcher n

pub kept_matcher : (m : Matcher) → compared (compared_matcher m) ≡ compared m
kept_matcher (matcher.Equal value implicit) = refl
kept_matcher (matcher.Contains value implicit) = refl
kept_matcher (matcher.Glob text tokens implicit) = refl
kept_matcher (matcher.Regex pattern) = refl

pub alike_Decides : (m n : Matcher) → Decides (alike m n) (compared_matcher m ≡ compared_matcher n)
alike_Decides m n =
    let back = (same_compared_Decides (compared m) (compared n)).1 in
    (alike_is m n, λ e. back (sym (kept_matcher m) ∙ ap compared e ∙ kept_matcher n))

module _ {S : Type 0} (same : S → S → Bool) (spans : (s t : S) → Decides (same s t) (s ≡ t)) where
  leaf_is : (a b : Leaf S) → same_leaf same a b ≡ true → compared_leaf a ≡ compared_leaf b
  leaf_is (Matching p m s) (Matching q n t) h =
      let parts = and_parts (same_predicate p q && alike m n) (same s t) h in
      let first = and_parts (same_predicate p q) (alike m n) parts.0 in
      λ i. Matching (predicate_is p q first.0 i) (alike_is m n first.1 i) ((spans s t).0 parts.1 i)
  leaf_is (Platform p s) (Platform q t) h =
      let parts = and_parts (same_platform p q) (same s t) h in
      λ i. Platform (platform_is p q parts.0 i) ((spans s t).0 parts.1 i)
  leaf_is (Default s) (Default t) h = ap Default ((spans s t).0 h)
  leaf_is All All h = refl
  leaf_is None None h = refl
  leaf_is _ _ h = absurd (false≢true h)

  tree_is : (a b : Tree S) → same_tree same a b ≡ true → compared_tree a ≡ compared_tree b
  tree_is (Not op a) (Not other b) h =
      let parts = and_parts (same_not op other) (same_tree same a b) h in
      λ i. Not (not_is op other parts.0 i) (tree_is a b parts.1 i)
  tree_is (Union op a b) (Union other c d) h =
      let parts = and_parts (same_or op other && same_tree same a c) (same_tree same b d) h in
      let first = and_parts (same_or op other) (same_tree same a c) parts.0 in
      λ i. Union (or_is op other first.0 i) (tree_is a c first.1 i) (tree_is b d parts.1 i)
  tree_is (Join op a b) (Join other c d) h =
      let parts = and_parts (same_joiner op other && same_tree same a c) (same_tree same b d) h in
      let first = and_parts (same_joiner op other) (same_tree same a c) parts.0 in
      λ i. Join (joiner_is op other first.0 i) (tree_is a c first.1 i) (tree_is b d parts.1 i)
  tree_is (Parens a) (Parens b) h = ap Parens (tree_is a b h)
  tree_is (Set a) (Set b) h = ap Set (leaf_is a b h)
  tree_is _ _ h = absurd (false≢true h)

  kept_leaf : (a b : Leaf S) → same_leaf same (compared_leaf a) (compared_leaf b) ≡ same_leaf same a b
  kept_leaf (Matching p m s) (Matching q n t) =
      λ i. same_predicate p q && same_compared (kept_matcher m i) (kept_matcher n i) && same s t
  kept_leaf (Platform p s) (Platform q t) = refl
  kept_leaf (Default s) (Default t) = refl
  kept_leaf All All = refl
  kept_leaf None None = refl
  kept_leaf _ _ = refl

  kept_tree : (a b : Tree S) → same_tree same (compared_tree a) (compared_tree b) ≡ same_tree same a b
  kept_tree (Not op a) (Not other b) = λ i. same_not op other && kept_tree a b i
  kept_tree (Union op a b) (Union other c d) = λ i. same_or op other && kept_tree a c i && kept_tree b d i
  kept_tree (Join op a b) (Join other c d) = λ i. same_joiner op other && kept_tree a c i && kept_tree b d i
  kept_tree (Parens a) (Parens b) = kept_tree a b
  kept_tree (Set a) (Set b) = kept_leaf a b
  kept_tree _ _ = refl

  -- so trees are equal exactly where the same is compared of them
  pub same_tree_Decides : (a b : Tree S) → Decides (same_tree same a b) (compared_tree a ≡ compared_tree b)
  same_tree_Decides a b =
      let self : same_tree same (compared_tree a) (compared_tree a) ≡ true = tree_self same (λ s. (spans s s).1 refl) (compared_tree a) in
      (tree_is a b, λ e. sym (kept_tree a b) ∙ subst (λ c. same_tree same (compared_tree a) c ≡ true) e self)
