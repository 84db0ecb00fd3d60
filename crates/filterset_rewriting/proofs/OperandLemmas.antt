-- What readers of operands return.
use Rattle.std.proofs.Common.{◌≡◌, ◌<◌, ◌≤◌, ◌-◌, List, ℕ, Bool, length, Option, Some, None, sym, subst, arith}
use Rattle.std.specs.Prelude.{IfOk, IfSome, MatchOption, Result, Ok, Err}
use Rattle.filterset_faults.specs.declared.span.SourceSpan.{SourceSpan}
use Rattle.filterset_glob.specs.Signs.{sign}
use Rattle.filterset_grammar.specs.Tree.{Tree}
use Rattle.filterset_language.specs.Views.{tree_of}
use Rattle.filterset_rewriting.specs.Calls.{AreJoined, AreOpen, Begins, IsFront, IsList, IsOperand, Lacks, NoFront, NoList, NoOperand, call, end_sign, expression, last, list, more, no_call, no_end, no_expression, operand, too_deep, unclosed}
use Rattle.filterset_rewriting.specs.Fronts.{IsExpression, NoExpression}
use Rattle.filterset_rewriting.specs.Links.{IsOperator, NoOperator, linked}
use Rattle.filterset_rewriting.specs.declared.{fronts.Front.Front, links.Link.Link, operands.Operand.Operand}

-- the outcome is nothing, for this reason, or this front
abbrev pub Gives : {E : Type 0} → Type 0 → (Tree SourceSpan → List ℕ → Type 0) → Result (Option Front) E → Type 0
Gives fails is r = IfOk r (λ o. MatchOption o fails (λ f. is (tree_of f.tree) f.behind.now))

turned : {E : Type 0} (fails other : Type 0) (is front : Tree SourceSpan → List ℕ → Type 0) → (fails → other)
    → ((e : Tree SourceSpan) (behind : List ℕ) → is e behind → front e behind) → (r : Result (Option Front) E) → Gives fails is r → Gives other front r
turned fails other is front f g (Ok None) h = f h
turned fails other is front f g (Ok (Some x)) h = g (tree_of x.tree) x.behind.now h
turned fails other is front f g (Err e) h = tt

pub within_more : {E : Type 0} (r : Result (Option Front) E) (a b : ℕ) → a ≤ b → IfOk r (λ o. IfSome o (λ f. length f.behind.now ≤ a)) → IfOk r (λ o. IfSome o (λ f. length f.behind.now ≤ b))
within_more (Ok None) a b le h = tt
within_more (Ok (Some f)) a b le h = let k : length f.behind.now ≤ a = h in omega arith
within_more (Err e) a b le h = tt

pub deep : (n : ℕ) (text rest : List ℕ) (link : Link) → n ≡ 0 → IsOperator text link rest → NoFront n text
deep n text rest link least is = subst (λ m. NoFront m text) (sym least) (too_deep is)

pub front_called : {E : Type 0} (n : ℕ) (text rest : List ℕ) (link : Link) → IsOperator text link rest → 0 < n → (r : Result (Option Front) E)
    → Gives (NoList (n - 1) rest) (IsList link rest) r → Gives (NoFront n text) (IsFront text) r
front_called n text rest link is some r h =
    turned (NoList (n - 1) rest) (NoFront n text) (IsList link rest) (IsFront text) (λ fails. no_call is some fails) (λ e behind are. call is are) r h

pub front_expressed : {E : Type 0} (n : ℕ) (text : List ℕ) → NoOperator text → (r : Result (Option Front) E)
    → Gives (NoExpression text) (IsExpression text) r → Gives (NoFront n text) (IsFront text) r
front_expressed n text none r h =
    turned (NoExpression text) (NoFront n text) (IsExpression text) (IsFront text) (λ fails. no_expression none fails) (λ e behind is. expression is) r h

pub list_told : {E : Type 0} (n : ℕ) (text inside rest : List ℕ) (link : Link) (first : Tree SourceSpan) → Begins (sign "(") text inside
    → IsOperand inside first (sign ",") rest → (r : Result (Option Front) E)
    → Gives (AreOpen n rest) (AreJoined link first rest) r → Gives (NoList n text) (IsList link text) r
list_told n text inside rest link first opens is r h =
    turned (AreOpen n rest) (NoList n text) (AreJoined link first rest) (IsList link text) (λ fails. unclosed opens is fails) (λ e behind are. list opens is are) r h

pub operand_told : (n : ℕ) (text rest : List ℕ) (e : Tree SourceSpan) (o : Option Operand) → IsFront text e rest
    → MatchOption o (Lacks 44 rest × Lacks 41 rest) (λ x. (tree_of x.tree ≡ e) × Begins (end_sign x.is_last) rest x.behind.now)
    → MatchOption o (NoOperand n text) (λ x. IsOperand text (tree_of x.tree) (end_sign x.is_last) x.behind.now)
operand_told n text rest e None is h = no_end is h.0 h.1
operand_told n text rest e (Some x) is h = subst (λ t. IsOperand text t (end_sign x.is_last) x.behind.now) (sym h.0) (operand is h.1)

pub ended : (b c : Bool) (text behind : List ℕ) (e : Tree SourceSpan) → b ≡ c → IsOperand text e (end_sign b) behind → IsOperand text e (end_sign c) behind
ended b c text behind e same is = subst (λ d. IsOperand text e (end_sign d) behind) same is

pub last_joined : (link : Link) (before e made : Tree SourceSpan) (text behind : List ℕ) → IsOperand text e (sign ")") behind
    → made ≡ linked link before e → AreJoined link before text made behind
last_joined link before e made text behind is same = subst (λ t. AreJoined link before text t behind) (sym same) (last is)

pub more_joined : (link : Link) (before e made : Tree SourceSpan) (text rest : List ℕ) → IsOperand text e (sign ",") rest
    → made ≡ linked link before e → (end : Tree SourceSpan) (behind : List ℕ) → AreJoined link made rest end behind → AreJoined link before text end behind
more_joined link before e made text rest is same end behind are =
    more is (subst (λ t. AreJoined link t rest end behind) same are)
