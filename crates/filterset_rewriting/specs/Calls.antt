-- Operators that are written in front of their operands, as in `and(a, b)`.
use Rattle.std.specs.Prelude.{◌≡◌, ◌∷◌, ◌-◌, ◌<◌, ℕ, Bool, true, false, List}
use Rattle.std.specs.Str.{trim_start}
use Rattle.filterset_faults.specs.declared.span.SourceSpan.{SourceSpan}
use Rattle.filterset_glob.specs.Signs.{sign}
use Rattle.filterset_grammar.specs.{AddedParens.IsWithParens, Tree.Tree}
use Rattle.filterset_rewriting.specs.Fronts.{IsExpression, NoExpression}
use Rattle.filterset_rewriting.specs.{Links.IsOperator, Links.NoOperator, Links.linked, declared.links.Link.Link}

-- the text goes on with this sign after white space, and then with the other text
abbrev pub Begins : ℕ → List ℕ → List ℕ → Type 0
Begins b text behind = trim_start text ≡ b ∷ behind

-- it does not
abbrev pub Lacks : ℕ → List ℕ → Type 0
Lacks b text = (behind : List ℕ) → Begins b text behind → ⊥

-- the sign after an operand: a parenthesis after the last one, else a comma
abbrev pub end_sign : Bool → ℕ
end_sign true = sign ")"
end_sign false = sign ","

-- ---- what a text begins with; the other text is after that

mutual
  -- an expression, or a call, which means one
  pub data IsFront : List ℕ → Tree SourceSpan → List ℕ → Type 0 where
    expression : {text behind : List ℕ} {e : Tree SourceSpan} → IsExpression text e behind → IsFront text e behind
    call : {text rest behind : List ℕ} {e : Tree SourceSpan} {link : Link}
        → IsOperator text link rest → IsList link rest e behind → IsFront text e behind

  -- two operands or more between parentheses, joined from the left
  pub data IsList : Link → List ℕ → Tree SourceSpan → List ℕ → Type 0 where
    list : {link : Link} {first e : Tree SourceSpan} {text inside rest behind : List ℕ} → Begins (sign "(") text inside
        → IsOperand inside first (sign ",") rest → AreJoined link first rest e behind → IsList link text e behind

  -- an operand, and the sign after it
  pub data IsOperand : List ℕ → Tree SourceSpan → ℕ → List ℕ → Type 0 where
    operand : {text rest behind : List ℕ} {e : Tree SourceSpan} {b : ℕ}
        → IsFront text e rest → Begins b rest behind → IsOperand text e b behind

  -- operands, of which a parenthesis follows the last: the tree before them joined to each in turn
  pub data AreJoined : Link → Tree SourceSpan → List ℕ → Tree SourceSpan → List ℕ → Type 0 where
    last : {link : Link} {before e : Tree SourceSpan} {text behind : List ℕ}
        → IsOperand text e (sign ")") behind → AreJoined link before text (linked link before e) behind
    more : {link : Link} {before e made : Tree SourceSpan} {text rest behind : List ℕ}
        → IsOperand text e (sign ",") rest → AreJoined link (linked link before e) rest made behind
        → AreJoined link before text made behind

-- a call: the tree of its operands, with parentheses around those that need them
pub record IsCall (text : List ℕ) (e : Tree SourceSpan) (behind : List ℕ) : Type 0 where
  pub link : Link
  pub rest : List ℕ
  pub operator : IsOperator text link rest
  pub joined : Tree SourceSpan
  pub operands : IsList link rest joined behind
  pub parens : IsWithParens joined e

-- ---- texts that begin with nothing of the kind, where so many levels of calls within calls are read

mutual
  pub data NoFront : ℕ → List ℕ → Type 0 where
    no_expression : {n : ℕ} {text : List ℕ} → NoOperator text → NoExpression text → NoFront n text
    too_deep : {text rest : List ℕ} {link : Link} → IsOperator text link rest → NoFront 0 text
    no_call : {n : ℕ} {text rest : List ℕ} {link : Link}
        → IsOperator text link rest → 0 < n → NoList (n - 1) rest → NoFront n text

  -- no parenthesis, or after it no operand, or one alone, or no parenthesis after the last
  pub data NoList : ℕ → List ℕ → Type 0 where
    no_open : {n : ℕ} {text : List ℕ} → Lacks (sign "(") text → NoList n text
    no_first : {n : ℕ} {text inside : List ℕ} → Begins (sign "(") text inside → NoOperand n inside → NoList n text
    one_alone : {n : ℕ} {text inside behind : List ℕ} {e : Tree SourceSpan} → Begins (sign "(") text inside
        → IsOperand inside e (sign ")") behind → NoList n text
    unclosed : {n : ℕ} {text inside rest : List ℕ} {e : Tree SourceSpan} → Begins (sign "(") text inside
        → IsOperand inside e (sign ",") rest → AreOpen n rest → NoList n text

  pub data AreOpen : ℕ → List ℕ → Type 0 where
    no_more : {n : ℕ} {text : List ℕ} → NoOperand n text → AreOpen n text
    one_more : {n : ℕ} {text rest : List ℕ} {e : Tree SourceSpan}
        → IsOperand text e (sign ",") rest → AreOpen n rest → AreOpen n text

  -- nothing of the kind, or neither sign after it
  pub data NoOperand : ℕ → List ℕ → Type 0 where
    nothing : {n : ℕ} {text : List ℕ} → NoFront n text → NoOperand n text
    no_end : {n : ℕ} {text rest : List ℕ} {e : Tree SourceSpan}
        → IsFront text e rest → Lacks (sign ",") rest → Lacks (sign ")") rest → NoOperand n text

-- how many levels of calls are read
abbrev pub levels : ℕ
levels = 64

-- the text begins with no call
pub data NoCall : List ℕ → Type 0 where
  no_operator : {text : List ℕ} → NoOperator text → NoCall text
  no_list : {text rest : List ℕ} {link : Link} → IsOperator text link rest → NoList levels rest → NoCall text
