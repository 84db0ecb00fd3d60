-- A filterset that nests within a limit is passed over by levels within it, and one that does not is not.
use Rattle.std.proofs.Common.{◌≡◌, ℕ, ◌+◌, ◌<◌, ◌≤◌, ◌∙◌, ap, Bool, true, false, List, [], ◌∷◌, ◌++◌, append_assoc, arith, drop, length, length-append, refl, subst, sym, ⊎_elim}
use Rattle.std.specs.Prelude.{IsTrue, codes}
use Rattle.std.proofs.lemmas.{Bool.cases_lt, List.append-nil, List.drop-drop}
use Rattle.std.proofs.Math.Nat.{le-max_left, le-max_right}
use Rattle.filterset_faults.specs.declared.span.SourceSpan.{SourceSpan}
use Rattle.filterset_grammar.specs.Grammar as grammar
use Rattle.filterset_grammar.specs.Grammar.{AndLevel, Basic, OrLevel, Spells, join_ends, join_text, not_ends, not_text, or_ends, or_text}
use Rattle.filterset_grammar.specs.Text.{Blanks, ends_word, newline, no_blank, return_newline, space}
use Rattle.filterset_grammar.specs.{Tree.Tree, declared.operators.Joiner.Joiner}
use Rattle.filterset_grammar.specs.declared.operators.Joiner.TheVariants.{Both, ExactlyOne, Without}
use Rattle.filterset_grammar.specs.declared.operators.AndOperator.TheVariants.{Ampersand, LiteralAnd}
use Rattle.filterset_grammar.specs.declared.operators.{DifferenceOperator.TheVariants.Minus, NotOperator.NotOperator}
use Rattle.filterset_grammar.specs.declared.operators.NotOperator.TheVariants.{Exclamation, LiteralNot}
use Rattle.filterset_grammar.specs.declared.operators.OrOperator.{OrOperator}
use Rattle.filterset_grammar.specs.declared.operators.OrOperator.TheVariants.{LiteralOr, Pipe, Plus}
use Rattle.filterset_grammar.specs.declared.operators.SymmetricDifferenceOperator.TheVariants.{Caret}
use Rattle.filterset_language.proofs.SpelledIsNotEmpty.{and_some, basic_some, leaf_some}
use Rattle.filterset_rewriting.specs.Nesting.Depth.{depth}
use Rattle.filterset_rewriting.specs.Nesting.Levels.{After, Rest, between, closed, deep_negation, deep_open, ended, negation, opened, predicate}
use Rattle.filterset_rewriting.specs.Nesting.Tokens.{Begins}
use Rattle.filterset_rewriting.specs.declared.nesting.tokens.Lexeme.{Lexeme, TheVariants.Between, TheVariants.Negation}
use Rattle.filterset_rewriting.specs.Nesting.Tokens as tokens
use Rattle.filterset_rewriting.specs.declared.nesting.tokens.Lexeme.TheVariants as kinds

-- ---- tokens of a filterset

-- a word that ends before a text that is not empty ends before what goes on with it
ends_more : (own t : List ℕ) → 0 < length own → IsTrue (ends_word own) → IsTrue (ends_word (own ++ t))
ends_more [] t some h = absurd (omega arith)
ends_more (b ∷ own) t some h = h

not_begins : (op : NotOperator) (own t : List ℕ) → 0 < length own → not_ends op own → Begins (not_text op ++ (own ++ t)) Negation (own ++ t)
not_begins LiteralNot own t some h = tokens.word (codes "not") refl refl (ends_more own t some h) refl
not_begins Exclamation own t some h = tokens.sign refl

or_begins : (op : OrOperator) (own t : List ℕ) → 0 < length own → or_ends op own → Begins (or_text op ++ (own ++ t)) Between (own ++ t)
or_begins LiteralOr own t some h = tokens.word (codes "or") refl refl (ends_more own t some h) refl
or_begins Pipe own t some h = tokens.sign refl
or_begins Plus own t some h = tokens.sign refl

join_begins : (op : Joiner) (own t : List ℕ) → 0 < length own → join_ends op own → Begins (join_text op ++ (own ++ t)) Between (own ++ t)
join_begins (Both LiteralAnd) own t some h = tokens.word (codes "and") refl refl (ends_more own t some h) refl
join_begins (Both Ampersand) own t some h = tokens.sign refl
join_begins (Without Minus) own t some h = tokens.sign refl
join_begins (ExactlyOne Caret) own t some h = tokens.sign refl

module _ {limit : ℕ} {within : Bool} {outside : List ℕ} {base level : ℕ} where
  over_blanks : {blanks : List ℕ} → Blanks blanks → (t : List ℕ) → Rest limit t outside base level within → Rest limit (blanks ++ t) outside base level within
  over_blanks no_blank t rest = rest
  over_blanks (space more) t rest = between _ (tokens.sign refl) (over_blanks more t rest)
  over_blanks (newline more) t rest = between _ (tokens.sign refl) (over_blanks more t rest)
  over_blanks (return_newline more) t rest = between _ (tokens.sign refl) (between _ (tokens.sign refl) (over_blanks more t rest))

  over_union : (op : OrOperator) {blanks : List ℕ} (right t : List ℕ) → Blanks blanks → 0 < length right → or_ends op right
      → Rest limit (right ++ t) outside base level within → Rest limit (blanks ++ (or_text op ++ (right ++ t))) outside base level within
  over_union op right t are some ends rest = over_blanks are _ (between _ (or_begins op right t some ends) rest)

  over_join : (op : Joiner) {blanks : List ℕ} (right t : List ℕ) → Blanks blanks → 0 < length right → join_ends op right
      → Rest limit (right ++ t) outside base level within → Rest limit (blanks ++ (join_text op ++ (right ++ t))) outside base level within
  over_join op right t are some ends rest = over_blanks are _ (between _ (join_begins op right t some ends) rest)

  along : (text other : List ℕ) → text ≡ other → Rest limit other outside base level within → Rest limit text outside base level within
  along text other is rest = subst (λ (t : List ℕ). Rest limit t outside base level within) (sym is) rest

-- the parts of an expression, before what follows it
three : (text a b c t : List ℕ) → text ≡ a ++ (b ++ c) → text ++ t ≡ a ++ (b ++ (c ++ t))
three text a b c t is = ap (λ (x : List ℕ). x ++ t) is ∙ simp append_assoc

four : (text a b c d t : List ℕ) → text ≡ a ++ (b ++ (c ++ d)) → text ++ t ≡ a ++ (b ++ (c ++ (d ++ t)))
four text a b c d t is = ap (λ (x : List ℕ). x ++ t) is ∙ simp append_assoc

enclosed : (text a own behind t : List ℕ) → text ≡ a ++ (40 ∷ (own ++ (behind ++ 41 ∷ []))) → text ++ t ≡ a ++ (40 ∷ (own ++ (behind ++ 41 ∷ t)))
enclosed text a own behind t is = ap (λ (x : List ℕ). x ++ t) is ∙ simp append_assoc

-- ---- levels within the limit

mutual
  basic_within : {limit : ℕ} {own : List ℕ} {at : ℕ} {e : Tree SourceSpan} → Basic own at e → (t outside : List ℕ) (base level : ℕ) (within : Bool)
      → level + depth e ≤ limit → Rest limit t outside base base within → Rest limit (own ++ t) outside base level within
  basic_within (grammar.leaf {t = text} blanks own are leaf is) t outside base level within le rest =
      along _ _ (ap (λ (x : List ℕ). x ++ t) is ∙ append_assoc blanks own t) (over_blanks are _ (predicate _ (tokens.predicate own leaf refl) rest))
  basic_within (grammar.negation {t = text} {at} {op} {e} blanks own are ends inner is) t outside base level within le rest =
      along _ _ (three text blanks (not_text op) own t is) (over_blanks are _
      (negation _ (not_begins op own t (basic_some inner) ends) (omega arith) (basic_within inner t outside base (level + 1) within (omega arith) rest)))
  basic_within (grammar.parens {t = text} {at} {e} blanks own behind are inner close is) t outside base level within le rest =
      along _ _ (enclosed text blanks own behind t is) (over_blanks are _
      (opened _ (tokens.sign refl) (omega arith) (or_within inner (behind ++ 41 ∷ t) (outside ++ base ∷ []) (level + 1) within (omega arith)
      (over_blanks close _ (closed _ outside base (tokens.sign refl) refl rest)))))

  and_within : {limit : ℕ} {own : List ℕ} {at : ℕ} {e : Tree SourceSpan} → AndLevel own at e → (t outside : List ℕ) (base : ℕ) (within : Bool)
      → base + depth e ≤ limit → Rest limit t outside base base within → Rest limit (own ++ t) outside base base within
  and_within (grammar.one first) t outside base within le rest = basic_within first t outside base base within le rest
  and_within (grammar.join {t = text} {at} {op} {l} {r} left blanks right first are ends second is) t outside base within le rest =
      along _ _ (four text left blanks (join_text op) right t is) (and_within first _ outside base within (omega (arith, le-max_left (depth l) (depth r)))
      (over_join op right t are (basic_some second) ends (basic_within second t outside base base within (omega (arith, le-max_right (depth l) (depth r))) rest)))

  or_within : {limit : ℕ} {own : List ℕ} {at : ℕ} {e : Tree SourceSpan} → OrLevel own at e → (t outside : List ℕ) (base : ℕ) (within : Bool)
      → base + depth e ≤ limit → Rest limit t outside base base within → Rest limit (own ++ t) outside base base within
  or_within (grammar.one_and first) t outside base within le rest = and_within first t outside base within le rest
  or_within (grammar.union {t = text} {at} {op} {l} {r} left blanks right first are ends second is) t outside base within le rest =
      along _ _ (four text left blanks (or_text op) right t is) (or_within first _ outside base within (omega (arith, le-max_left (depth l) (depth r)))
      (over_union op right t are (and_some second) ends (and_within second t outside base within (omega (arith, le-max_right (depth l) (depth r))) rest)))

-- ---- a level past the limit

mutual
  basic_deep : {limit : ℕ} {own : List ℕ} {at : ℕ} {e : Tree SourceSpan} → Basic own at e → (t outside : List ℕ) (base level : ℕ)
      → level ≤ limit → limit < level + depth e → Rest limit (own ++ t) outside base level false
  basic_deep (grammar.leaf {t = text} blanks own are leaf is) t outside base level le lt = absurd (omega arith)
  basic_deep {limit} (grammar.negation {t = text} {at} {op} {e} blanks own are ends inner is) t outside base level le lt =
      along _ _ (three text blanks (not_text op) own t is) (over_blanks are _ (⊎_elim
      (λ less. negation _ (not_begins op own t (basic_some inner) ends) less (basic_deep inner t outside base (level + 1) (omega arith) (omega arith)))
      (λ at_limit. deep_negation _ (not_begins op own t (basic_some inner) ends) at_limit)
      (cases_lt level limit)))
  basic_deep {limit} (grammar.parens {t = text} {at} {e} blanks own behind are inner close is) t outside base level le lt =
      along _ _ (enclosed text blanks own behind t is) (over_blanks are _ (⊎_elim
      (λ less. opened _ (tokens.sign refl) less (or_deep inner (behind ++ 41 ∷ t) (outside ++ base ∷ []) (level + 1) (omega arith) (omega arith)))
      (λ at_limit. deep_open _ (tokens.sign refl) at_limit)
      (cases_lt level limit)))

  and_deep : {limit : ℕ} {own : List ℕ} {at : ℕ} {e : Tree SourceSpan} → AndLevel own at e → (t outside : List ℕ) (base : ℕ)
      → base ≤ limit → limit < base + depth e → Rest limit (own ++ t) outside base base false
  and_deep (grammar.one first) t outside base le lt = basic_deep first t outside base base le lt
  and_deep {limit} (grammar.join {t = text} {at} {op} {l} {r} left blanks right first are ends second is) t outside base le lt =
      along _ _ (four text left blanks (join_text op) right t is) (⊎_elim
      (λ less. and_deep first _ outside base le less)
      (λ enough. and_within first _ outside base false enough
      (over_join op right t are (basic_some second) ends (basic_deep second t outside base base le (omega arith))))
      (cases_lt limit (base + depth l)))

  or_deep : {limit : ℕ} {own : List ℕ} {at : ℕ} {e : Tree SourceSpan} → OrLevel own at e → (t outside : List ℕ) (base : ℕ)
      → base ≤ limit → limit < base + depth e → Rest limit (own ++ t) outside base base false
  or_deep (grammar.one_and first) t outside base le lt = and_deep first t outside base le lt
  or_deep {limit} (grammar.union {t = text} {at} {op} {l} {r} left blanks right first are ends second is) t outside base le lt =
      along _ _ (four text left blanks (or_text op) right t is) (⊎_elim
      (λ less. or_deep first _ outside base le less)
      (λ enough. or_within first _ outside base false enough
      (over_union op right t are (and_some second) ends (and_deep second t outside base le (omega arith))))
      (cases_lt limit (base + depth l)))

-- ---- whole texts

-- from a position on, the levels are within the limit just if the whole filterset is
pub record FromHere (limit : ℕ) (e : Tree SourceSpan) (t outside : List ℕ) (base level : ℕ) : Type 0 where
  pub within : depth e ≤ limit → Rest limit t outside base level true
  pub deep : limit < depth e → Rest limit t outside base level false

pub from_start : (limit : ℕ) (text outside : List ℕ) (e : Tree SourceSpan) → Spells text e → FromHere limit e text outside 0 0
from_start limit text outside e spells = record {
  within = λ le. along _ _ spells.whole (or_within spells.expression spells.behind outside 0 true (omega arith) over);
  deep = λ lt. along _ _ spells.whole (or_deep spells.expression spells.behind outside 0 (omega arith) (omega arith));
}
  where
    over : Rest limit spells.behind outside 0 0 true
    over = subst (λ (t : List ℕ). Rest limit t outside 0 0 true) (append-nil spells.behind) (over_blanks spells.blanks [] ended)

-- ---- steps

pub begins_some : {text : List ℕ} {token : Lexeme} {t : List ℕ} → Begins text token t → 0 < length text
begins_some (tokens.sign is) = omega arith
begins_some (tokens.word {text} {t} [] is letters ends whole) = absurd cc
begins_some (tokens.word {text} {t} (b ∷ own) is letters ends whole) = omega (arith, ap length whole)
begins_some (tokens.predicate {text} {t} own leaf whole) = omega (arith, leaf_some leaf, ap length whole, length-append own t)

-- nothing is past the limit at the end
pub at_end : {limit : ℕ} {text outside : List ℕ} {base level : ℕ} → Rest limit text outside base level false → length text ≡ 0 → ⊥
at_end (between t begins rest) none = let some = begins_some begins in omega arith
at_end (negation t begins less rest) none = let some = begins_some begins in omega arith
at_end (opened t begins less rest) none = let some = begins_some begins in omega arith
at_end (closed t further back begins is rest) none = let some = begins_some begins in omega arith
at_end (predicate t begins rest) none = let some = begins_some begins in omega arith
at_end (deep_negation t begins le) none = let some = begins_some begins in omega arith
at_end (deep_open t begins le) none = let some = begins_some begins in omega arith

put : (limit base level : ℕ) (outside : List ℕ) (within : Bool) (token own : Lexeme) (t u : List ℕ) → (own ≡ token) × (u ≡ t)
    → After limit token t outside base level within → After limit own u outside base level within
put limit base level outside within token own t u is after =
    subst (λ (x : Lexeme). After limit x u outside base level within) (sym is.0)
    (subst (λ (x : List ℕ). After limit token x outside base level within) (sym is.1) after)

-- a token is passed over, if it is the only one that the text begins with
pub moves : {limit base level : ℕ} {text outside : List ℕ} {within : Bool} → Rest limit text outside base level within → 0 < length text
    → (own : Lexeme) (n : ℕ) → ((token : Lexeme) (t : List ℕ) → Begins text token t → (own ≡ token) × (drop n text ≡ t))
    → After limit own (drop n text) outside base level within
moves ended some own n only = absurd (omega arith)
moves (between t begins rest) some own n only = put _ _ _ _ _ kinds.Between own t _ (only _ t begins) rest
moves (negation t begins less rest) some own n only = put _ _ _ _ _ kinds.Negation own t _ (only _ t begins) (λ _. rest, λ le. absurd (omega arith))
moves (opened t begins less rest) some own n only = put _ _ _ _ _ kinds.Open own t _ (only _ t begins) (λ _. rest, λ le. absurd (omega arith))
moves (closed t further back begins is rest) some own n only = put _ _ _ _ _ kinds.Close own t _ (only _ t begins) (further, back, is, rest)
moves (predicate t begins rest) some own n only = put _ _ _ _ _ kinds.Predicate own t _ (only _ t begins) rest
moves (deep_negation t begins le) some own n only = put _ _ _ _ _ kinds.Negation own t _ (only _ t begins) (λ less. absurd (omega arith), λ _. refl)
moves (deep_open t begins le) some own n only = put _ _ _ _ _ kinds.Open own t _ (only _ t begins) (λ less. absurd (omega arith), λ _. refl)

-- the same at a position of a text
pub step : (limit base level at n : ℕ) (text rest outside : List ℕ) (own : Lexeme) (within : Bool) → rest ≡ drop at text → 0 < length rest
    → ((token : Lexeme) (t : List ℕ) → Begins rest token t → (own ≡ token) × (drop n rest ≡ t))
    → Rest limit (drop at text) outside base level within → After limit own (drop (at + n) text) outside base level within
step limit base level at n text rest outside own within back some only here =
    subst (λ (x : List ℕ). After limit own x outside base level within) (ap (drop n) back ∙ drop-drop n at text)
    (moves (subst (λ (x : List ℕ). Rest limit x outside base level within) (sym back) here) some own n only)
