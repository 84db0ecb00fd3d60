-- Spans by their ends, and texts that are not empty.
use Rattle.std.proofs.Common.{◌≡◌, ℕ, ◌+◌, ◌-◌, ◌<◌, List, ◌∷◌, [], ◌++◌, length, refl, ap, arith, length-append}
use Rattle.filterset_grammar.specs.Grammar.{Call, LeafText, not_text, join_text, Basic, AndLevel}
use Rattle.filterset_grammar.specs.{Tree.Leaf, declared.operators.NotOperator.NotOperator}
use Rattle.filterset_grammar.specs.declared.operators.NotOperator.TheVariants.{LiteralNot, Exclamation}
use Rattle.filterset_grammar.specs.Grammar as grammar
use Rattle.filterset_language.specs.Parsing.Descent.{Placed, between}
use Rattle.filterset_faults.specs.{Span.span, declared.span.SourceSpan.SourceSpan}

-- a span, by its length and its end
pub span_same : (a b c : ℕ) → a + b ≡ c → between a c ≡ span a b
span_same a b c e = let d : c - a ≡ b = omega arith in rw d refl

pub call_length : (name argument t : List ℕ) (at inside : ℕ) (c : Call name argument t at inside) → length t ≡ length name + length c.blanks + 2 + length argument
call_length name argument t at inside c =
    omega (
      arith,
      ap length c.text,
      length-append name (c.blanks ++ (40 ∷ (argument ++ 41 ∷ []))),
      length-append c.blanks (40 ∷ (argument ++ 41 ∷ [])),
      length-append argument (41 ∷ []),
    )

-- every predicate has a byte
pub leaf_some : {t : List ℕ} {at : ℕ} {l : Leaf SourceSpan} → LeafText t at l → 0 < length t
leaf_some (grammar.matching {p} {t} {at} inside before raw behind call blanks text last s_is) = omega (arith, call_length _ _ t at inside call)
leaf_some (grammar.platform {q} {t} {at} inside raw value call spelled names s_is) = omega (arith, call_length _ _ t at inside call)
leaf_some (grammar.default {t} {at} inside white call w s_is) = omega (arith, call_length _ _ t at inside call)
leaf_some (grammar.all {t} {at} inside white call w) = omega (arith, call_length _ _ t at inside call)
leaf_some (grammar.none {t} {at} inside white call w) = omega (arith, call_length _ _ t at inside call)

pub not_some : (op : NotOperator) → 0 < length (not_text op)
not_some LiteralNot = omega arith
not_some Exclamation = omega arith

-- every operand of the level of `and` has a byte
pub basic_some : {t : List ℕ} {at : ℕ} {e : Placed} → Basic t at e → 0 < length t
basic_some (grammar.leaf {t} {at} {l} blanks own b text is) = omega (arith, leaf_some text, ap length is, length-append blanks own)
basic_some (grammar.negation {t} {at} {op} {e} blanks own b ends inner is) = omega (arith, not_some op, ap length is, length-append blanks (not_text op ++ own), length-append (not_text op) own)
basic_some (grammar.parens {t} {at} {e} blanks own behind b inner c is) = omega (arith, ap length is, length-append blanks (40 ∷ (own ++ (behind ++ 41 ∷ []))))

-- so does every operand of the level of `or`
pub and_some : {t : List ℕ} {at : ℕ} {e : Placed} → AndLevel t at e → 0 < length t
and_some (grammar.one first) = basic_some first
and_some (grammar.join {t} {at} {op} left blanks right first b ends second is) = omega (arith, and_some first, ap length is, length-append left (blanks ++ (join_text op ++ right)))
