-- Where the spans of a spelled tree's leaves lie in its text: within it, and between two characters.
use Rattle.std.proofs.Common.{◌≡◌, ℕ, ◌+◌, ◌<◌, ◌≤◌, List, [], ◌∷◌, ◌++◌, length, get_or, IsUtf8, IsCharBoundary, refl, sym, ap, ◌∙◌, subst, arith, append_assoc, length-append}
use Rattle.std.specs.Prelude.{codes, All, IfSome}
use Rattle.std.proofs.{Math.Seq.get_or-append_seam, lemmas.List.append-nil}
use Rattle.std.proofs.lemmas.List.Elements.{All-nil, All-cons, All-append}
use Rattle.std.proofs.lemmas.Str.{IsCharBoundary-after_ascii, IsCharBoundary-before_ascii}
use Rattle.filterset_faults.specs.{Span.span, declared.span.SourceSpan.SourceSpan}
use Rattle.filterset_grammar.specs.Grammar as grammar
use Rattle.filterset_grammar.specs.Grammar.{Name, not_text, or_text, join_text, BehindMatcher, Call, LeafText, Basic, AndLevel, OrLevel, Spells}
use Rattle.filterset_grammar.specs.Text.{Blanks, no_blank, space, newline, return_newline}
use Rattle.filterset_grammar.specs.Tree.{Leaf, Tree, tree_leaves}
use Rattle.filterset_language.specs.Faults.{leaf_span}
use Rattle.filterset_matchers.specs.Matcher.{Matcher, Equal, Contains, Glob, Regex}

-- the span lies within the text, and begins and ends between two characters
pub record LiesIn (text : List ℕ) (s : SourceSpan) : Type 0 where
  pub within : s.offset + s.len ≤ length text
  pub begins : IsCharBoundary text s.offset
  pub ends : IsCharBoundary text (s.offset + s.len)

-- the span of the leaf does, where it has one
abbrev pub LeafLiesIn : List ℕ → Leaf SourceSpan → Type 0
LeafLiesIn text l = IfSome (leaf_span l) (LiesIn text)

-- ---- pieces of a text

-- the piece stands in the text at this offset
record StandsAt (text t : List ℕ) (at : ℕ) : Type 0 where
  front : List ℕ
  behind : List ℕ
  parts : text ≡ front ++ (t ++ behind)
  offset : at ≡ length front

regroup : (f a u z b : List ℕ) → f ++ ((a ++ (u ++ z)) ++ b) ≡ (f ++ a) ++ (u ++ (z ++ b))
regroup f a u z b = simp append_assoc

-- so does a part of it
part : {text t : List ℕ} {at : ℕ} (a u z : List ℕ) (n : ℕ) → StandsAt text t at → t ≡ a ++ (u ++ z) → n ≡ at + length a → StandsAt text u n
part {text} {t} {at} a u z n s is position = record {
  front = s.front ++ a;
  behind = z ++ s.behind;
  parts = s.parts ∙ ap (λ (x : List ℕ). s.front ++ (x ++ s.behind)) is ∙ regroup s.front a u z s.behind;
  offset = omega (arith, position, s.offset, length-append s.front a);
}

-- and its end
end_part : {text t : List ℕ} {at : ℕ} (a u : List ℕ) (n : ℕ) → StandsAt text t at → t ≡ a ++ u → n ≡ at + length a → StandsAt text u n
end_part a u n s is position = part a u [] n s (is ∙ ap (λ (x : List ℕ). a ++ x) (sym (append-nil u))) position

-- the left operand before an operator
left_part : {text t : List ℕ} {at : ℕ} (left more : List ℕ) → StandsAt text t at → t ≡ left ++ more → StandsAt text left at
left_part {text} {t} {at} left more s is = part [] left more at s is (omega arith)

-- the right operand after an operator
right_part : {text t : List ℕ} {at : ℕ} (left blanks op right : List ℕ) → StandsAt text t at → t ≡ left ++ (blanks ++ (op ++ right)) → StandsAt text right (at + length left + length blanks + length op)
right_part {text} {t} {at} left blanks op right s is =
    let long = length-append left (blanks ++ op) in
    let longer = length-append blanks op in
    end_part (left ++ (blanks ++ op)) right (at + length left + length blanks + length op) s
    (is ∙ sym (append_assoc left (blanks ++ op) right ∙ ap (λ (x : List ℕ). left ++ x) (append_assoc blanks op right)))
    (omega (arith, long, longer))

-- it ends in the text
ends_within : {text t : List ℕ} {at : ℕ} → StandsAt text t at → at + length t ≤ length text
ends_within {text} {t} {at} s = omega (arith, s.offset, ap length s.parts, length-append s.front (t ++ s.behind), length-append t s.behind)

-- the byte after its beginning
byte_at : {text t : List ℕ} {at : ℕ} (a : List ℕ) (b : ℕ) (z : List ℕ) → StandsAt text t at → t ≡ a ++ (b ∷ z) → get_or text (at + length a) 0 ≡ b
byte_at {text} {t} {at} a b z s is =
    let p = end_part a (b ∷ z) (at + length a) s is refl in
    ap (λ (n : ℕ). get_or text n 0) p.offset ∙ ap (λ (x : List ℕ). get_or x (length p.front) 0) p.parts ∙ get_or-append_seam p.front b (z ++ p.behind) 0

byte_within : {text t : List ℕ} {at : ℕ} (a : List ℕ) (b : ℕ) (z : List ℕ) → StandsAt text t at → t ≡ a ++ (b ∷ z) → at + length a < length text
byte_within {text} {t} {at} a b z s is =
    let within = ends_within s in
    omega (arith, within, ap length is, length-append a (b ∷ z))

-- a character begins at a byte of ASCII
before_byte : {text t : List ℕ} {at : ℕ} (a : List ℕ) (b : ℕ) (z : List ℕ) → b < 128 → StandsAt text t at → t ≡ a ++ (b ∷ z) → IsCharBoundary text (at + length a)
before_byte {text} {t} {at} a b z low s is =
    IsCharBoundary-before_ascii text (at + length a) (byte_within a b z s is) (let e = byte_at a b z s is in omega (arith, e, low))

-- and after one
behind_byte : {text t : List ℕ} {at : ℕ} (a : List ℕ) (b : ℕ) (z : List ℕ) → b < 128 → IsUtf8 text → StandsAt text t at → t ≡ a ++ (b ∷ z) → IsCharBoundary text (at + length a + 1)
behind_byte {text} {t} {at} a b z low utf8 s is =
    IsCharBoundary-after_ascii text (at + length a) utf8 (byte_within a b z s is) (let e = byte_at a b z s is in omega (arith, e, low))

-- ---- leaves

-- a byte of ASCII at the front of a text
record BeginsLow (t : List ℕ) : Type 0 where
  byte : ℕ
  rest : List ℕ
  low : byte < 128
  is : t ≡ byte ∷ rest

blanks_low : {bs : List ℕ} → Blanks bs → BeginsLow (bs ++ codes ")")
blanks_low no_blank = record { byte = 41; rest = []; low = omega arith; is = refl }
blanks_low (space {t} b) = record { byte = 32; rest = t ++ codes ")"; low = omega arith; is = refl }
blanks_low (newline {t} b) = record { byte = 10; rest = t ++ codes ")"; low = omega arith; is = refl }
blanks_low (return_newline {t} b) = record { byte = 13; rest = 10 ∷ (t ++ codes ")"); low = omega arith; is = refl }

behind_low : (m : Matcher) (t : List ℕ) → BehindMatcher m t → BeginsLow (t ++ codes ")")
behind_low (Regex pattern) t is = blanks_low is
behind_low (Equal value implicit) t is = rw is (blanks_low no_blank)
behind_low (Contains value implicit) t is = rw is (blanks_low no_blank)
behind_low (Glob text tokens implicit) t is = rw is (blanks_low no_blank)

module _ {text t : List ℕ} {at : ℕ} (utf8 : IsUtf8 text) (s : StandsAt text t at) where
  -- the argument of a call, up to a byte of ASCII
  argument_lies : {name argument : List ℕ} {inside : ℕ} (own more : List ℕ) → Call name argument t at inside → argument ≡ own ++ more → BeginsLow (more ++ codes ")") → LiesIn text (record { offset = inside; len = length own })
  argument_lies {name} {argument} {inside} own more call is low =
      let opened : t ≡ (name ++ call.blanks) ++ (40 ∷ (argument ++ codes ")")) = call.text ∙ sym (append_assoc name call.blanks (40 ∷ (argument ++ codes ")"))) in
      let front = (name ++ call.blanks) ++ (40 ∷ own) in
      let closed : t ≡ front ++ (low.byte ∷ low.rest) =
      opened ∙ ap (λ (x : List ℕ). (name ++ call.blanks) ++ (40 ∷ (x ++ codes ")"))) is
      ∙ ap (λ (x : List ℕ). (name ++ call.blanks) ++ (40 ∷ x)) (append_assoc own more (codes ")") ∙ ap (λ (x : List ℕ). own ++ x) low.is)
      ∙ sym (append_assoc (name ++ call.blanks) (40 ∷ own) (low.byte ∷ low.rest)) in
      let long = length-append name call.blanks in
      let longer = length-append (name ++ call.blanks) (40 ∷ own) in
      let begin : at + length (name ++ call.blanks) + 1 ≡ inside = omega (arith, call.offset, long) in
      let finish : at + length front ≡ inside + length own = omega (arith, call.offset, long, longer) in
      record {
        within = let e = byte_within front low.byte low.rest s closed in omega (arith, e, finish);
        begins = subst (IsCharBoundary text) begin (behind_byte (name ++ call.blanks) 40 (argument ++ codes ")") (omega arith) utf8 s opened);
        ends = subst (IsCharBoundary text) finish (before_byte front low.byte low.rest low.low s closed);
      }

  -- the whole of a call whose name begins with a byte of ASCII
  call_lies : {name argument : List ℕ} {inside : ℕ} (b : ℕ) (others : List ℕ) → b < 128 → name ≡ b ∷ others → Call name argument t at inside → LiesIn text (record { offset = at; len = length t })
  call_lies {name} {argument} {inside} b others low named call =
      let front = name ++ (call.blanks ++ (40 ∷ argument)) in
      let closed : t ≡ front ++ (41 ∷ []) =
      call.text ∙ sym (append_assoc name (call.blanks ++ (40 ∷ argument)) (codes ")") ∙ ap (λ (x : List ℕ). name ++ x) (append_assoc call.blanks (40 ∷ argument) (codes ")"))) in
      let opened : t ≡ [] ++ (b ∷ (others ++ (call.blanks ++ (40 ∷ (argument ++ codes ")"))))) = call.text ∙ ap (λ (x : List ℕ). x ++ (call.blanks ++ (40 ∷ (argument ++ codes ")")))) named in
      let finish : at + length front + 1 ≡ at + length t = omega (arith, ap length closed, length-append front (41 ∷ [])) in
      let start : at + 0 ≡ at = omega arith in
      record {
        within = ends_within s;
        begins = subst (IsCharBoundary text) start (before_byte [] b (others ++ (call.blanks ++ (40 ∷ (argument ++ codes ")")))) low s opened);
        ends = subst (IsCharBoundary text) finish (behind_byte front 41 [] (omega arith) utf8 s closed);
      }

leaf_lies : {text t : List ℕ} {at : ℕ} {l : Leaf SourceSpan} → IsUtf8 text → StandsAt text t at → LeafText t at l → LeafLiesIn text l
leaf_lies {text} utf8 s (grammar.matching {m = m} inside before raw behind call blanks matcher more is) =
    let long = length-append before raw in
    let lies = argument_lies utf8 s (before ++ raw) behind call (sym (append_assoc before raw behind)) (behind_low m behind more) in
    subst (LiesIn text) (sym (is ∙ ap (λ (n : ℕ). span inside n) (sym long))) lies
leaf_lies {text} utf8 s (grammar.platform inside raw value call spelled names is) =
    subst (LiesIn text) (sym is) (argument_lies utf8 s raw [] call (sym (append-nil raw)) (blanks_low no_blank))
leaf_lies {text} utf8 s (grammar.default inside white call are is) = subst (LiesIn text) (sym is) (call_lies utf8 s 100 (codes "efault") (omega arith) refl call)
leaf_lies utf8 s (grammar.all inside white call are) = tt
leaf_lies utf8 s (grammar.none inside white call are) = tt

-- ---- trees

mutual
  basic_lies : {text t : List ℕ} {at : ℕ} {e : Tree SourceSpan} → IsUtf8 text → StandsAt text t at → Basic t at e → All (LeafLiesIn text) (tree_leaves e)
  basic_lies {text} utf8 s (grammar.leaf {l = l} blanks own b leaf is) =
      All-cons (LeafLiesIn text) l [] (leaf_lies utf8 (end_part blanks own _ s is refl) leaf) (All-nil (LeafLiesIn text))
  basic_lies utf8 s (grammar.negation {op = op} blanks own b ends inner is) =
      basic_lies utf8 (end_part (blanks ++ not_text op) own _ s (is ∙ sym (append_assoc blanks (not_text op) own)) (omega (arith, length-append blanks (not_text op)))) inner
  basic_lies utf8 s (grammar.parens blanks own behind b inner c is) =
      or_lies utf8 (part (blanks ++ (40 ∷ [])) own (behind ++ codes ")") _ s (is ∙ sym (append_assoc blanks (40 ∷ []) (own ++ (behind ++ codes ")")))) (omega (arith, length-append blanks (40 ∷ [])))) inner

  and_lies : {text t : List ℕ} {at : ℕ} {e : Tree SourceSpan} → IsUtf8 text → StandsAt text t at → AndLevel t at e → All (LeafLiesIn text) (tree_leaves e)
  and_lies utf8 s (grammar.one first) = basic_lies utf8 s first
  and_lies {text} utf8 s (grammar.join {op = op} {l = l} {r = r} left blanks right first b ends second is) =
      All-append (LeafLiesIn text) (tree_leaves l) (tree_leaves r)
      (and_lies utf8 (left_part left (blanks ++ (join_text op ++ right)) s is) first)
      (basic_lies utf8 (right_part left blanks (join_text op) right s is) second)

  or_lies : {text t : List ℕ} {at : ℕ} {e : Tree SourceSpan} → IsUtf8 text → StandsAt text t at → OrLevel t at e → All (LeafLiesIn text) (tree_leaves e)
  or_lies utf8 s (grammar.one_and first) = and_lies utf8 s first
  or_lies {text} utf8 s (grammar.union {op = op} {l = l} {r = r} left blanks right first b ends second is) =
      All-append (LeafLiesIn text) (tree_leaves l) (tree_leaves r)
      (or_lies utf8 (left_part left (blanks ++ (or_text op ++ right)) s is) first)
      (and_lies utf8 (right_part left blanks (or_text op) right s is) second)

-- each leaf of a tree that a text spells
pub leaves_lie : (text : List ℕ) (e : Tree SourceSpan) → IsUtf8 text → Spells text e → All (LeafLiesIn text) (tree_leaves e)
leaves_lie text e utf8 spells = or_lies utf8 (record { front = []; behind = spells.behind; parts = spells.whole; offset = refl }) spells.expression
