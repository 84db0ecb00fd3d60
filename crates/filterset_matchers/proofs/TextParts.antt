-- A tree that was read for text matches whole characters alone.
use Rattle.std.proofs.Common.{◌≡◌, ◌≤◌, ℕ, [], true, map, refl, sym, ap, ◌∙◌, subst, true≢false}
use Rattle.regex_hir.specs.{Re.Re, Meaning.meaning, Meaning.node_meaning, Meaning.cat_all, Meaning.alt_all}
use Rattle.regex_hir.specs.declared.hir.Hir.{Hir, Empty, Literal, Bytes, Chars, Look, Repetition', Capture', Concat', Alternation', Row_of-Hir, end_of-Hir, more_of-Hir, items-the_row-Hir, items_shown-the_row-Hir-0, map-Hir, fold_out-Hir}
use Rattle.regex_hir.specs.declared.hir.Hir.TheVariants.{outs-Concat', outs-Alternation'}
use Rattle.regex_hir.proofs.MeaningLemmas.{meaning-Empty, meaning-Literal, meaning-Bytes, meaning-Chars, meaning-Look, meaning-Repetition, meaning-Capture}
use Rattle.regex_syntax.specs.WellFormed.{IsWellFormed, AreWellFormed}
use Rattle.regex.specs.{Patterns.in_ranges, Writes.HasTextParts}
use Rattle.regex.proofs.WritesLemmas.{HasTextParts-repeat}

-- no byte lies in no range
no_byte : (b : ℕ) → in_ranges [] b ≡ true → b ≤ 0x7F
unfolding in_ranges
no_byte b member = absurd (true≢false (sym member))

mutual
  pub HasTextParts-of_tree : (h : Hir) → IsWellFormed true h → HasTextParts (meaning h)
  HasTextParts-of_tree Empty formed = rw meaning-Empty tt
  HasTextParts-of_tree (Literal bs) formed = rw meaning-Literal (formed refl)
  HasTextParts-of_tree (Bytes class) formed = rw meaning-Bytes (λ b member. formed b member)
  HasTextParts-of_tree (Chars class) formed = rw meaning-Chars tt
  HasTextParts-of_tree (Look l) formed = rw meaning-Look tt
  HasTextParts-of_tree (Repetition' least most greedy place sub) formed =
      subst HasTextParts (sym (meaning-Repetition least most greedy (record { ptr = place.ptr; alloc = place.alloc; value = sub })))
      (HasTextParts-repeat least most greedy _ (HasTextParts-of_tree sub formed.1))
  HasTextParts-of_tree (Capture' index place sub) formed =
      subst HasTextParts (sym (meaning-Capture index (record { ptr = place.ptr; alloc = place.alloc; value = sub }))) (HasTextParts-of_tree sub formed)
  HasTextParts-of_tree (Concat' shape subs) formed =
      subst HasTextParts (sym (fold_out-Hir Re node_meaning _ ∙ ap (λ x. node_meaning (map-Hir Hir Re meaning x)) (outs-Concat' shape subs)
      ∙ ap (λ l. cat_all (map meaning l)) (items_shown-the_row-Hir-0 shape subs))) (HasTextParts-of_row _ subs formed).0
  HasTextParts-of_tree (Alternation' shape subs) formed =
      subst HasTextParts (sym (fold_out-Hir Re node_meaning _ ∙ ap (λ x. node_meaning (map-Hir Hir Re meaning x)) (outs-Alternation' shape subs)
      ∙ ap (λ l. alt_all (map meaning l)) (items_shown-the_row-Hir-0 shape subs))) (HasTextParts-of_row _ subs formed).1

  HasTextParts-of_row : (n : _) (row : Row_of-Hir n) → AreWellFormed true row →
      HasTextParts (cat_all (map meaning (items-the_row-Hir n row))) × HasTextParts (alt_all (map meaning (items-the_row-Hir n row)))
  HasTextParts-of_row n end_of-Hir formed = (tt, no_byte)
  HasTextParts-of_row n (more_of-Hir sub rest) formed =
      let others = HasTextParts-of_row _ rest formed.1 in ((HasTextParts-of_tree sub formed.0, others.0), (HasTextParts-of_tree sub formed.0, others.1))
