-- What is left of a parse where its faults are dropped beside a tree.
use Rattle.std.proofs.Common.{◌≡◌, ℕ, List, [], ◌∷◌, length, Some, None, ◌⊎◌, inl, inr, ⊎_elim, refl, sym, ap, ◌∙◌, subst, arith}
use Rattle.std.specs.{Prelude.All, Option.option_map}
use Rattle.filterset_faults.specs.declared.{error.ParseSingleError.ParseSingleError, span.SourceSpan.SourceSpan}
use Rattle.filterset_grammar.specs.{Tree.Tree, Grammar.Spells}
use Rattle.filterset_language.specs.{Views.tree_of, Faults.FaultStands}
use Rattle.filterset_language.specs.Parsed.{Reads, Comes, HasRefusedBodies, IsUnreadWith, SpellsNothing}
use Rattle.filterset_language.specs.declared.{parsing.parse.Parsed.Parsed, tree.ParsedExpr.ParsedExpr}
use Rattle.filterset_language.proofs.StepsTakeText.{is_some}

module _ (text : List ℕ) (p : Parsed)
    (clean : p.faults.items ≡ [] → (e : Tree SourceSpan) × Comes p e × Reads text e)
    (spelled : (e : Tree SourceSpan) → Spells text e → (Comes p e × (p.faults.items ≡ [])) ⊎ HasRefusedBodies text e p) where
  -- a tree that comes is the one that is spelled, where one is
  pub lenient_spelled : (t : ParsedExpr SourceSpan) → p.tree ≡ Some t → (e : Tree SourceSpan) → Spells text e → tree_of t ≡ e
  lenient_spelled t is e spells =
      ⊎_elim
      (λ a. is_some (tree_of t) e (ap (option_map tree_of) (sym is) ∙ a.0))
      (λ b. let nothing : None ≡ Some t = sym b.no_tree ∙ is in absurd cc)
      (spelled e spells)

  pub lenient_tree : (t : ParsedExpr SourceSpan) → p.tree ≡ Some t → Reads text (tree_of t) ⊎ SpellsNothing text
  lenient_tree t is = from p.faults.items refl
    where
      from : (faults : List ParseSingleError) → p.faults.items ≡ faults → Reads text (tree_of t) ⊎ SpellsNothing text
      from [] none =
          let c = clean none in
          let same : tree_of t ≡ c.0 = is_some (tree_of t) c.0 (ap (option_map tree_of) (sym is) ∙ c.1) in
          inl (subst (Reads text) (sym same) c.2)
      from (x ∷ faults) some = inr (λ e spells.
          ⊎_elim
          (λ a. let n : length (x ∷ faults) ≡ 0 = ap length (sym some ∙ a.1) in absurd (omega arith))
          (λ b. let nothing : None ≡ Some t = sym b.no_tree ∙ is in absurd cc)
          (spelled e spells))

  -- without a tree there are faults
  pub lenient_stop : p.tree ≡ None → All (FaultStands text) p.faults.items → IsUnreadWith text p.faults.items
  lenient_stop is stand = record {
    some = λ none. let c = clean none in let nothing : None ≡ Some c.0 = ap (option_map tree_of) (sym is) ∙ c.1 in absurd cc;
    stand = stand;
    bodies = λ e spells.
        ⊎_elim
        (λ a. let nothing : None ≡ Some e = ap (option_map tree_of) (sym is) ∙ a.0 in absurd cc)
        (λ b. b.bodies)
        (spelled e spells);
  }
