-- The texts that single tokens match, and the sequences that they are expanded to.
use Rattle.std.proofs.Common.{◌≡◌, ◌↔◌, ◌∙◌, ◌≤◌, ◌++◌, ◌⊎◌, ⊎_elim, ℕ, List, [], ◌∷◌, Bool, false, true, ap, arith, inl, inr, refl, subst, sym, rules}
use Rattle.std.proofs.lemmas.List.{append-nil}
use Rattle.std.specs.declared.{vec.Vec.Vec, alloc.Global.Global}
use Rattle.filterset_glob.specs.Matching.{EndsInSlash, InClass, InRanges, MatchesToken, slash}
use Rattle.filterset_glob.specs.Tokens.{any_char, class, deep_first, deep_last, deep_mid, literal, star}
use Rattle.filterset_texts.specs.{Cuts.HoldTogether, Parts.Fits, Parts.FitsSome, declared.part.Part.Part}
use Rattle.filterset_texts.proofs.Sequences.{any_cons, any_none, fits_append, some_of_one}
use Rattle.filterset_texts.specs.declared.part.Part.TheVariants as part

-- the range from a character to itself
in_own_range : (c d : ℕ) → InRanges ((c, c) ∷ []) d ↔ (d ≡ c)
in_own_range c d = search (rules, arith, any_cons, any_none)

-- the one character of a range from it to itself
pub literal_fits : (ranges : Vec (ℕ × ℕ) Global) (c : ℕ) → ranges.items ≡ (c, c) ∷ [] → HoldTogether (Fits (part.One false ranges ∷ [])) (λ text. text ≡ c ∷ [])
literal_fits ranges c are text = (
  λ (h : Fits (part.One false ranges ∷ []) text).
      h.2 ∙ ap (λ z. h.0 ∷ z) h.4 ∙ ap (λ z. z ∷ []) ((in_own_range c h.0).0 (subst (λ (r : List (ℕ × ℕ)). InRanges r h.0) are h.3)),
  λ is. (c, [], is, subst (λ (r : List (ℕ × ℕ)). InRanges r c) (sym are) ((in_own_range c c).1 refl), refl),
)

some_of_two : (one other : Vec Part Global) (parts others : List Part) → one.items ≡ parts → other.items ≡ others
    → HoldTogether (FitsSome (one ∷ other ∷ [])) (λ text. Fits parts text ⊎ Fits others text)
some_of_two one other parts others are were text =
    let F = λ (xs : List Part). Fits xs text in
    let all = any_cons (λ (s : Vec Part Global). Fits s.items text) one (other ∷ []) in
    let last = some_of_one other others were text in (
      λ h. ⊎_elim (λ f. inl (subst F are f)) (λ f. inr (last.0 f)) (all.0 h),
      ⊎_elim (λ f. all.1 (inl (subst F (sym are) f))) (λ f. all.1 (inr (last.1 f))),
    )

-- the part matches a slash alone
abbrev pub IsSlash : Part → Type 0
IsSlash one = HoldTogether (Fits (one ∷ [])) (λ text. text ≡ slash ∷ [])

-- any text, and a slash
behind_fits : (last : Part) → IsSlash last → HoldTogether (Fits (part.Any ∷ last ∷ [])) EndsInSlash
behind_fits last is text = search (rules, arith)

-- a slash, and what more parts match
ahead_fits : (first : Part) (parts : List Part) → IsSlash first → HoldTogether (Fits (first ∷ parts)) (λ text. (rest : List ℕ) × (text ≡ slash ∷ rest) × Fits parts rest)
ahead_fits first parts is text =
    let cut = fits_append (first ∷ []) parts text in (
      λ f. let h = cut.0 f in (h.1, h.2 ∙ ap (λ z. z ++ h.1) ((is h.0).0 h.3), h.4),
      λ (h : (rest : List ℕ) × (text ≡ slash ∷ rest) × Fits parts rest). cut.1 (slash ∷ [], h.0, h.1, (is (slash ∷ [])).1 refl, h.2),
    )

pub first_run_fits : (empty behind : Vec Part Global) (last : Part) → empty.items ≡ [] → behind.items ≡ part.Any ∷ last ∷ [] → IsSlash last
    → HoldTogether (FitsSome (empty ∷ behind ∷ [])) (MatchesToken deep_first)
first_run_fits empty behind last none are is text =
    let both = some_of_two empty behind [] (part.Any ∷ last ∷ []) none are text in
    let more = behind_fits last is text in (
      λ h. ⊎_elim (λ e. inl e) (λ f. inr (more.0 f)) (both.0 h),
      ⊎_elim (λ e. both.1 (inl e)) (λ f. both.1 (inr (more.1 f))),
    )

pub middle_run_fits : (alone between : Vec Part Global) (one first last : Part) → alone.items ≡ one ∷ [] → between.items ≡ first ∷ part.Any ∷ last ∷ []
    → IsSlash one → IsSlash first → IsSlash last → HoldTogether (FitsSome (alone ∷ between ∷ [])) (MatchesToken deep_mid)
middle_run_fits alone between one first last is_one are is begins ends text =
    let both = some_of_two alone between (one ∷ []) (first ∷ part.Any ∷ last ∷ []) is_one are text in
    let more = ahead_fits first (part.Any ∷ last ∷ []) begins text in (
      λ h. ⊎_elim (λ e. inl ((is text).0 e)) (λ f. let b = more.0 f in inr (b.0, b.1, (behind_fits last ends b.0).0 b.2)) (both.0 h),
      ⊎_elim (λ e. both.1 (inl ((is text).1 e)))
          (λ (b : (rest : List ℕ) × (text ≡ slash ∷ rest) × EndsInSlash rest). both.1 (inr (more.1 (b.0, b.1, (behind_fits last ends b.0).1 b.2)))),
    )

pub last_run_fits : (sequence : Vec Part Global) (first : Part) → sequence.items ≡ first ∷ part.Any ∷ [] → IsSlash first
    → HoldTogether (FitsSome (sequence ∷ [])) (MatchesToken deep_last)
last_run_fits sequence first are begins text =
    let one = some_of_one sequence (first ∷ part.Any ∷ []) are text in
    let more = ahead_fits first (part.Any ∷ []) begins text in (
      λ h. let b = more.0 (one.0 h) in (b.0, b.1),
      λ (b : (rest : List ℕ) × (text ≡ slash ∷ rest)). one.1 (more.1 (b.0, b.1, (b.0, [], sym (append-nil b.0), refl))),
    )

pub literal_matches : (c : ℕ) → HoldTogether (λ text. text ≡ c ∷ []) (MatchesToken (literal c))
literal_matches c text = (λ is. (c, is, refl), λ (one : MatchesToken (literal c) text). one.1 ∙ ap (λ d. d ∷ []) one.2)

pub star_fits : HoldTogether (Fits (part.Any ∷ [])) (MatchesToken star)
star_fits text = (λ f. tt, λ any. (text, [], sym (append-nil text), refl))

pub class_fits : (negated : Bool) (ranges : Vec (ℕ × ℕ) Global) (own : List (ℕ × ℕ)) → ranges.items ≡ own → HoldTogether (Fits (part.One negated ranges ∷ [])) (MatchesToken (class negated own))
class_fits negated ranges own are text = search (rules, arith)

-- no ranges: each character is in none
pub any_char_fits : (ranges : Vec (ℕ × ℕ) Global) → ranges.items ≡ [] → HoldTogether (Fits (part.One true ranges ∷ [])) (MatchesToken any_char)
any_char_fits ranges none text = search (rules, arith, class_fits, any_none)
