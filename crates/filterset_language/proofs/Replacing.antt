-- The pattern of a body: each `\/` replaced by `/`.
use Rattle.std.proofs.Common.{◌≡◌, ◌≢◌, ℕ, zero, suc, ◌+◌, ◌<◌, ◌≤◌, Bool, true, false, cond, eqb, List, [], ◌∷◌, ◌++◌, length, take, drop, Bor, refl, sym, ap, ◌∙◌, arith, ⊎_elim}
use Rattle.std.specs.{Prelude.◌&&◌, Str.Pattern.FindsText, Str.Replace.ReplacesMatches}
use Rattle.std.proofs.{Math.Seq.drop-nil, lemmas.Bool.eqb-true}
use Rattle.filterset_grammar.specs.Text.{with_slashes}

-- an escaped slash stands at the front
front_is : (b c : ℕ) (t : List ℕ) → (eqb b 92 && eqb c 47) ≡ true → b ∷ c ∷ t ≡ 92 ∷ 47 ∷ t
front_is b c t e = from (eqb b 92) (eqb c 47) refl refl e
  where
    from : (v w : Bool) → eqb b 92 ≡ v → eqb c 47 ≡ w → (v && w) ≡ true → b ∷ c ∷ t ≡ 92 ∷ 47 ∷ t
    from true true h i e = ap (λ (x : ℕ). x ∷ c ∷ t) (eqb-true b 92 h) ∙ ap (λ (x : ℕ). 92 ∷ x ∷ t) (eqb-true c 47 i)
    from true false h i e = absurd cc
    from false w h i e = absurd cc

-- a text without one stands for itself
none_replaced : (s : List ℕ) → ((i : ℕ) → i ≤ length s → (rest : List ℕ) → drop i s ≢ 92 ∷ 47 ∷ rest) → with_slashes s ≡ s
none_replaced [] h = refl
none_replaced (b ∷ []) h = refl
none_replaced (b ∷ c ∷ t) h = from (eqb b 92 && eqb c 47) refl (none_replaced (c ∷ t) (λ i le rest. h (suc i) (omega arith) rest))
  where
    from : (v : Bool) → (eqb b 92 && eqb c 47) ≡ v → with_slashes (c ∷ t) ≡ c ∷ t → cond v (47 ∷ with_slashes t) (b ∷ with_slashes (c ∷ t)) ≡ b ∷ c ∷ t
    from true e on = absurd (h zero (omega arith) t (front_is b c t e))
    from false e on = ap (λ (x : List ℕ). b ∷ x) on

-- the first one, and what stands after it
first_replaced : (a : ℕ) (s tail : List ℕ) → ((i : ℕ) → i < a → (rest : List ℕ) → drop i s ≢ 92 ∷ 47 ∷ rest) → drop a s ≡ 92 ∷ 47 ∷ tail → with_slashes s ≡ take a s ++ (47 ∷ with_slashes tail)
first_replaced zero s tail h e = ap with_slashes e
first_replaced (suc a) [] tail h e = absurd cc
first_replaced (suc a) (b ∷ []) tail h e = absurd (let f : [] ≡ 92 ∷ 47 ∷ tail = sym (drop-nil a) ∙ e in cc)
first_replaced (suc a) (b ∷ c ∷ t) tail h e = from (eqb b 92 && eqb c 47) refl (first_replaced a (c ∷ t) tail (λ k lt rest. h (suc k) (omega arith) rest) e)
  where
    from : (v : Bool) → (eqb b 92 && eqb c 47) ≡ v → with_slashes (c ∷ t) ≡ take a (c ∷ t) ++ (47 ∷ with_slashes tail) → cond v (47 ∷ with_slashes t) (b ∷ with_slashes (c ∷ t)) ≡ b ∷ (take a (c ∷ t) ++ (47 ∷ with_slashes tail))
    from true i on = absurd (h zero (omega arith) t (front_is b c t i))
    from false i on = ap (λ (x : List ℕ). b ∷ x) on

-- what `replace` gives
pub all_replaced : (n : ℕ) (p : Bor (List ℕ)) (s out : List ℕ) → p.now ≡ 92 ∷ 47 ∷ []
    → ReplacesMatches (λ (x : Bor (List ℕ)). FindsText x.now) (λ (x y : Bor (List ℕ)). y.now ≡ x.now) (47 ∷ []) n p s out → out ≡ with_slashes s
all_replaced zero p s out is h =
    h.1 ∙ sym (none_replaced s (λ i le rest e. h.0 i le rest (e ∙ ap (λ (x : List ℕ). x ++ rest) (sym is))))
all_replaced (suc n) p s out is h =
    let a = h.0 in
    let b = h.1 in
    let has = h.4.1 in
    let two : length p.now ≡ 2 = ap length is in
    let behind : b ≡ a + 2 = let e = has.ends in omega arith in
    let tail : drop a s ≡ 92 ∷ 47 ∷ drop b s = has.split ∙ ap (λ (x : List ℕ). x ++ drop b s) is in
    let first = first_replaced a s (drop b s) (λ i lt rest e. h.4.0 i lt rest (e ∙ ap (λ (x : List ℕ). x ++ rest) (sym is))) tail in
    let rest : h.3 ≡ with_slashes (drop b s) =
    ⊎_elim
    (λ on. all_replaced n h.2 (drop b s) h.3 (h.5 ∙ is) on.1)
    (λ none. absurd (let e = none.0 in omega arith))
    h.6
    in
    h.7 ∙ ap (λ (x : List ℕ). take a s ++ (47 ∷ x)) rest ∙ sym first
