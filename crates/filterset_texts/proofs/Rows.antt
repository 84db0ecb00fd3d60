-- The sequences of tokens in a row, and of the branches of a group.
use Rattle.std.proofs.Common.{◌≡◌, ◌*◌, ◌≤◌, ◌++◌, ◌⊎◌, ⊎_elim, ℕ, List, [], ◌∷◌, arith, inl, inr, Result, IfOk}
use Rattle.std.proofs.{Math.Nat.mul-le-mul_left, lemmas.Result.IfOk-weaker}
use Rattle.std.specs.declared.{alloc.AllocError.AllocError, vec.Vec.Vec, alloc.Global.Global}
use Rattle.filterset_glob.specs.Matching.{Matches, MatchesSome, MatchesToken}
use Rattle.filterset_glob.specs.Tokens.{Token, Tokens, next_token, Branches, branch}
use Rattle.filterset_texts.specs.Cuts.{HoldInTurn, HoldTogether}
use Rattle.filterset_texts.specs.{Parts.Fits, Parts.FitsSome, declared.part.Part.Part}
use Rattle.filterset_texts.proofs.Cuts.{together_then, together_back, in_turn_both, in_turn_assoc, in_turn_nothing, nothing_in_turn}
use Rattle.filterset_texts.proofs.Sequences.{some_append, some_of_one}

-- sequences that hold together with one fact do so with another
pub made_so : (made : Result (Vec (Vec Part Global) Global) AllocError) (A B : List ℕ → Type 0) → HoldTogether A B
    → IfOk made (λ sequences. HoldTogether (FitsSome sequences.items) A) → IfOk made (λ sequences. HoldTogether (FitsSome sequences.items) B)
made_so made A B ab = IfOk-weaker made _ _ (λ sequences are. together_then (FitsSome sequences.items) A B are ab)

-- before the first token there is one empty sequence
pub row_begun : (empty : Vec Part Global) (A : List ℕ → Type 0) → empty.items ≡ [] → HoldTogether (HoldInTurn (FitsSome (empty ∷ [])) A) A
row_begun empty A is =
    let one = some_of_one empty [] is in
    together_then (HoldInTurn (FitsSome (empty ∷ [])) A) (HoldInTurn (Fits []) A) A (in_turn_both (FitsSome (empty ∷ [])) A (Fits []) A one (λ text. (λ a. a, λ a. a))) (together_back A (HoldInTurn (Fits []) A) (nothing_in_turn A))

-- a token more
pub row_more : (fronts backs joined : List (Vec Part Global)) (token : Token) (rest : Tokens) (All : List ℕ → Type 0)
    → HoldTogether (FitsSome backs) (MatchesToken token) → HoldTogether (FitsSome joined) (HoldInTurn (FitsSome fronts) (FitsSome backs))
    → HoldTogether (HoldInTurn (FitsSome fronts) (Matches (next_token token rest))) All → HoldTogether (HoldInTurn (FitsSome joined) (Matches rest)) All
row_more fronts backs joined token rest All own are so_far =
    let F = FitsSome fronts in let B = FitsSome backs in let M = Matches rest in
    let same : HoldTogether M M = λ text. (λ m. m, λ m. m) in
    together_then (HoldInTurn (FitsSome joined) M) (HoldInTurn (HoldInTurn F B) M) All (in_turn_both (FitsSome joined) M (HoldInTurn F B) M are same)
    (together_then (HoldInTurn (HoldInTurn F B) M) (HoldInTurn F (HoldInTurn B M)) All (in_turn_assoc F B M)
    (together_then (HoldInTurn F (HoldInTurn B M)) (HoldInTurn F (Matches (next_token token rest))) All
    (in_turn_both F (HoldInTurn B M) F (Matches (next_token token rest)) (λ text. (λ f. f, λ f. f)) (in_turn_both B M (MatchesToken token) M own same)) so_far))

pub row_done : (sequences : List (Vec Part Global)) (All : List ℕ → Type 0) → HoldTogether (HoldInTurn (FitsSome sequences) (λ text. text ≡ [])) All
    → HoldTogether (FitsSome sequences) All
row_done sequences All are =
    together_then (FitsSome sequences) (HoldInTurn (FitsSome sequences) (λ text. text ≡ [])) All (in_turn_nothing (FitsSome sequences)) are

pub count_more : (fronts backs joined own rest all : ℕ) → joined ≡ fronts * backs → backs ≤ own → fronts * (own * rest) ≤ all → joined * rest ≤ all
count_more fronts backs joined own rest all is few so_far =
    rw is (omega (arith, mul-le-mul_left (fronts * rest) few, so_far))

-- a branch more
pub group_more : (sequences more : List (Vec Part Global)) (tokens : Tokens) (rest : Branches) (All : List ℕ → Type 0)
    → HoldTogether (FitsSome more) (Matches tokens) → HoldTogether (λ text. FitsSome sequences text ⊎ MatchesSome (branch tokens rest) text) All
    → HoldTogether (λ text. FitsSome (sequences ++ more) text ⊎ MatchesSome rest text) All
group_more sequences more tokens rest All own so_far text =
    let both = some_append sequences more text in (
      ⊎_elim (λ s. ⊎_elim (λ old. (so_far text).0 (inl old)) (λ new. (so_far text).0 (inr (inl ((own text).0 new)))) (both.0 s)) (λ m. (so_far text).0 (inr (inr m))),
      λ a. ⊎_elim (λ old. inl (both.1 (inl old))) (⊎_elim (λ m. inl (both.1 (inr ((own text).1 m)))) (λ m. inr m)) ((so_far text).1 a),
    )
