-- Runs of tokens: what the first of them match, and then the rest.
use Rattle.std.proofs.Common.{◌≡◌, ℕ, zero, suc, ◌+◌, ◌*◌, ◌<◌, ◌≤◌, ◌⊎◌, ◌↔◌, Bool, true, List, [], ◌∷◌, ◌++◌, length, slice_index, get_or, take, drop, refl, sym, ap, subst, ◌∙◌, append_assoc, arith, length-append, length-drop, length-take}
use Rattle.std.proofs.lemmas.List.{take-append-drop, take-append-le, take_all, drop-drop, drop-take, drop_all}
use Rattle.filterset_glob.specs.{declared.token.GlobBranch.GlobBranch, declared.token.GlobToken.GlobToken, Positions.Holds, Positions.Moves, Grammar.◌⊕◌, Reading.followed_by}
use Rattle.filterset_glob.specs.Matching.{Admits, TakesOne, OneAdmitted, Matches, MatchesSome, MatchesToken, node_count, token_node_count, branches_node_count}
use Rattle.filterset_glob.specs.Tokens.{Token, is_star, literal, any_char, star, class, alternates, deep_first, deep_mid, deep_last, Tokens, no_token, next_token, Branches, branches_of, token_of, tokens_of, tokens_of_branch}
use Rattle.filterset_glob.proofs.{Items.drop_item, Items.take_item, Opened.branches_of-push, Opened.tokens_of-append}
use Rattle.filterset_glob.proofs.Passing.{Then, moves_then, moves_done, moves_as, moves_over, moves_joined, counted_on, counted_word, counted_all}

pub one_matched : (token : Token) → TakesOne token → (t : List ℕ) → (MatchesToken token t → OneAdmitted token t) × (OneAdmitted token t → MatchesToken token t)
one_matched (literal d) one t = (λ m. m, λ m. m)
one_matched any_char one t = (λ m. m, λ m. m)
one_matched star one t = absurd one
one_matched (class negated ranges) one t = (λ m. m, λ m. m)
one_matched (alternates branches) one t = absurd one
one_matched deep_first one t = absurd one
one_matched deep_mid one t = absurd one
one_matched deep_last one t = absurd one

pub admits_one : (token : Token) (c : ℕ) → Admits token c → TakesOne token
admits_one (literal d) c a = tt
admits_one any_char c a = tt
admits_one star c a = absurd a
admits_one (class negated ranges) c a = tt
admits_one (alternates branches) c a = absurd a
admits_one deep_first c a = absurd a
admits_one deep_mid c a = absurd a
admits_one deep_last c a = absurd a

pub moves_one : (token : Token) (text : List ℕ) (p q : List Bool) → TakesOne token → Moves (OneAdmitted token) text p q → Moves (MatchesToken token) text p q
moves_one token text p q one = moves_as text p q (λ t m. (one_matched token one t).1 m) (λ t m. (one_matched token one t).0 m)

-- ---- some tokens, and then others

matches_both : (front back : Tokens) (t u : List ℕ) → Matches front t → Matches back u → Matches (front ⊕ back) (t ++ u)
matches_both no_token back t u none m = subst (λ x. Matches back (x ++ u)) (sym none) m
matches_both (next_token a more) back t u (p, r, is, m, ms) m' = (p, r ++ u, ap (λ x. x ++ u) is ∙ append_assoc p r u, m, matches_both more back r u ms m')

matches_parts : (front back : Tokens) (t : List ℕ) → Matches (front ⊕ back) t → Then (Matches front) (Matches back) t
matches_parts no_token back t m = ([], t, refl, refl, m)
matches_parts (next_token a more) back t (p, r, is, m, ms) =
    let (p', r', is', m1, m2) = matches_parts more back r ms in
    (p ++ p', r', is ∙ ap (λ x. p ++ x) is' ∙ sym (append_assoc p p' r'), (p, p', refl, m, m1), m2)

-- the first so many of the tokens, and then the others
pub moves_over_some : (tokens : List GlobToken) (n : ℕ) (text : List ℕ) (p q r : List Bool) → Moves (Matches (tokens_of (take n tokens))) text p q → Moves (Matches (tokens_of (drop n tokens))) text q r → Moves (Matches (tokens_of tokens)) text p r
moves_over_some tokens n text p q r first second =
    let front = tokens_of (take n tokens) in let back = tokens_of (drop n tokens) in
    let whole : front ⊕ back ≡ tokens_of tokens = sym (tokens_of-append (take n tokens) (drop n tokens)) ∙ ap tokens_of (take-append-drop n tokens) in
    subst (λ (ts : Tokens). Moves (Matches ts) text p r) whole
    (moves_as text p r (λ t (piece, rest, is, m, ms). subst (Matches (front ⊕ back)) (sym is) (matches_both front back piece rest m ms)) (λ t m. matches_parts front back t m) (moves_then text p q r first second))

nodes_of_one : (token : Token) → 1 ≤ token_node_count token
nodes_of_one (literal d) = omega arith
nodes_of_one any_char = omega arith
nodes_of_one star = omega arith
nodes_of_one (class negated ranges) = omega arith
nodes_of_one (alternates branches) = omega arith
nodes_of_one deep_first = omega arith
nodes_of_one deep_mid = omega arith
nodes_of_one deep_last = omega arith

nodes_behind : (tokens : List GlobToken) (n : ℕ) → node_count (tokens_of (drop n tokens)) ≤ node_count (tokens_of tokens)
nodes_behind [] zero = omega arith
nodes_behind [] (suc n) = omega arith
nodes_behind (x ∷ xs) zero = omega arith
nodes_behind (x ∷ xs) (suc n) = omega (arith, nodes_behind xs n)

-- after one token or more there are fewer nodes
pub fewer_nodes : (tokens : List GlobToken) (n : ℕ) → 0 < n → 0 < length tokens → node_count (tokens_of (drop n tokens)) + 1 ≤ node_count (tokens_of tokens)
fewer_nodes [] n some within = absurd (omega arith)
fewer_nodes (x ∷ xs) zero some within = absurd (omega arith)
fewer_nodes (x ∷ xs) (suc n) some within = omega (arith, nodes_behind xs n, nodes_of_one (token_of x))

-- ---- tokens that take one character each

pub first_of_some : {X : Type 0} → (xs : List X) → 0 < length xs → (x : X) × (take 1 xs ≡ x ∷ [])
first_of_some [] some = absurd (omega (arith, some))
first_of_some (x ∷ xs) some = (x, refl)

-- one token more
pub run_more : (tokens : List GlobToken) (k : ℕ) (x : GlobToken) (t : List ℕ) (c : ℕ) → k < length tokens → x ≡ get_or tokens k x → Admits (token_of x) c → Matches (tokens_of (take k tokens)) t → Matches (tokens_of (take (k + 1) tokens)) (t ++ c ∷ [])
run_more tokens k x t c h is a m =
    let whole : tokens_of (take (k + 1) tokens) ≡ tokens_of (take k tokens) ⊕ next_token (token_of x) no_token = ap tokens_of (take_item tokens k x h is) ∙ tokens_of-append (take k tokens) (x ∷ []) in
    subst (λ (ts : Tokens). Matches ts (t ++ c ∷ [])) (sym whole)
    (matches_both (tokens_of (take k tokens)) (next_token (token_of x) no_token) t (c ∷ []) m (c ∷ [], [], refl, (one_matched (token_of x) (admits_one (token_of x) c a) (c ∷ [])).1 (c, refl, a), refl))

pub run_each : (tokens : List GlobToken) (k : ℕ) (x : GlobToken) (c : ℕ) → k < length tokens → x ≡ get_or tokens k x → Admits (token_of x) c → ((piece : List ℕ) → Matches (tokens_of (take k tokens)) piece → length piece ≡ k) → (piece : List ℕ) → Matches (tokens_of (take (k + 1) tokens)) piece → length piece ≡ k + 1
run_each tokens k x c h is a each piece m =
    let whole : tokens_of (take (k + 1) tokens) ≡ tokens_of (take k tokens) ⊕ next_token (token_of x) no_token = ap tokens_of (take_item tokens k x h is) ∙ tokens_of-append (take k tokens) (x ∷ []) in
    let (p, r, cut, m1, (p2, r2, cut2, m2, none)) = matches_parts (tokens_of (take k tokens)) (next_token (token_of x) no_token) piece (subst (λ (ts : Tokens). Matches ts piece) whole m) in
    let (d, one, _) = (one_matched (token_of x) (admits_one (token_of x) c a) p2).0 m2 in
    omega (arith, ap length cut, length-append p r, each p m1, ap length cut2, length-append p2 r2, ap length one, ap length none)

-- a position alone, over tokens that match the characters after it, and nothing of another length
pub moves_alone : (tokens : Tokens) (text : List ℕ) (p q : List Bool) (at n : ℕ) →
    ((i : ℕ) → Holds p i → i ≡ at) → Holds p at → ((i : ℕ) → Holds q i → i ≡ at + n) → Holds q (at + n) →
    Matches tokens (take n (drop at text)) → ((piece : List ℕ) → Matches tokens piece → length piece ≡ n) → Moves (Matches tokens) text p q
moves_alone tokens text p q at n only_p held_p only_q held_q m each = record {
  reached = λ front back cut here.
      let long : length front ≡ at + n = only_q (length front) here in
      let start_long : length (take at front) ≡ at = omega (arith, length-take at front) in
      let whole : take (at + n) text ≡ front = ap (take (at + n)) cut ∙ take-append-le (at + n) front back (omega arith) ∙ take_all (at + n) front (omega arith) in
      let piece_is : take n (drop at text) ≡ drop at front = sym (drop-take at n text) ∙ ap (drop at) whole in
      (take at front, drop at front, sym (take-append-drop at front), subst (Holds p) (sym start_long) held_p, subst (Matches tokens) piece_is m);
  reaches = λ start piece back cut here t.
      let long : length (start ++ piece) ≡ at + n = omega (arith, length-append start piece, only_p (length start) here, each piece t) in
      subst (Holds q) (sym long) held_q;
}

-- the count of some tokens, which is at most twice the positions, moves into the sum
pub counted_some : (a b k all m : ℕ) → b ≤ a + 2 * m → k + 1 ≤ all → b + 2 * k * m ≤ a + 2 * all * m
counted_some a b k all m step fewer = grind (arith, step, fewer)

-- a position alone, whose next character the token does not take
pub moves_stopped : (token : Token) (text : List ℕ) (p q : List Bool) (at : ℕ) → TakesOne token → ((i : ℕ) → Holds p i → i ≡ at) → ¬ Admits token (slice_index text at) → ((i : ℕ) → ¬ Holds q i) → Moves (Matches (next_token token no_token)) text p q
moves_stopped token text p q at one only stopped none =
    moves_then text p q q
    (moves_one token text p q one (moves_over token text p q (none 0) (λ i inside h. absurd (none (i + 1) h)) (λ i inside h a. absurd (stopped (subst (λ (k : ℕ). Admits token (slice_index text k)) (only i h) a)))))
    (moves_done text q)

pub star_of : (token : Token) → is_star token ≡ true → token ≡ star
star_of (literal d) e = cc
star_of any_char e = cc
star_of star e = refl
star_of (class negated ranges) e = cc
star_of (alternates branches) e = cc
star_of deep_first e = cc
star_of deep_mid e = cc
star_of deep_last e = cc

-- ---- the loops of the matcher

-- whatever the tokens from this one on make of the positions, all make of the first ones, and the steps that are left
pub record Passed (tokens : List GlobToken) (text : List ℕ) (start : List Bool) (a at : ℕ) (p : List Bool) (b : ℕ) : Type 0 where
  pub moved : (r : List Bool) → Moves (Matches (tokens_of (drop at tokens))) text p r → Moves (Matches (tokens_of tokens)) text start r
  pub counted : b + 2 * node_count (tokens_of (drop at tokens)) * (length text + 1) ≤ a + 2 * node_count (tokens_of tokens) * (length text + 1)

pub passed_one : (tokens : List GlobToken) (text : List ℕ) (start p q : List Bool) (a b c at : ℕ) (x : GlobToken) → Passed tokens text start a at p b → at < length tokens → x ≡ get_or tokens at x →
    Moves (MatchesToken (token_of x)) text p q → c ≤ b + 2 * token_node_count (token_of x) * (length text + 1) → Passed tokens text start a (at + 1) q c
passed_one tokens text start p q a b c at x so_far within is over cost =
    let here = drop_item tokens at x within is in record {
      moved = λ r last. so_far.moved r (subst (λ (l : List GlobToken). Moves (Matches (tokens_of l)) text p r) (sym here) (moves_then text p q r over last));
      counted = counted_on a b c (token_node_count (token_of x)) (node_count (tokens_of (drop (at + 1) tokens))) (node_count (tokens_of tokens)) (length text + 1)
          (subst (λ (l : List GlobToken). b + 2 * node_count (tokens_of l) * (length text + 1) ≤ a + 2 * node_count (tokens_of tokens) * (length text + 1)) here so_far.counted) cost;
    }

pub passed_some : (tokens : List GlobToken) (text : List ℕ) (start p q : List Bool) (a b c at n : ℕ) → Passed tokens text start a at p b → at < length tokens → 0 < n →
    Moves (Matches (tokens_of (take n (drop at tokens)))) text p q → c ≤ b + 2 * (length text + 1) → Passed tokens text start a (at + n) q c
passed_some tokens text start p q a b c at n so_far within some over cost =
    let on = drop-drop n at tokens in
    let fewer = fewer_nodes (drop at tokens) n some (omega (arith, length-drop at tokens)) in record {
      moved = λ r last. so_far.moved r (moves_over_some (drop at tokens) n text p q r over (subst (λ (l : List GlobToken). Moves (Matches (tokens_of l)) text q r) (sym on) last));
      counted =
          let step = counted_some b c (node_count (tokens_of (drop (at + n) tokens))) (node_count (tokens_of (drop at tokens))) (length text + 1) cost (subst (λ (l : List GlobToken). node_count (tokens_of l) + 1 ≤ node_count (tokens_of (drop at tokens))) on fewer) in
          omega (arith, step, so_far.counted);
    }

pub passed_all : (tokens : List GlobToken) (text : List ℕ) (start p : List Bool) (a b at : ℕ) → Passed tokens text start a at p b → length tokens ≤ at → Moves (Matches (tokens_of tokens)) text start p
passed_all tokens text start p a b at so_far past =
    so_far.moved p (subst (λ (l : List GlobToken). Moves (Matches (tokens_of l)) text p p) (sym (drop_all at tokens past)) (moves_done text p))

-- two steps for each position are within the steps of one token
pub steps_of_one : (token : Token) (m : ℕ) → 2 * m ≤ 2 * token_node_count token * m
steps_of_one token m = grind (arith, nodes_of_one token)

-- the branches before this one lead to these positions, and the steps that are left
pub record Joined (branches : List GlobBranch) (text : List ℕ) (start : List Bool) (a at : ℕ) (q : List Bool) (b : ℕ) : Type 0 where
  pub moved : Moves (MatchesSome (branches_of (take at branches))) text start q
  pub counted : b + 2 * branches_node_count (branches_of (drop at branches)) * (length text + 1) ≤ a + 2 * branches_node_count (branches_of branches) * (length text + 1)

pub joined_more : (branches : List GlobBranch) (text : List ℕ) (start q r s : List Bool) (a b c at : ℕ) (x : GlobBranch) → Joined branches text start a at q b → at < length branches → x ≡ get_or branches at x →
    Moves (Matches (tokens_of_branch x)) text start r → ((i : ℕ) → Holds s i ↔ (Holds q i ⊎ Holds r i)) → c ≤ b + (length text + 1) + 2 * node_count (tokens_of_branch x) * (length text + 1) + (length text + 1) →
    Joined branches text start a (at + 1) s c
joined_more branches text start q r s a b c at x so_far within is over joins cost =
    let here = drop_item branches at x within is in
    let more : branches_of (take (at + 1) branches) ≡ followed_by (branches_of (take at branches)) (tokens_of_branch x) = ap branches_of (take_item branches at x within is) ∙ branches_of-push (take at branches) x in record {
      moved = subst (λ (bs : Branches). Moves (MatchesSome bs) text start s) (sym more) (moves_joined (branches_of (take at branches)) (tokens_of_branch x) text start q r s joins so_far.moved over);
      counted = counted_word a b c (node_count (tokens_of_branch x)) (branches_node_count (branches_of (drop (at + 1) branches))) (branches_node_count (branches_of branches)) (length text + 1)
          (subst (λ (l : List GlobBranch). b + 2 * branches_node_count (branches_of l) * (length text + 1) ≤ a + 2 * branches_node_count (branches_of branches) * (length text + 1)) here so_far.counted) cost;
    }

pub joined_all : (branches : List GlobBranch) (text : List ℕ) (start q : List Bool) (a b at : ℕ) → Joined branches text start a at q b → length branches ≤ at →
    Moves (MatchesSome (branches_of branches)) text start q × (b ≤ a + 2 * branches_node_count (branches_of branches) * (length text + 1))
joined_all branches text start q a b at so_far past = (
  subst (λ (l : List GlobBranch). Moves (MatchesSome (branches_of l)) text start q) (take_all at branches past) so_far.moved,
  let left = subst (λ (l : List GlobBranch). b + 2 * branches_node_count (branches_of l) * (length text + 1) ≤ a + 2 * branches_node_count (branches_of branches) * (length text + 1)) (drop_all at branches past) so_far.counted in
      counted_all a b (branches_node_count (branches_of branches)) (length text + 1) left,
)
