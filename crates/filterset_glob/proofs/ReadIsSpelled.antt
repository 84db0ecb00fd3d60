-- Each text that is read as tokens is a glob of them: what completes an open state, from the end of the text to its start.
use Rattle.std.proofs.Common.{◌≡◌, ℕ, ◌==◌, ◌⊎◌, inl, inr, Bool, true, false, if◌then◌else◌, ◌||◌, nat_lt, List, [], ◌∷◌, ◌++◌, refl, sym, ap, subst, ◌∙◌, append_assoc, Ok, Err}
use Rattle.std.proofs.lemmas.Bool.{cond_both, eqb-true, eqb-false, ltb-false, or_cases, or_parts}
use Rattle.filterset_glob.specs.declared.fault.GlobConstructError.{GlobConstructError}
use Rattle.filterset_glob.specs.Tokens.{Token, literal, any_char, star, class, alternates, Tokens, no_token, next_token, Branches, no_more, branch}
use Rattle.filterset_glob.specs.Matching.{slash}
use Rattle.filterset_glob.specs.Grammar.{Sign, question, asterisk, bracket, brace, closing_brace, comma, separator, itself, sign_of, PairsText, no_pair, pair, LaterItems, no_item, last_dash, item, ItemsText, items, IsNegation, ClassText, plain_class, negated_class, ◌⊕◌, PieceText, one_character, one_question, one_asterisk, one_class, one_group, no_piece, piece, SegmentsText, one_segment, segment, BranchesText, one_branch, next_branch, GlobText, glob}
use Rattle.filterset_glob.specs.Reading.{Open, Group, Progress, opened, negation, in_item, behind_dash, State, outside, inside, is_grouped, fresh_branch, push, end_segment, whole_tokens, ◌⊞◌, with_branch, step_outside, step_inside, run, reading}
use Rattle.filterset_glob.proofs.SpelledIsRead.{tokens_behind, ⊕-nil, ⊕_assoc, ⊞_assoc, end_segment-tokens_behind, whole_tokens-tokens_behind, end_segment-empty}

-- what the rest of a class makes of the class so far
abbrev ClassRest : Bool → List (ℕ × ℕ) → Progress → List ℕ → Bool → List (ℕ × ℕ) → Type 0
ClassRest negated ranges opened t negated' all = (n : Bool) × (more : List (ℕ × ℕ)) × ClassText t n more × (negated' ≡ (if n then true else negated)) × (all ≡ ranges ++ more)
ClassRest negated ranges negation t negated' all = (more : List (ℕ × ℕ)) × ItemsText t more × (negated' ≡ negated) × (all ≡ ranges ++ more)
ClassRest negated ranges (in_item start end) t negated' all =
    (a : List ℕ) × (b : List ℕ) × (last : ℕ) × (more : List (ℕ × ℕ)) × (t ≡ a ++ b) × PairsText start end a last × LaterItems b more × (negated' ≡ negated) × (all ≡ ranges ++ (start, last) ∷ more)
ClassRest negated ranges (behind_dash start end) t negated' all =
    (a : List ℕ) × (b : List ℕ) × (last : ℕ) × (more : List (ℕ × ℕ)) × (45 ∷ t ≡ a ++ b) × PairsText start end a last × LaterItems b more × (negated' ≡ negated) × (all ≡ ranges ++ (start, last) ∷ more)

-- what the rest of a branch, and the branches after it, make of the branch so far
abbrev BranchesRest : Open → List ℕ → Branches → Type 0
BranchesRest b t branches =
    ((first : Tokens) × (more : List Tokens) × SegmentsText true t (first ∷ more) × (branches ≡ branch (b.tokens ⊕ tokens_behind b.before ((b.last ⊕ first) ∷ more)) no_more))
    ⊎ ((a : List ℕ) × (rest : List ℕ) × (first : Tokens) × (more : List Tokens) × (others : Branches) × (t ≡ a ++ 44 ∷ rest) × SegmentsText true a (first ∷ more) × BranchesText rest others × (branches ≡ branch (b.tokens ⊕ tokens_behind b.before ((b.last ⊕ first) ∷ more)) others))

-- the text makes tokens of the open groups and branch
abbrev Completes : List Group → Open → List ℕ → Tokens → Type 0
Completes [] b t tokens = (first : Tokens) × (more : List Tokens) × SegmentsText false t (first ∷ more) × (tokens ≡ b.tokens ⊕ tokens_behind b.before ((b.last ⊕ first) ∷ more))
Completes (group ∷ groups) b t tokens =
    (a : List ℕ) × (rest : List ℕ) × (branches : Branches) × (t ≡ a ++ 125 ∷ rest) × BranchesRest b a branches × Completes groups (push group.around (alternates (group.branches ⊞ branches))) rest tokens

abbrev CompletesState : State → List ℕ → Tokens → Type 0
CompletesState (outside groups b) t tokens = Completes groups b t tokens
CompletesState (inside groups b negated ranges position) t tokens =
    (a : List ℕ) × (rest : List ℕ) × (n : Bool) × (all : List (ℕ × ℕ)) × (t ≡ a ++ 93 ∷ rest) × ClassRest negated ranges position a n all × Completes groups (push b (class n all)) rest tokens

-- a piece before the first segment
with_piece : {grouped : Bool} {a t : List ℕ} {token : Token} {first : Tokens} {more : List Tokens} → PieceText grouped a token → SegmentsText grouped t (first ∷ more) → SegmentsText grouped (a ++ t) (next_token token first ∷ more)
with_piece one (one_segment s) = one_segment (piece one s)
with_piece {grouped} {a} {token = token} {first = first} {more = more} one (segment {a = b} {b = c} s others) = subst (λ x. SegmentsText grouped x (next_token token first ∷ more)) (append_assoc a b (slash ∷ c)) (segment (piece one s) others)

pushed : (b : Open) (token : Token) (first : Tokens) → (push b token).last ⊕ first ≡ b.last ⊕ next_token token first
pushed b token first = ⊕_assoc b.last (next_token token no_token) first

branches-with_piece : {a : List ℕ} {token : Token} → PieceText true a token → (b : Open) (t : List ℕ) (branches : Branches) → BranchesRest (push b token) t branches → BranchesRest b (a ++ t) branches
branches-with_piece {a} {token} one b t branches (inl (first, more, s, is)) =
    inl (next_token token first, more, with_piece one s, is ∙ ap (λ x. branch (b.tokens ⊕ tokens_behind b.before (x ∷ more)) no_more) (pushed b token first))
branches-with_piece {a} {token} one b t branches (inr (a', rest, first, more, others, t_is, s, o, is)) =
    inr (a ++ a', rest, next_token token first, more, others, ap (λ x. a ++ x) t_is ∙ sym (append_assoc a a' (44 ∷ rest)), with_piece one s, o, is ∙ ap (λ x. branch (b.tokens ⊕ tokens_behind b.before (x ∷ more)) others) (pushed b token first))

completes-with_piece : (groups : List Group) {a : List ℕ} {token : Token} → PieceText (is_grouped groups) a token → (b : Open) (t : List ℕ) (tokens : Tokens) → Completes groups (push b token) t tokens → Completes groups b (a ++ t) tokens
completes-with_piece [] {a} {token} one b t tokens (first, more, s, is) =
    (next_token token first, more, with_piece one s, is ∙ ap (λ x. b.tokens ⊕ tokens_behind b.before (x ∷ more)) (pushed b token first))
completes-with_piece (group ∷ groups) {a} {token} one b t tokens (a', rest, branches, t_is, bs, done) =
    (a ++ a', rest, branches, ap (λ x. a ++ x) t_is ∙ sym (append_assoc a a' (125 ∷ rest)), branches-with_piece one b a' branches bs, done)

-- after a slash the last segment is empty, and the one before it is whole
slash-tokens_behind : (b : Open) (first : Tokens) (more : List Tokens) → (end_segment b).tokens ⊕ tokens_behind (end_segment b).before (((end_segment b).last ⊕ first) ∷ more) ≡ b.tokens ⊕ tokens_behind b.before ((b.last ⊕ no_token) ∷ first ∷ more)
slash-tokens_behind b first more =
    ap (λ x. (end_segment b).tokens ⊕ tokens_behind (end_segment b).before ((x.last ⊕ first) ∷ more)) (end_segment-empty b)
    ∙ sym (end_segment-tokens_behind b.before b.tokens b.last (first ∷ more))
    ∙ ap (λ x. b.tokens ⊕ tokens_behind b.before (x ∷ first ∷ more)) (sym (⊕-nil b.last))

branches-with_slash : (b : Open) (t : List ℕ) (branches : Branches) → BranchesRest (end_segment b) t branches → BranchesRest b (slash ∷ t) branches
branches-with_slash b t branches (inl (first, more, s, is)) = inl (no_token, first ∷ more, segment no_piece s, is ∙ ap (λ x. branch x no_more) (slash-tokens_behind b first more))
branches-with_slash b t branches (inr (a, rest, first, more, others, t_is, s, o, is)) =
    inr (slash ∷ a, rest, no_token, first ∷ more, others, ap (λ x. slash ∷ x) t_is, segment no_piece s, o, is ∙ ap (λ x. branch x others) (slash-tokens_behind b first more))

completes-with_slash : (groups : List Group) (b : Open) (t : List ℕ) (tokens : Tokens) → Completes groups (end_segment b) t tokens → Completes groups b (slash ∷ t) tokens
completes-with_slash [] b t tokens (first, more, s, is) = (no_token, first ∷ more, segment no_piece s, is ∙ slash-tokens_behind b first more)
completes-with_slash (group ∷ groups) b t tokens (a, rest, branches, t_is, bs, done) =
    (slash ∷ a, rest, branches, ap (λ x. slash ∷ x) t_is, branches-with_slash b a branches bs, done)

-- the branches after a fresh one
fresh_branch-branches : (t : List ℕ) (branches : Branches) → BranchesRest fresh_branch t branches → BranchesText t branches
fresh_branch-branches t branches (inl (first, more, s, is)) = subst (BranchesText t) (sym is) (one_branch s)
fresh_branch-branches t branches (inr (a, rest, first, more, others, t_is, s, o, is)) = subst (λ x. BranchesText x branches) (sym t_is) (subst (BranchesText (a ++ 44 ∷ rest)) (sym is) (next_branch s o))

completes-with_group : (groups : List Group) (b : Open) (t : List ℕ) (tokens : Tokens) → Completes (record { around = b; branches = no_more } ∷ groups) fresh_branch t tokens → Completes groups b (123 ∷ t) tokens
completes-with_group groups b t tokens (a, rest, branches, t_is, bs, done) =
    subst (λ x. Completes groups b (123 ∷ x) tokens) (append_assoc a (125 ∷ []) rest ∙ sym t_is)
    (completes-with_piece groups (one_group (fresh_branch-branches a branches bs)) b rest tokens done)

-- the branch that ends here
whole_tokens-here : (b : Open) → b.tokens ⊕ tokens_behind b.before ((b.last ⊕ no_token) ∷ []) ≡ whole_tokens b
whole_tokens-here b = ap (λ x. b.tokens ⊕ tokens_behind b.before (x ∷ [])) (⊕-nil b.last) ∙ whole_tokens-tokens_behind b

completes-with_end : (group : Group) (groups : List Group) (b : Open) (t : List ℕ) (tokens : Tokens) → Completes groups (push group.around (alternates (with_branch group b).branches)) t tokens → Completes (group ∷ groups) b (125 ∷ t) tokens
completes-with_end group groups b t tokens done =
    ([], t, branch (whole_tokens b) no_more, refl, inl (no_token, [], one_segment no_piece, ap (λ x. branch x no_more) (sym (whole_tokens-here b))), done)

completes-with_comma : (group : Group) (groups : List Group) (b : Open) (t : List ℕ) (tokens : Tokens) → Completes (with_branch group b ∷ groups) fresh_branch t tokens → Completes (group ∷ groups) b (44 ∷ t) tokens
completes-with_comma group groups b t tokens (a, rest, branches, t_is, bs, done) = (
  44 ∷ a,
  rest,
  branch (whole_tokens b) branches,
  ap (λ x. 44 ∷ x) t_is,
  inr ([], a, no_token, [], branches, refl, one_segment no_piece, fresh_branch-branches a branches bs, ap (λ x. branch x branches) (sym (whole_tokens-here b))),
  subst (λ x. Completes groups (push group.around (alternates x)) rest tokens) (⊞_assoc group.branches (branch (whole_tokens b) no_more) branches) done,
)

-- a class whose bracket is read
completes-with_class : (groups : List Group) (b : Open) (t : List ℕ) (tokens : Tokens) → CompletesState (inside groups b false [] opened) t tokens → Completes groups b (91 ∷ t) tokens
completes-with_class groups b t tokens (a, rest, n, all, t_is, (n', more, text, n_is, all_is), done) =
    let same_n : n ≡ n' = n_is ∙ elim n' as (λ x. (if x then true else false) ≡ x) [ true ↦ refl | false ↦ refl ] in
    subst (λ x. Completes groups b (91 ∷ x) tokens) (append_assoc a (93 ∷ []) rest ∙ sym t_is)
    (completes-with_piece groups (one_class text) b rest tokens
    (subst (λ (x : Bool). Completes groups (push b (class x more)) rest tokens) same_n (subst (λ (x : List (ℕ × ℕ)). Completes groups (push b (class n x)) rest tokens) all_is done)))

-- which characters a sign stands for
abbrev pub SignIs : Bool → ℕ → Sign → Type 0
SignIs grouped c question = c ≡ 63
SignIs grouped c asterisk = c ≡ 42
SignIs grouped c bracket = c ≡ 91
SignIs grouped c brace = c ≡ 123
SignIs grouped c closing_brace = c ≡ 125
SignIs grouped c comma = (c ≡ 44) × (grouped ≡ true)
SignIs grouped c separator = c ≡ slash
SignIs grouped c itself = Unit {0}

pub sign_is : (grouped : Bool) (c : ℕ) → SignIs grouped c (sign_of grouped c)
sign_is grouped c =
    let P : Sign → Type 0 = SignIs grouped c in
    cond_both (c == 63) question _ P (eqb-true c 63) (λ _. cond_both (c == 42) asterisk _ P (eqb-true c 42) (λ _.
    cond_both (c == 91) bracket _ P (eqb-true c 91) (λ _. cond_both (c == 123) brace _ P (eqb-true c 123) (λ _.
    cond_both (c == 125) closing_brace _ P (eqb-true c 125) (λ _. cond_both (c == slash) separator _ P (eqb-true c slash) (λ _.
    cond_both (c == 44) (if grouped then comma else itself) itself P (λ e. cond_both grouped comma itself P (λ inner. (eqb-true c 44 e, inner)) (λ _. tt)) (λ _. tt)))))))

pub run-err : (t : List ℕ) (fault : GlobConstructError) → run t (Err fault) ≡ Err fault
run-err [] fault = refl
run-err (c ∷ t) fault = refl

no_tokens : {X : Type 0} (t : List ℕ) (fault : GlobConstructError) (tokens : Tokens) → run t (Err fault) ≡ Ok tokens → X
no_tokens t fault tokens e = let f = run-err t fault in cc

-- what the text after a character completes
abbrev Rest : List ℕ → Tokens → Type 0
Rest t tokens = (s : State) → run t (Ok s) ≡ Ok tokens → CompletesState s t tokens

completes-sign : (groups : List Group) (b : Open) (c : ℕ) (t : List ℕ) (tokens : Tokens) → Rest t tokens → (sign : Sign) → sign_of (is_grouped groups) c ≡ sign → SignIs (is_grouped groups) c sign → run t (step_outside sign groups b c) ≡ Ok tokens → Completes groups b (c ∷ t) tokens
completes-sign groups b c t tokens rest question e is r = subst (λ x. Completes groups b (x ∷ t) tokens) (sym is) (completes-with_piece groups one_question b t tokens (rest (outside groups (push b any_char)) r))
completes-sign groups b c t tokens rest asterisk e is r = subst (λ x. Completes groups b (x ∷ t) tokens) (sym is) (completes-with_piece groups one_asterisk b t tokens (rest (outside groups (push b star)) r))
completes-sign groups b c t tokens rest bracket e is r = subst (λ x. Completes groups b (x ∷ t) tokens) (sym is) (completes-with_class groups b t tokens (rest (inside groups b false [] opened) r))
completes-sign groups b c t tokens rest brace e is r = subst (λ x. Completes groups b (x ∷ t) tokens) (sym is) (completes-with_group groups b t tokens (rest (outside (record { around = b; branches = no_more } ∷ groups) fresh_branch) r))
completes-sign [] b c t tokens rest closing_brace e is r = no_tokens t _ tokens r
completes-sign (group ∷ groups) b c t tokens rest closing_brace e is r =
    subst (λ x. Completes (group ∷ groups) b (x ∷ t) tokens) (sym is) (completes-with_end group groups b t tokens (rest (outside groups (push group.around (alternates (with_branch group b).branches))) r))
completes-sign [] b c t tokens rest comma e is r = no_tokens t _ tokens r
completes-sign (group ∷ groups) b c t tokens rest comma e is r =
    subst (λ x. Completes (group ∷ groups) b (x ∷ t) tokens) (sym is.0) (completes-with_comma group groups b t tokens (rest (outside (with_branch group b ∷ groups) fresh_branch) r))
completes-sign groups b c t tokens rest separator e is r = subst (λ x. Completes groups b (x ∷ t) tokens) (sym is) (completes-with_slash groups b t tokens (rest (outside groups (end_segment b)) r))
completes-sign groups b c t tokens rest itself e is r = completes-with_piece groups (one_character e) b t tokens (rest (outside groups (push b (literal c))) r)

completes-position : (groups : List Group) (b : Open) (negated : Bool) (ranges : List (ℕ × ℕ)) (position : Progress) (c : ℕ) (t : List ℕ) (tokens : Tokens) → Rest t tokens → run t (step_inside groups b negated ranges position c) ≡ Ok tokens → CompletesState (inside groups b negated ranges position) (c ∷ t) tokens
completes-position groups b negated ranges opened c t tokens rest =
    cond_both ((c == 33) || (c == 94)) _ _ (λ r. run t r ≡ Ok tokens → CompletesState (inside groups b negated ranges opened) (c ∷ t) tokens)
    (λ sign r.
    let (a, rest', n, all, t_is, (more, text, n_is, all_is), done) = rest (inside groups b true ranges negation) r in
    let is : IsNegation c = elim (or_cases (c == 33) (c == 94) sign) [ inl e ↦ inl (eqb-true c 33 e) | inr e ↦ inr (eqb-true c 94 e) ] in
    (c ∷ a, rest', n, all, ap (λ x. c ∷ x) t_is, (true, more, negated_class is text, n_is, all_is), done))
    (λ sign r.
    let (a, rest', n, all, t_is, (p, q, last, more, a_is, pairs, later, n_is, all_is), done) = rest (inside groups b negated ranges (in_item c c)) r in
    let parts = or_parts (c == 33) (c == 94) sign in
    let not : ¬ IsNegation c = λ (i : IsNegation c). elim i [ inl e ↦ eqb-false c 33 parts.0 e | inr e ↦ eqb-false c 94 parts.1 e ] in
    (c ∷ a, rest', n, all, ap (λ x. c ∷ x) t_is, (false, (c, last) ∷ more, subst (λ x. ClassText (c ∷ x) false ((c, last) ∷ more)) (sym a_is) (plain_class not (items pairs later)), n_is, all_is), done))
completes-position groups b negated ranges negation c t tokens rest = λ r.
    let (a, rest', n, all, t_is, (p, q, last, more, a_is, pairs, later, n_is, all_is), done) = rest (inside groups b negated ranges (in_item c c)) r in
    (c ∷ a, rest', n, all, ap (λ x. c ∷ x) t_is, ((c, last) ∷ more, subst (λ x. ItemsText (c ∷ x) ((c, last) ∷ more)) (sym a_is) (items pairs later), n_is, all_is), done)
completes-position groups b negated ranges (in_item start end) c t tokens rest =
    cond_both (c == 45) _ _ (λ r. run t r ≡ Ok tokens → CompletesState (inside groups b negated ranges (in_item start end)) (c ∷ t) tokens)
    (λ dash r.
    let (a, rest', n, all, t_is, (p, q, last, more, a_is, pairs, later, n_is, all_is), done) = rest (inside groups b negated ranges (behind_dash start end)) r in
    (c ∷ a, rest', n, all, ap (λ x. c ∷ x) t_is, (p, q, last, more, ap (λ x. x ∷ a) (eqb-true c 45 dash) ∙ a_is, pairs, later, n_is, all_is), done))
    (λ no_dash. cond_both (c == 93) _ _ (λ r. run t r ≡ Ok tokens → CompletesState (inside groups b negated ranges (in_item start end)) (c ∷ t) tokens)
    (λ bracket' r.
    ([], t, negated, ranges ++ (start, end) ∷ [], ap (λ x. x ∷ t) (eqb-true c 93 bracket'), ([], [], end, [], refl, no_pair, no_item, refl, refl), rest (outside groups (push b (class negated (ranges ++ (start, end) ∷ [])))) r))
    (λ no_bracket r.
    let (a, rest', n, all, t_is, (p, q, last, more, a_is, pairs, later, n_is, all_is), done) = rest (inside groups b negated (ranges ++ (start, end) ∷ []) (in_item c c)) r in
    (c ∷ a, rest', n, all, ap (λ x. c ∷ x) t_is, ([], c ∷ a, end, (c, last) ∷ more, refl, no_pair, subst (λ x. LaterItems (c ∷ x) ((c, last) ∷ more)) (sym a_is) (item (eqb-false c 93 no_bracket) (eqb-false c 45 no_dash) pairs later), n_is, all_is ∙ append_assoc ranges ((start, end) ∷ []) ((c, last) ∷ more)), done)))
completes-position groups b negated ranges (behind_dash start end) c t tokens rest =
    cond_both (c == 93) _ _ (λ r. run t r ≡ Ok tokens → CompletesState (inside groups b negated ranges (behind_dash start end)) (c ∷ t) tokens)
    (λ bracket' r.
    ([], t, negated, (ranges ++ (start, end) ∷ []) ++ (45, 45) ∷ [], ap (λ x. x ∷ t) (eqb-true c 93 bracket'), ([], 45 ∷ [], end, (45, 45) ∷ [], refl, no_pair, last_dash, refl, append_assoc ranges ((start, end) ∷ []) ((45, 45) ∷ [])), rest (outside groups (push b (class negated ((ranges ++ (start, end) ∷ []) ++ (45, 45) ∷ [])))) r))
    (λ no_bracket. cond_both (nat_lt c start) _ _ (λ r. run t r ≡ Ok tokens → CompletesState (inside groups b negated ranges (behind_dash start end)) (c ∷ t) tokens)
    (λ below r. no_tokens t _ tokens r)
    (λ above r.
    let (a, rest', n, all, t_is, (p, q, last, more, a_is, pairs, later, n_is, all_is), done) = rest (inside groups b negated ranges (in_item start c)) r in
    (c ∷ a, rest', n, all, ap (λ x. c ∷ x) t_is, (45 ∷ c ∷ p, q, last, more, ap (λ x. 45 ∷ c ∷ x) a_is, pair (eqb-false c 93 no_bracket) (ltb-false c start above) pairs, later, n_is, all_is), done)))

completes : (t : List ℕ) (tokens : Tokens) → Rest t tokens
completes [] tokens (outside [] b) r = (no_token, [], one_segment no_piece, sym (let e : whole_tokens b ≡ tokens = cc in e) ∙ sym (whole_tokens-here b))
completes [] tokens (outside (group ∷ groups) b) r = cc
completes [] tokens (inside groups b negated ranges position) r = cc
completes (c ∷ t) tokens (outside groups b) r = completes-sign groups b c t tokens (completes t tokens) (sign_of (is_grouped groups) c) refl (sign_is (is_grouped groups) c) r
completes (c ∷ t) tokens (inside groups b negated ranges position) r = completes-position groups b negated ranges position c t tokens (completes t tokens) r

-- a text that is read as tokens is a glob of them
pub glob_of_reading : (t : List ℕ) (tokens : Tokens) → reading t ≡ Ok tokens → GlobText t tokens
glob_of_reading t tokens r = let (first, more, s, is) = completes t tokens (outside [] fresh_branch) r in subst (GlobText t) (sym is) (glob s)
