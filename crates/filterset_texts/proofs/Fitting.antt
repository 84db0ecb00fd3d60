-- What the parts of a sequence fit, from their last on.
use Rattle.std.proofs.Common.{◌≡◌, ℕ, refl, sym, ◌∙◌, ap, List, [], ◌∷◌, ◌++◌, append_assoc}
use Rattle.std.proofs.lemmas.List.{append-nil}
use Rattle.std.specs.{Prelude.Bool, declared.alloc.Global.Global, declared.vec.Vec.Vec}
use Rattle.filterset_glob.specs.Matching.{InClass}
use Rattle.filterset_texts.specs.{Parts.Fits, declared.part.Part.Part}
use Rattle.filterset_texts.specs.declared.part.Part.TheVariants as part

-- the last part, one of one character, takes the last character of the text
abbrev pub FitsLastOne : List Part → Bool → List (ℕ × ℕ) → List ℕ → Type 0
FitsLastOne parts negated ranges text =
    (front : List ℕ) × (c : ℕ) × (text ≡ front ++ c ∷ []) × Fits parts front × InClass negated ranges c

-- the last part, one for any text, takes the end of the text
abbrev pub FitsLastAny : List Part → List ℕ → Type 0
FitsLastAny parts text = (front : List ℕ) × (piece : List ℕ) × (text ≡ front ++ piece) × Fits parts front

pub one_last : (parts : List Part) (negated : Bool) (ranges : Vec (ℕ × ℕ) Global) (text : List ℕ)
    → Fits (parts ++ part.One negated ranges ∷ []) text → FitsLastOne parts negated ranges.items text
one_last [] negated ranges text (c, rest, is, admits, ends) =
    ([], c, is ∙ ap (λ r. c ∷ r) ends, refl, admits)
one_last (part.One n r ∷ parts) negated ranges text (c, rest, is, admits, fits) =
    let (front, d, rest_is, own, last) = one_last parts negated ranges rest fits in
    (c ∷ front, d, is ∙ ap (λ r. c ∷ r) rest_is, (c, front, refl, admits, own), last)
one_last (part.Any ∷ parts) negated ranges text (piece, rest, is, fits) =
    let (front, d, rest_is, own, last) = one_last parts negated ranges rest fits in
    (piece ++ front, d, is ∙ ap (λ r. piece ++ r) rest_is ∙ sym (append_assoc piece front (d ∷ [])), (piece, front, refl, own), last)

pub last_one : (parts : List Part) (negated : Bool) (ranges : Vec (ℕ × ℕ) Global) (front : List ℕ) (c : ℕ)
    → Fits parts front → InClass negated ranges.items c → Fits (parts ++ part.One negated ranges ∷ []) (front ++ c ∷ [])
last_one [] negated ranges front c ends admits = (c, [], ap (λ f. f ++ c ∷ []) ends, admits, refl)
last_one (part.One n r ∷ parts) negated ranges front c (d, rest, is, first, fits) admits =
    (d, rest ++ c ∷ [], ap (λ f. f ++ c ∷ []) is, first, last_one parts negated ranges rest c fits admits)
last_one (part.Any ∷ parts) negated ranges front c (piece, rest, is, fits) admits =
    (piece, rest ++ c ∷ [], ap (λ f. f ++ c ∷ []) is ∙ append_assoc piece rest (c ∷ []), last_one parts negated ranges rest c fits admits)

pub any_last : (parts : List Part) (text : List ℕ) → Fits (parts ++ part.Any ∷ []) text → FitsLastAny parts text
any_last [] text (piece, rest, is, ends) = ([], text, refl, refl)
any_last (part.One n r ∷ parts) text (c, rest, is, admits, fits) =
    let (front, piece, rest_is, own) = any_last parts rest fits in
    (c ∷ front, piece, is ∙ ap (λ r. c ∷ r) rest_is, (c, front, refl, admits, own))
any_last (part.Any ∷ parts) text (first, rest, is, fits) =
    let (front, piece, rest_is, own) = any_last parts rest fits in
    (first ++ front, piece, is ∙ ap (λ r. first ++ r) rest_is ∙ sym (append_assoc first front piece), (first, front, refl, own))

pub last_any : (parts : List Part) (front piece : List ℕ) → Fits parts front → Fits (parts ++ part.Any ∷ []) (front ++ piece)
last_any [] front piece ends = (front ++ piece, [], sym (append-nil (front ++ piece)), refl)
last_any (part.One n r ∷ parts) front piece (c, rest, is, admits, fits) =
    (c, rest ++ piece, ap (λ f. f ++ piece) is, admits, last_any parts rest piece fits)
last_any (part.Any ∷ parts) front piece (first, rest, is, fits) =
    (first, rest ++ piece, ap (λ f. f ++ piece) is ∙ append_assoc first rest piece, last_any parts rest piece fits)
