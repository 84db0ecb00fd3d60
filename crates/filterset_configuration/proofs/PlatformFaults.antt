-- Faults of a rest of a text are faults of the text.
use Rattle.std.proofs.Common.{◌≡◌, ℕ, ◌-◌, false, ◌∷◌, length, drop, get_or, sym, ap, subst, ◌∙◌, length-drop, get_or-drop, add-zero}
use Rattle.std.specs.{Prelude.Result, Prelude.Ok, Prelude.Err, Prelude.IfErr, Result.IsErrAnd, Borrow.Bor}
use Rattle.filterset_json.specs.Shape.{Text}
use Rattle.filterset_configuration.specs.PlatformGrammar.{is_triple_byte}
use Rattle.filterset_configuration.specs.PlatformReading.{Gives, IsOutOfMemory, IsPlaced, IsRest, IsTrueOf, Returns}
use Rattle.filterset_configuration.specs.declared.platforms.fault.Expected.TheVariants.{TripleCharacter}
use Rattle.filterset_configuration.specs.declared.platforms.fault.ReadError.{ReadError}
use Rattle.filterset_configuration.specs.declared.platforms.fault.ReadError.TheVariants.{OutOfMemory, Fault}
use Rattle.filterset_configuration.proofs.PlatformWords.{rest_along, rest_of_drop}

pub true_along : (text rest : Text) (e : ReadError) → IsRest text rest → IsTrueOf rest e → IsTrueOf text e
true_along text rest OutOfMemory within h = tt
true_along text rest (Fault left expected) within h = (h.0, rest_along text rest h.0 within h.1, h.2, h.3)

pub placed_along : {X : Type 0} (text rest : Text) (o : Result (X × Bor Text) ReadError) → IsRest text rest → IsPlaced rest o → IsPlaced text o
placed_along text rest (Ok x) within h = rest_along text rest x.1.now within h
placed_along text rest (Err e) within h = true_along text rest e within h

-- a byte that is in no triple
pub triple_fault : (text : Text) (n left : ℕ) → left ≡ length text - n → is_triple_byte (get_or text n 0) ≡ false
    → IsTrueOf text (Fault left TripleCharacter)
triple_fault text n left e stops = (
  drop n text,
  rest_of_drop n text,
  e ∙ sym (length-drop n text),
  λ b u at.
      ap is_triple_byte (sym (first b u at)) ∙ stops,
)
  where
    first : (b : ℕ) (u : Text) → drop n text ≡ b ∷ u → get_or text n 0 ≡ b
    first b u at = sym (ap (λ k. get_or text k 0) (add-zero n)) ∙ sym (get_or-drop n text 0 0) ∙ ap (λ t. get_or t 0 0) at

-- an error that a `?` hands on
pub gives_error : {X Y : Type 0} (view : X → Y) (o : Result (X × Bor Text) ReadError) (error : ReadError) (y : Y) (t : Text)
    → IsErrAnd o (λ e. e ≡ error) → IsOutOfMemory error → Gives view o y t
gives_error view (Ok x) error y t same h = absurd same
gives_error view (Err e) error y t same h = subst IsOutOfMemory (sym same) h

pub placed_error : {X : Type 0} (text : Text) (o : Result (X × Bor Text) ReadError) (error : ReadError)
    → IsErrAnd o (λ e. e ≡ error) → IsTrueOf text error → IsPlaced text o
placed_error text (Ok x) error same h = absurd same
placed_error text (Err e) error same h = let P : ReadError → Type 0 = λ x. IsTrueOf text x in subst P (sym same) h

pub returns_error : {X Y : Type 0} (view : X → Y) (o : Result X ReadError) (error : ReadError) (y : Y)
    → IsErrAnd o (λ e. e ≡ error) → IsOutOfMemory error → Returns view o y
returns_error view (Ok x) error y same h = absurd same
returns_error view (Err e) error y same h = subst IsOutOfMemory (sym same) h

pub true_error : {X : Type 0} (text : Text) (o : Result X ReadError) (error : ReadError)
    → IsErrAnd o (λ e. e ≡ error) → IsTrueOf text error → IfErr o (IsTrueOf text)
true_error text (Ok x) error same h = absurd same
true_error text (Err e) error same h = let P : ReadError → Type 0 = λ x. IsTrueOf text x in subst P (sym same) h
