-- Sessions that go on.
use Rattle.std.proofs.Common.{◌≡◌, Bool, false, [], ◌∷◌, ◌++◌, List, Option, None, Some, refl, ap, ◌∙◌, subst, sym, append_assoc, append-nil}
use Rattle.std.proofs.KnownBytes.{Appends-nil, Appends-trans, Consumes-trans}
use Rattle.std.specs.Io.KnownBytes.{Appends, Consumes, IsAtEnd, prepend_known}
use Rattle.filterset_display.specs.{Frames.Bytes, Frames.IsFrame, Machine.Says, Machine.State, Refusals.Exchange}
use Rattle.filterset_display.specs.Sessions.{GoesOn, IsServing, ReadsPiece, Session, Splits}
use Rattle.filterset_display.specs.declared.phase.Phase.TheVariants.{New}

-- more of the stream came
Splits-more : (messages : List Bytes) (stream piece rest : Bytes) → Splits stream messages rest
    → Splits (stream ++ piece) messages (rest ++ piece)
Splits-more [] stream piece rest h = ap (λ s. s ++ piece) h
Splits-more (m ∷ ms) stream piece rest (frame, after, is, e, later) =
    (frame, after ++ piece, is, ap (λ s. s ++ piece) e ∙ append_assoc frame after piece, Splits-more ms after piece rest later)

-- one more message of the rest
Splits-next : (messages : List Bytes) (stream rest frame message more : Bytes) → Splits stream messages rest
    → IsFrame frame message → rest ≡ frame ++ more → Splits stream (messages ++ message ∷ []) more
Splits-next [] stream rest frame message more h is e = (frame, more, is, h ∙ e, refl)
Splits-next (m ∷ ms) stream rest frame message more (front, after, first, f, later) is e =
    (front, after, first, f, Splits-next ms after rest frame message more later is e)

Session-next : (S : Says) (messages : List Bytes) (old mid new : State) (message written more : Bytes)
    → Session S old messages written mid → Exchange S mid message more new
    → Session S old (messages ++ message ∷ []) (written ++ more) new
Session-next S [] old mid new message written more (none, same) exchange =
    let P : State → Type 0 = λ p. Exchange S p message more new in
    (more, [], new, ap (λ w. w ++ more) none ∙ sym (append-nil more), subst P same exchange, (refl, refl))
Session-next S (m ∷ ms) old mid new message written more (front, rest, next, is, first, later) exchange = (
  front,
  rest ++ more,
  next,
  ap (λ w. w ++ more) is ∙ append_assoc front rest more,
  first,
  Session-next S ms next mid new message rest more later exchange,
)

-- a session begins with what was read before
pub serving-begun : (S : Says) (left taken : Option Bytes) (opening waiting : Bytes) (state : State)
    → state ≡ record { phase = New; documents = [] } → waiting ≡ opening
    → IsServing S (prepend_known opening left) left taken taken state waiting
serving-begun S left taken opening waiting state new same =
    (opening, [], [], consumed left, sym same, (refl, new), Appends-nil taken)
  where
    consumed : (known : Option Bytes) → Consumes (prepend_known opening known) known opening
    consumed None = tt
    consumed (Some xs) = refl

-- more of the stream was read
pub serving-read : (S : Says) (left now later taken grown : Option Bytes) (state : State) (waiting piece more : Bytes)
    → IsServing S left now taken grown state waiting → Consumes now later piece → more ≡ waiting ++ piece
    → IsServing S left later taken grown state more
serving-read S left now later taken grown state waiting piece more (read, messages, written, consumed, splits, session, appended) consumes is =
    let P : Bytes → Type 0 = λ w. Splits (read ++ piece) messages w in (
      read ++ piece,
      messages,
      written,
      Consumes-trans left now later read piece consumed consumes,
      subst P (sym is) (Splits-more messages read piece waiting splits),
      session,
      appended,
    )

-- the message at the front of the rest was answered
pub serving-answered : (S : Says) (left now taken grown more : Option Bytes) (old new : State) (waiting frame message rest written : Bytes)
    → IsServing S left now taken grown old waiting → IsFrame frame message → waiting ≡ frame ++ rest
    → Exchange S old message written new → Appends grown more written → IsServing S left now taken more new rest
serving-answered S left now taken grown more old new waiting frame message rest written (read, messages, before, consumed, splits, session, appended) is e exchange appends = (
  read,
  messages ++ message ∷ [],
  before ++ written,
  consumed,
  Splits-next messages read waiting frame message rest splits is e,
  Session-next S messages _ old new message before written session exchange,
  Appends-trans taken grown more before written appended appends,
)

-- what was read of the input grew by a piece
pub reads-on : (left now later : Option Bytes) (read all : Bytes) (found : Bool) → Consumes left now read
    → ReadsPiece now later read all found → Consumes left later all
reads-on left now later read all found consumed (piece, consumes, is, ends, more) =
    let P : Bytes → Type 0 = λ bs. Consumes left later bs in
    subst P (sym is) (Consumes-trans left now later read piece consumed consumes)

-- no piece was left, so what was read is all
pub read-all : (now later : Option Bytes) (read all : Bytes) (found : Bool) → found ≡ false → ReadsPiece now later read all found
    → (all ≡ read) × IsAtEnd later
read-all now later read all found last (piece, consumes, is, ends, more) =
    let (none, at_end) = ends last in (is ∙ (ap (λ p. read ++ p) none ∙ append-nil read), at_end)

pub serving-on : (S : Says) (now later grown : Option Bytes) (state : State) (waiting all : Bytes) (found : Bool)
    → ReadsPiece now later waiting all found → GoesOn S now later grown grown state waiting state all
serving-on S now later grown state waiting all found (piece, consumes, is, ends, more) = λ left taken serving.
    serving-read S left now later taken grown state waiting piece all serving consumes is
