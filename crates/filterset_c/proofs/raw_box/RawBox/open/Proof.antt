-- `open` calls `into_raw_with_allocator`, and what the box owned goes to the raw box.
use Rattle.std.proofs.Common.{◌≡◌, List, [], ◌∷◌, ◌++◌, refl, sym, ap, ◌∙◌, subst}
use Rattle.std.proofs.alloc.Calls.{token, handle_tells, Goes-blank}
use Rattle.std.specs.Box.Ownership.{box_owns}
use Rattle.std.proofs.BoxSteps.Steps.{box_out, box_in}
use Rattle.std.proofs.{raw_atomic.Walks.proved_at, raw_atomic.Walks.leaves, boxed.Box.into_raw_with_allocator.Met.met}
use mir.Syntax.{a_type, dcons, dnil}
use mir.MapTy.{inst_fn}
use mir.Raw.{raw as bare}
use mir.Val.{Val, vstruct, of_list}
use base.Logic.{SProp, ent, emp, never, id⊢, fst∗}
use base.Fml.{ftrue, fsep, flft}
use prog.Wp.{WpFn}
use types.Logic.{sem}
use types.Kit.{Item, ‵, raw, ◌⊛◌, some, later, ◌$◌, ◌∵◌, !, qed, by, move, keep, drop, use0, use1, join, split, split3, pick, rewrite, fsplit, fjoin, fpick, feq_l, await}
use types.Part.{whole, sub, agg}
use types.Run.{stop, fld, no_more, and_then, of_opd, returns, enter}
use types.ByLocal.{alloc_all, pass_all, free_all, look_at, get, get_in, sets, lands_as}
use contract.Monad.{fact, fact_i}
use contract.Running.{tables}
use denote.Exit.{no}
use denote.Param.{bounded}
use denote.RawPtr.{Ptr, RawPtr, block_ptr, null_ptr, ptr_val, in_a_block}
use denote.RattleType.{owns}
use denote.Signature.{plain, types_at}
use denote.Steps.{heard, nothing, only}
use denote.Struct.Tuple.{Tuple}
use denote.Triple.Call.{calls_at}
use denote.Triple.Spec.{triple_of}
use denote.Triple.Walked.{Stays, stay_dropped, walk_of}
use denote.Triple.Table.{framed}
use Rattle.std.proofs.BoxSteps.Form as box
use Rattle.std.specs.contracts.boxed.Box.into_raw_with_allocator as callee
use Rattle.filterset_c.proofs.{Steps.raw_in, raw_box.RawBox.open.Statement.statement}
use Rattle.filterset_c.specs.contracts.raw_box.RawBox.open.{ended, clauses, Key.name as #self}
use Rattle.filterset_c.proofs.raw_box.RawBox.open.Code as code

pub open_spec : {M : Type 1} → statement M
open_spec 𝓤 𝓛 𝓜 𝓡 wired X Z LX LZ g d dx dd allocator glue glued =
    let H = 𝓛.H in let 𝓣 = tables 𝓤 H 𝓜 𝓡 𝓡.env in
    let E : box.Bx = record { row = X; laws = LX; al = record { row = Z; laws = LZ; g = g; d = d; drops = dd } } in
    let inst = bounded (a_type ∷ a_type ∷ []) (X, (Z, tt)) (dcons d (dcons dx (dcons dd dnil))) in
    let fn = inst_fn inst code.function in
    let at_end = ended X Z g d dx dd in
    let held = clauses X Z g d dx dd 𝓛 𝓜.mem 𝓡.returns in
    let stayed : Stays at_end.signature.params at_end.kept = (stay_dropped (plain (λ _. box.B E)) no, tt) in
    let known = met 𝓤 𝓛 𝓜 𝓡 (code.calls-std_alloc::boxed::Box::into_raw_with_allocator 𝓡.env wired) X Z LX LZ g d dd dx allocator glued glue in
    proved_at 𝓛 at_end stayed held 𝓜 𝓡 (Goes-blank 𝓛 2 (plain (λ _. box.B E)) no (λ κs x f. tt), tt) (#self inst) fn (code.unfolded 𝓤 H 𝓜 𝓡 wired (X, (Z, tt)) d dx dd) (λ z are.
    let κs = z.0.0 in let qs = z.0.1 in let owner = z.0.3.0 in let a = owner.alloc in let x = owner.value in
    let Post : Val → SProp 𝓤 = (walk_of 𝓛 at_end stayed held).post z in
    let tokens : Item 𝓤 = ‵ (flft κs.0 qs.0) ⊛ ‵ (flft κs.1.0 qs.1.0) ⊛ ‵ ftrue in
    let alive : Item 𝓤 = raw ((held κs z.0.3).requires z.1) in
    let Calls = triple_of 𝓛 (callee.signature X Z g d dd dx) (callee.spec X Z g d dd dx 𝓛 𝓜.mem 𝓡.returns) in
    let Pair = Tuple (RawPtr ∷ box.P E ∷ []) in
    qed 𝓛 ((tokens ⊛ ‵ (owns (types_at at_end.signature.params κs) z.0.3 z.0.4)) ∷ alive ∷ []) ∵ split ! $ move ! (1 ∷ []) $ fsplit ! $
    box_out E ! owner z.0.4.0 (λ b o hv e ws fits. box_in E ! {hv = hv} owner b o x e refl $
    let given = box.word E hv b o in
    let y : Calls.Ghost = ((κs, qs, tt, (owner, tt), (given ∷ [], tt)), tt) in
    let Γ : List (Item 𝓤) = ‵ ((box.B E).own_val owner (given ∷ [])) ∷ ‵ ftrue ∷ tokens ∷ alive ∷ [] in
    by ! (subst (λ (us : List Val). ent 𝓤 (types.Kit.⋆ 𝓛 Γ) (WpFn 𝓤 H 𝓣.C 𝓣.Λ fn (us ++ []) Post)) (sym ws) (qed 𝓛 Γ ∵
    enter ! 𝓣.C 𝓣.Λ fn (given ∷ []) Post $ alloc_all ! (λ locals. pass_all ! refl (box.box_typed E hv b o fits, tt) $
    -- the box is moved, and the call takes it
    sets ! (of_opd ! (get ! refl)) refl (box.box_typed E hv b o fits) $
    fjoin ! $ move ! (1 ∷ 0 ∷ []) $ join ! $ join ! $ use1 𝓛 (raw (Calls.pre y)) (id⊢ 𝓤 _) $
    calls_at ! (λ f. framed 𝓤 H 𝓜 𝓣 f) Calls known y (and_then ! (get ! refl) (no_more !)) (λ u.
    use1 𝓛 (later (some (λ (r : Ptr × Z.Denot). (tokens ⊛ ‵ (Pair.own_val r (u ∷ []))) ⊛ some (λ (_ : (Unit {0} × (Unit {0} × Unit {0})) × Unit {0}). ‵ (fsep (fsep ftrue (fsep ftrue ftrue)) ftrue)
    ⊛ (raw (fact 𝓤 (r.1 ≡ a)) ⊛ ‵ (box_owns (token E.al a) (box.R E) r.0 x)))))) (id⊢ 𝓤 _) $ await ! tt $
    -- it gives an address, the allocator, and what the box owned
    pick ! (λ r. split ! $ move ! (1 ∷ []) $ pick ! (λ _. split3 ! $ drop ! $ heard ! (r.1 ≡ a) (λ same.
    in_a_block ! r.0 (λ p. box_owns (token E.al a) (box.R E) p x) (fst∗ 𝓤 (never 𝓤) (sem 𝓛 (token E.al a (bare (box.τ E)) null_ptr))) (λ b' o' e'. fsplit ! $
    move ! (2 ∷ []) $ split ! $ move ! (1 ∷ []) $ fpick ! (λ parts. fsplit ! $ feq_l ! (λ eu. fsplit ! $ feq_l ! (λ ep. fsplit ! $
    rewrite ! 0 (λ (s : Z.Denot). ‵ (Z.own_val s parts.1.0)) same refl $ handle_tells E.al ! a parts.1.0 (λ hw eh fits'.
    let out = box.word E hw b' o' in let typed = box.box_typed E hw b' o' fits' in
    lands_as ! (ap only (eu ∙ (λ j. vstruct (of_list ((ep ∙ ap (λ (p : Ptr). ptr_val p ∷ []) e') j ++ (eh j ++ []))) ∷ []))) refl typed $
    sets ! (of_opd ! (get_in ! (fld ! refl (stop !)) (sub ! 0 refl (whole !)))) refl (tt, tt) $ sets ! (of_opd ! (get_in ! (fld ! refl (stop !)) (sub ! 1 refl (whole !)))) refl fits' $
    sets ! (of_opd ! (get ! refl)) refl fits' $ sets ! (agg ! (and_then ! (get ! refl) (and_then ! (get ! refl) (no_more !)))) refl typed $
    -- [the allocator; true; the tokens; the value; the right to free it]
    move ! (3 ∷ 4 ∷ 0 ∷ []) $ raw_in E ! hw a b' o' x $ use0 𝓛 (raw (fact 𝓤 (x ≡ x))) (fact_i 𝓤 (x ≡ x) (emp 𝓤) refl) $ nothing ! $ nothing ! $ fjoin ! $
    returns ! (look_at ! 0 refl) $ free_all ! refl $ keep ! (4 ∷ 0 ∷ 2 ∷ 1 ∷ []) $
    by ! (leaves 𝓛 at_end stayed held z out (record { address = block_ptr b' o'; allocator = a; value = x }) ((tt, (tt, tt)), tt) (tt, tt))))))))))))))))
