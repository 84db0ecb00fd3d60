-- `of_raw` keeps the address, and what the raw box owned goes with it.
use Rattle.std.proofs.Common.{◌≡◌, List, [], ◌∷◌, ◌++◌, refl, sym, subst}
use Rattle.std.proofs.{alloc.Calls.Goes-blank, raw_atomic.Walks.proved_at, raw_atomic.Walks.leaves}
use Rattle.std.specs.declared.{alloc.Global.Global, option.Option.TheVariants.Some}
use Rattle.std.specs.contracts.impls.GlobalAllocator.TheImpl.{ghosts}
use mir.Val.{Val}
use base.Logic.{SProp, ent, emp, id⊢}
use base.Fml.{ftrue}
use prog.Wp.{WpFn}
use types.Kit.{Item, ‵, raw, ◌⊛◌, ◌$◌, ◌∵◌, !, qed, by, move, keep, drop, use0, use1, split, fsplit, fjoin, fpack}
use types.Part.{whole, sub, agg}
use types.Run.{stop, fld, no_more, and_then, of_opd, returns, enter}
use types.ByLocal.{alloc_all, pass_all, free_all, look_at, get, get_in, sets}
use contract.Monad.{fact, fact_i}
use contract.Running.{tables}
use denote.Exit.{no}
use denote.RawPtr.{block_ptr}
use denote.RattleType.{owns}
use denote.Signature.{plain, types_at}
use denote.Steps.{nothing}
use denote.Triple.Walked.{Stays, stay_dropped, walk_of}
use Rattle.std.proofs.BoxSteps.Form as box
use Rattle.filterset_c.proofs.Steps.{Heap, boxed, one_word, raw_out, handle_in}
use Rattle.filterset_c.specs.contracts.handle.Handle.of_raw.{ended, clauses, Key.name as #self}
use Rattle.filterset_c.proofs.handle.Handle.of_raw.Statement.{statement}
use Rattle.filterset_c.specs.contracts.object.Object as object
use Rattle.filterset_c.specs.contracts.raw_box.RawBox as raw_box
use Rattle.std.specs.contracts.alloc.Global as heap
use Rattle.filterset_c.proofs.handle.Handle.of_raw.Code as code

abbrev From : denote.Signature.Slot 0
From = plain (λ _. raw_box.the_row object.the_row heap.the_row ghosts)

abbrev stayed : Stays ended.signature.params ended.kept
stayed = (stay_dropped From no, tt)

pub of_raw_spec : {M : Type 1} → statement M
of_raw_spec 𝓤 𝓛 𝓜 𝓡 wired =
    let H = 𝓛.H in let 𝓣 = tables 𝓤 H 𝓜 𝓡 𝓡.env in let held = clauses 𝓛 𝓜.mem 𝓡.returns in
    proved_at 𝓛 ended stayed held 𝓜 𝓡 (Goes-blank 𝓛 0 From no (λ κs x f. tt), tt) #self code.function (code.unfolded 𝓤 H 𝓜 𝓡 wired) (λ z are.
    let Post : Val → SProp 𝓤 = (walk_of 𝓛 ended stayed held).post z in
    let parts = z.0.3.0 in let a = parts.allocator in let x = parts.value in
    qed 𝓛 ((‵ ftrue ⊛ ‵ (owns (types_at ended.signature.params z.0.0) z.0.3 z.0.4)) ∷ raw ((held z.0.0 z.0.3).requires z.1) ∷ []) ∵ split ! $ move ! (1 ∷ []) $ fsplit ! $
    raw_out Heap ! parts z.0.4.0 (λ b o hv e ws fits. fjoin ! $
    let p = block_ptr b o in let given = box.word Heap hv b o in
    use1 𝓛 (‵ (boxed a p x)) (id⊢ 𝓤 _) $ keep ! (0 ∷ 3 ∷ []) $ let Γ : List (Item 𝓤) = ‵ (boxed a p x) ∷ ‵ ftrue ∷ [] in
    by ! (subst (λ (us : List Val). ent 𝓤 (types.Kit.⋆ 𝓛 Γ) (WpFn 𝓤 H 𝓣.C 𝓣.Λ code.function (us ++ []) Post)) (sym ws) (qed 𝓛 Γ ∵
    enter ! 𝓣.C 𝓣.Λ code.function (given ∷ []) Post $ alloc_all ! (λ locals. pass_all ! refl (box.box_typed Heap hv b o fits, tt) $
    sets ! (of_opd ! (get_in ! (fld ! refl (stop !)) (sub ! 0 refl (whole !)))) refl (tt, tt) $ sets ! (of_opd ! (get ! refl)) refl (tt, tt) $
    sets ! (agg ! (and_then ! (get ! refl) (no_more !))) refl (tt, (tt, tt)) $
    fpack ! Global (λ c. boxed c p x) a $ handle_in ! p (Some x) $
    use0 𝓛 (raw (fact 𝓤 (Some x ≡ Some x))) (fact_i 𝓤 (Some x ≡ Some x) (emp 𝓤) refl) $ nothing ! $ nothing ! $ fjoin ! $
    returns ! (look_at ! 0 refl) $ free_all ! refl $ keep ! (3 ∷ 0 ∷ 2 ∷ 1 ∷ []) $
    by ! (leaves 𝓛 ended stayed held z (one_word p) (record { address = p; held = Some x }) (tt, tt) (tt, tt)))))))
