-- `into_raw` asks whether the address is null; else what the handle owned goes to the raw box.
use Rattle.std.proofs.Common.{◌≡◌, List, [], ◌∷◌, ◌++◌, refl, sym, ap, ◌∙◌, subst, lit<}
use Rattle.std.proofs.{alloc.Calls.handle_tells, alloc.Shapes.after, option.Made.Some-of, option.Made.none_of}
use Rattle.std.proofs.{ResultValues.and_tt, raw_atomic.Walks.proved_at, raw_atomic.Walks.leaves}
use Rattle.std.specs.declared.option.Option.TheVariants.{None, Some}
use mir.Val.{Val, vnil, vcons}
use base.Logic.{SProp, ent, emp}
use base.Fml.{ftrue}
use prog.Wp.{WpFn}
use types.Kit.{Item, ‵, raw, at_ret, ◌⊛◌, ◌$◌, ◌∵◌, !, qed, by, move, keep, drop, use0, use1, split, fsplit, fjoin}
use types.Match.{live}
use types.Part.{whole, sub, agg}
use types.Run.{stop, fld, no_more, and_then, lit, of_opd, bin, first, branches, exec, returns, enter}
use types.ByLocal.{alloc_all, pass_all, free_all, look_at, get, get_in, sets, sets_last, env}
use contract.Monad.{fact, fact_i}
use contract.Running.{tables}
use denote.Exit.{yes}
use denote.RattleType.{RattleType, owns}
use denote.RawPtr.{Ptr, block_ptr, null_ptr, tests_null}
use denote.Signature.{Slot, plain, types_at, type_at}
use denote.Steps.{nothing}
use denote.Triple.Walked.{Stays, stay_dropped, walk_of, Goes-dropped}
use Rattle.std.proofs.BoxSteps.Form as box
use Rattle.std.specs.contracts.alloc.Global as heap
use Rattle.filterset_c.proofs.Steps.{Heap, Raw, boxed, one_word, raw_in, handle_out, by_address}
use Rattle.filterset_c.specs.contracts.handle.Handle.into_raw.{ended, clauses, Key.name as #self}
use Rattle.filterset_c.proofs.handle.Handle.into_raw.Statement.{statement}
use Rattle.filterset_c.specs.contracts.handle.Handle as handle
use Rattle.filterset_c.proofs.handle.Handle.into_raw.Code as code

abbrev From : Slot 0
From = plain (λ _. handle.the_row)

abbrev By : Slot 0
By = plain (λ _. heap.the_row)

abbrev Out : RattleType
Out = type_at ended.signature.result tt

abbrev stayed : Stays ended.signature.params ended.kept
stayed = (stay_dropped From yes, (stay_dropped By yes, tt))

pub into_raw_spec : {M : Type 1} → statement M
into_raw_spec 𝓤 𝓛 𝓜 𝓡 wired =
    let H = 𝓛.H in let 𝓣 = tables 𝓤 H 𝓜 𝓡 𝓡.env in let fn = code.function in let held = clauses 𝓛 𝓜.mem 𝓡.returns in
    proved_at 𝓛 ended stayed held 𝓜 𝓡 (Goes-dropped 𝓛 0 From yes (λ κs x f. refl), (Goes-dropped 𝓛 0 By yes (λ κs x f. refl), tt)) #self fn (code.unfolded 𝓤 H 𝓜 𝓡 wired) (λ z are.
    let Post : Val → SProp 𝓤 = (walk_of 𝓛 ended stayed held).post z in let Runs : List Val → List Val → SProp 𝓤 = λ us vs. WpFn 𝓤 H 𝓣.C 𝓣.Λ fn (us ++ (vs ++ [])) Post in
    let d = z.0.3.0 in let a = z.0.3.1.0 in
    qed 𝓛 ((‵ ftrue ⊛ ‵ (owns (types_at ended.signature.params z.0.0) z.0.3 z.0.4)) ∷ raw ((held z.0.0 z.0.3).requires z.1) ∷ []) ∵ split ! $ move ! (1 ∷ []) $ fsplit ! $ move ! (1 ∷ []) $ fsplit ! $
    handle_tells Heap.al ! a z.0.4.1.0 (λ hv ea fits. move ! (2 ∷ []) $ handle_out ! d z.0.4.0 (λ ew. by_address ! d.address d.held
    -- [the allocator; true; true; what is required]
    (λ ep is. let Γ : List (Item 𝓤) = ‵ ftrue ∷ [] in keep ! (1 ∷ []) $
    by ! (subst (λ (us : List Val × List Val). ent 𝓤 (types.Kit.⋆ 𝓛 Γ) (Runs us.0 us.1)) (λ j. (sym (ew ∙ ap (λ (p : Ptr). one_word p ∷ []) ep) j, sym ea j)) (qed 𝓛 Γ ∵
    enter ! 𝓣.C 𝓣.Λ fn (one_word null_ptr ∷ hv ∷ []) Post $ alloc_all ! (λ locals. pass_all ! refl ((tt, (record { fits = lit< tt }, tt)), (fits, tt)) $ let Ev = env fn.locals locals in
    sets ! (of_opd ! (get_in ! (fld ! refl (stop !)) (sub ! 0 refl (whole !)))) refl (tt, record { fits = lit< tt }) $ sets ! (bin ! (get ! refl) (lit ! tt) tt) refl (tt, tt) $ first ! $ branches ! (get ! refl)
    (λ _. sets_last ! (agg ! (and_then ! (lit ! tt) (no_more !))) refl (tt, (record { fits = lit< tt }, tt)) $ exec ! 𝓣.C 𝓣.Λ Ev (after 3 fn.body) (at_ret Ev Post) $
    sets ! (of_opd ! (get ! refl)) refl (tt, (record { fits = lit< tt }, tt)) $
    use0 𝓛 (‵ (Out.own_val None (live 0 vnil ∷ []))) (none_of 𝓛 (Raw Heap)) $ use0 𝓛 (raw (fact 𝓤 (d.held ≡ None))) (fact_i 𝓤 (d.held ≡ None) (emp 𝓤) is) $ nothing ! $ nothing ! $ fjoin ! $ nothing ! $ fjoin ! $
    returns ! (look_at ! 0 refl) $ free_all ! refl $ keep ! (3 ∷ 0 ∷ 2 ∷ 1 ∷ []) $
    by ! (leaves 𝓛 ended stayed held z (live 0 vnil) None (tt, (tt, tt)) (tt, (tt, tt)))) (λ wrong. absurd wrong)))))
    (λ c b o x ep is may. let p = block_ptr b o in let Γ : List (Item 𝓤) = ‵ (boxed c p x) ∷ ‵ (heap.the_row.own_val a (hv ∷ [])) ∷ ‵ ftrue ∷ [] in keep ! (0 ∷ 1 ∷ 2 ∷ []) $
    by ! (subst (λ (us : List Val × List Val). ent 𝓤 (types.Kit.⋆ 𝓛 Γ) (Runs us.0 us.1)) (λ j. (sym (ew ∙ ap (λ (q : Ptr). one_word q ∷ []) ep) j, sym ea j)) (qed 𝓛 Γ ∵
    let made : (Raw Heap).Denot = record { address = p; allocator = a; value = x } in let out = box.word Heap hv b o in let some' = live 1 (vcons out vnil) in let typed = box.box_typed Heap hv b o fits in
    enter ! 𝓣.C 𝓣.Λ fn (one_word p ∷ hv ∷ []) Post $ alloc_all ! (λ locals. pass_all ! refl ((tt, (tt, tt)), (fits, tt)) $ let Ev = env fn.locals locals in
    sets ! (of_opd ! (get_in ! (fld ! refl (stop !)) (sub ! 0 refl (whole !)))) refl (tt, tt) $ sets ! (bin ! (get ! refl) (lit ! tt) (tests_null p may)) refl (tt, tt) $ first ! $ branches ! (get ! refl) (λ wrong. absurd wrong) (λ _.
    sets ! (of_opd ! (get ! refl)) refl (tt, tt) $ sets ! (agg ! (and_then ! (get ! refl) (and_then ! (get ! refl) (no_more !)))) refl typed $
    sets_last ! (agg ! (and_then ! (lit ! tt) (and_then ! (get ! refl) (no_more !)))) refl (and_tt _ typed.0, (record { fits = lit< tt }, (typed.1, tt))) $
    exec ! 𝓣.C 𝓣.Λ Ev (after 3 fn.body) (at_ret Ev Post) $ sets ! (of_opd ! (get ! refl)) refl (and_tt _ typed.0, (record { fits = lit< tt }, (typed.1, tt))) $
    fsplit ! $ raw_in Heap ! hv a b o x $ use1 𝓛 (‵ (Out.own_val (Some made) (some' ∷ []))) (Some-of 𝓛 (Raw Heap) made out) $
    use0 𝓛 (raw (fact 𝓤 (d.held ≡ Some x))) (fact_i 𝓤 (d.held ≡ Some x) (emp 𝓤) is) $ nothing ! $ nothing ! $ fjoin ! $ nothing ! $ fjoin ! $
    returns ! (look_at ! 0 refl) $ free_all ! refl $ keep ! (3 ∷ 0 ∷ 2 ∷ 1 ∷ []) $
    by ! (leaves 𝓛 ended stayed held z some' (Some made) (tt, (tt, tt)) (tt, (tt, tt)))))))))))
