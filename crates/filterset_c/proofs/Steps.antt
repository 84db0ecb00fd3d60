-- What a raw box and a handle are made of. Assumes `Logic`.
--     Raw                        the row of a raw box of the parameters of a `Box`
--     raw_out, raw_in            a raw box by value is [the element in memory; the right to free it; the allocator]
--     Heap                       a `Box<Object>` of the machine's own allocator
--     handle_out, handle_in      a handle by value is its address, and what it owns
--     by_address                 what it owns, by whether the address is null
use Rattle.std.proofs.Common.{◌≡◌, ℕ, List, [], ◌∷◌, ◌++◌, refl, subst}
use Rattle.std.specs.{Box.Ownership.box_owns, declared.alloc.Global.Global}
use Rattle.std.specs.declared.option.Option.{Option, TheVariants.None, TheVariants.Some}
use Rattle.std.proofs.alloc.Calls.{Fits, token}
use Rattle.std.specs.contracts.impls.GlobalAllocator.TheImpl.{ghosts, dict}
use Rattle.std.proofs.GlobalToken.{dealloc_token-Testable}
use Rattle.std.proofs.BoxSteps.Form.{Bx, X, R, P, τ, word, handle}
use Rattle.std.proofs.BoxSteps.Steps.{box_out, box_in}
use seplogic.Ra.Ura.{Ura}
use mir.Syntax.{impl, tnil, dnil}
use mir.Raw.{raw as bare}
use mir.Val.{Val, vstruct, vcons, vnil, of_list}
use base.Fml.{Fml}
use base.Fraction.{full_share}
use base.Logic.{ent, guard, guard_i, via, never, fst∗, snd∗}
use types.Logic.{Logic, sem}
use types.Kit.{Item, Goal, Seq, Step, step, ‵, given, ◌$◌, drop, use1, learn, fsplit, fjoin, fpick, fpack, feq_i, feq_l}
use contract.Monad.{fact_use}
use denote.RattleType.{RattleType, Valss}
use denote.Memory.{lone, part_at}
use denote.RawPtr.{Ptr, RawPtr, block_ptr, null_ptr, ptr_val, lies_at, Testable, in_a_block}
use denote.Steps.{nothing}
use denote.Struct.Struct.{within}
use denote.Struct.Owning.{shape}
use Rattle.std.specs.contracts.alloc.Global as heap
use Rattle.std.proofs.alloc.Global.TheLaws as heap_laws
use Rattle.filterset_c.specs.Owning.{handle_owns}
use Rattle.filterset_c.specs.contracts.raw_box.RawBox as raw_box
use Rattle.filterset_c.specs.contracts.object.Object as object
use Rattle.filterset_c.proofs.object.Object.TheLaws as object_laws
use Rattle.filterset_c.specs.contracts.handle.Handle as of_c

-- ---- raw boxes: laid out as a `Box` is, over the same memory

module _ (E : Bx) where
  abbrev pub Raw : RattleType
  Raw = raw_box.the_row (R E) (P E) E.al.g

  module _ {M : Type 1} {𝓤 : Ura M} {𝓛 : Logic 𝓤} {K : Type 0} {Γ : List (Item 𝓤)} {G : Goal 𝓤 𝓛.H} where
    pub raw_out : K → (d : Raw.Denot) (vs : List Val)
        → ((b o : ℕ) (hv : Val) → d.address ≡ block_ptr b o → vs ≡ word E hv b o ∷ [] → Fits E.al hv
        → Seq K 𝓛 (‵ (part_at (R E) full_share d.value b o) ∷ ‵ (token E.al d.allocator (bare (τ E)) (block_ptr b o)) ∷ ‵ (handle E d.allocator hv) ∷ Γ) G)
        → Seq K 𝓛 (‵ (Raw.own_val d vs) ∷ Γ) G
    raw_out t d vs k = box_out E t (record { ptr = d.address; alloc = d.allocator; value = d.value }) vs k

    pub raw_in : K → (hv : Val) (a : E.al.row.Denot) (b o : ℕ) (x : X E)
        → Step K 𝓛 (‵ (Raw.own_val (record { address = block_ptr b o; allocator = a; value = x }) (word E hv b o ∷ [])) ∷ Γ) G
        (‵ (part_at (R E) full_share x b o) ∷ ‵ (token E.al a (bare (τ E)) (block_ptr b o)) ∷ ‵ (handle E a hv) ∷ Γ) G
    raw_in t hv a b o x = box_in E t {hv = hv} (record { ptr = block_ptr b o; alloc = a; value = x }) b o x refl refl

-- ---- handles

abbrev pub Heap : Bx
Heap = record { row = object.the_row; laws = object_laws.the_row_laws; al = record { row = heap.the_row; laws = heap_laws.the_row_laws; g = ghosts; d = dict; drops = impl [] tnil dnil } }

abbrev pub Held : Type 0
Held = object.the_row.Denot

abbrev pub boxed : Global → Ptr → Held → Fml
boxed a = box_owns (ghosts.dealloc_token a) object.the_row

abbrev pub one_word : Ptr → Val
one_word p = vstruct (vcons (ptr_val p) vnil)

-- what a block is freed by says that its address may be compared with null
module _ {M : Type 1} {𝓤 : Ura M} (𝓛 : Logic 𝓤) where
  may_compare : (a : Global) (p : Ptr) (x : Held) → ent 𝓤 (sem 𝓛 (boxed a p x)) (guard 𝓤 (Testable p) (sem 𝓛 (boxed a p x)))
  may_compare a p x = fact_use 𝓤 (Testable p)
      (via 𝓤 _ (snd∗ 𝓤 (sem 𝓛 (lies_at object.the_row full_share p x)) (sem 𝓛 (ghosts.dealloc_token a (bare (lone object.the_row.mir)) p)))
      (dealloc_token-Testable 𝓛 a (bare (lone object.the_row.mir)) p)) (guard_i 𝓤 (Testable p) (sem 𝓛 (boxed a p x)))

module _ {M : Type 1} {𝓤 : Ura M} {𝓛 : Logic 𝓤} {K : Type 0} {Γ : List (Item 𝓤)} {G : Goal 𝓤 𝓛.H} where
  pub handle_in : K → (p : Ptr) (x : Option Held) → Step K 𝓛 (‵ (of_c.the_row.own_val (record { address = p; held = x }) (one_word p ∷ [])) ∷ Γ) G (‵ (handle_owns p x) ∷ Γ) G
  handle_in t p x = step (λ s.
      nothing t $ feq_i t (List Val) (ptr_val p ∷ []) (ptr_val p ∷ []) refl $ fjoin t $
      feq_i t (List Val) (one_word p ∷ []) (one_word p ∷ []) refl $ fjoin t $
      fpack t (Valss (RawPtr ∷ [])) (within (shape of_c.the_type) (p, tt) (one_word p ∷ [])) (ptr_val p ∷ [], tt) $ fjoin t $ s)

  pub handle_out : K → (d : of_c.the_row.Denot) (vs : List Val) → (vs ≡ one_word d.address ∷ [] → Seq K 𝓛 (‵ (handle_owns d.address d.held) ∷ Γ) G) → Seq K 𝓛 (‵ (of_c.the_row.own_val d vs) ∷ Γ) G
  handle_out t d vs k = fsplit t $ fpick t (λ vss. fsplit t $ feq_l t (λ ev. fsplit t $ feq_l t (λ ep. drop t $
      k (subst (λ (ps : List Val). vs ≡ vstruct (of_list (ps ++ [])) ∷ []) ep ev))))

  pub by_address : K → (p : Ptr) (x : Option Held) → (p ≡ null_ptr → x ≡ None → Seq K 𝓛 Γ G)
      → ((a : Global) (b o : ℕ) (y : Held) → p ≡ block_ptr b o → x ≡ Some y → Testable (block_ptr b o) → Seq K 𝓛 (‵ (boxed a (block_ptr b o) y) ∷ Γ) G)
      → Seq K 𝓛 (‵ (handle_owns p x) ∷ Γ) G
  by_address t p None at_null at_block = feq_l t (λ e. at_null e refl)
  by_address t p (Some y) at_null at_block = fpick t (λ a.
      in_a_block t p (λ q. boxed a q y) (fst∗ 𝓤 (never 𝓤) (sem 𝓛 (ghosts.dealloc_token a (bare (lone object.the_row.mir)) null_ptr))) (λ b o e.
      use1 𝓛 (given (Testable (block_ptr b o)) (‵ (boxed a (block_ptr b o) y))) (may_compare 𝓛 a (block_ptr b o) y) $ learn t (λ i. at_block a b o y e refl i)))
