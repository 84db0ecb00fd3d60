-- Lists of which the elements at each place belong together, and values of a configuration as lists.
use Rattle.std.proofs.Common.{◌≡◌, ℕ, zero, suc, ◌<◌, List, [], ◌∷◌, ◌++◌, length, get_or, map, string_bytes, arith, refl, sym, subst}
use Rattle.std.specs.{Prelude.zip, List.AllZip}
use Rattle.toml.specs.Data.{Data, Items, Members, array, member, table}
use Rattle.toml.specs.View.{items_of, members_of, members_view, view}
use Rattle.toml.proofs.Views.{Entry}
use Rattle.filterset_configuration.specs.declared.profiles.Profile.{Profile}
pub use Rattle.std.proofs.lemmas.Slice.Zip.{all_zipped_more as zip_push}

module _ {A B : Type 0} (R : A → B → Type 0) where
  pub zip_append : (us : List A) (vs : List B) (xs : List A) (ys : List B) → AllZip R us vs → AllZip R xs ys → AllZip R (us ++ xs) (vs ++ ys)
  zip_append [] [] xs ys h k = k
  zip_append [] (v ∷ vs) xs ys h k = absurd h
  zip_append (u ∷ us) [] xs ys h k = absurd h
  zip_append (u ∷ us) (v ∷ vs) xs ys h k = (h.0, zip_append us vs xs ys h.1 k)

  pub zip_at : (xs : List A) (ys : List B) (i : ℕ) (d : A) → i < length xs → AllZip R xs ys → (y : B) × R (get_or xs i d) y
  zip_at [] ys i d lt h = absurd (omega arith)
  zip_at (x ∷ xs) [] i d lt h = absurd h
  zip_at (x ∷ xs) (y ∷ ys) zero d lt h = (y, h.0)
  zip_at (x ∷ xs) (y ∷ ys) (suc i) d lt h = zip_at xs ys i d (omega arith) h.1

pub array_same : (ds es : Items) → array ds ≡ array es → ds ≡ es
array_same ds es h = cc

-- items are those of one list
pub items_same : (ds es : List Data) → items_of ds ≡ items_of es → ds ≡ es
items_same [] [] h = refl
items_same [] (e ∷ es) h = cc
items_same (d ∷ ds) [] h = cc
items_same (d ∷ ds) (e ∷ es) h =
    let heads : d ≡ e = cc in
    let tails : items_of ds ≡ items_of es = cc in
    λ i. heads i ∷ items_same ds es tails i

pub members_of_table : (ms ns : Members) → table ms ≡ table ns → ms ≡ ns
members_of_table ms ns h = cc

-- the names of profiles, with values
abbrev pub members_by : List Profile → List Data → Members
members_by ps ds = members_of (zip (map (λ (p : Profile). p.name) ps) ds)

module _ (R : Data → Profile → Type 0) where
  -- one more profile, and one of them
  pub members_push : (done : List Entry) (e : Entry) (ps : List Profile) (p : Profile) (ds : List Data) → AllZip R ds ps
      → members_view done ≡ members_by ps ds → string_bytes p.name ≡ string_bytes e.0
      → members_view (done ++ e ∷ []) ≡ members_by (ps ++ p ∷ []) (ds ++ view e.1 ∷ [])
  members_push [] e [] p [] z h n = λ i. member (sym n i) (view e.1) (members_of [])
  members_push [] e [] p (d ∷ ds) z h n = absurd z
  members_push [] e (q ∷ ps) p [] z h n = absurd z
  members_push [] e (q ∷ ps) p (d ∷ ds) z h n = cc
  members_push (f ∷ done) e [] p [] z h n = cc
  members_push (f ∷ done) e [] p (d ∷ ds) z h n = absurd z
  members_push (f ∷ done) e (q ∷ ps) p [] z h n = absurd z
  members_push (f ∷ done) e (q ∷ ps) p (d ∷ ds) z h n =
      let name : string_bytes f.0 ≡ string_bytes q.name = cc in
      let value : view f.1 ≡ d = cc in
      let rest : members_view done ≡ members_by ps ds = cc in
      λ i. member (name i) (value i) (members_push done e ps p ds z.1 rest n i)

  pub members_at : (done : List Entry) (e : Entry) (rest : List Entry) (ps : List Profile) (ds : List Data) → AllZip R ds ps
      → members_view (done ++ e ∷ rest) ≡ members_by ps ds → (p : Profile) × R (view e.1) p
  members_at [] e rest [] [] z h = cc
  members_at [] e rest [] (d ∷ ds) z h = absurd z
  members_at [] e rest (p ∷ ps) [] z h = absurd z
  members_at [] e rest (p ∷ ps) (d ∷ ds) z h =
      let value : d ≡ view e.1 = cc in
      (p, subst (λ (x : Data). R x p) value z.0)
  members_at (f ∷ done) e rest [] [] z h = cc
  members_at (f ∷ done) e rest [] (d ∷ ds) z h = absurd z
  members_at (f ∷ done) e rest (p ∷ ps) [] z h = absurd z
  members_at (f ∷ done) e rest (p ∷ ps) (d ∷ ds) z h =
      let tail : members_view (done ++ e ∷ rest) ≡ members_by ps ds = cc in
      members_at done e rest ps ds z.1 tail
