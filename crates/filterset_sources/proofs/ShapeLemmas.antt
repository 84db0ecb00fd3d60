-- Objects of entries, and refusals.
use Rattle.std.proofs.Common.{◌≡◌, List, [], ◌∷◌, ◌++◌, map, refl, string_bytes, Result, Ok, Err, inl, inr, subst, sym}
use Rattle.std.specs.{Prelude.IfErr, Prelude.IsErrAnd, List.AllZip, declared.alloc.AllocError.AllocError}
use Rattle.serde_json.specs.{Data.Data, Data.Members, Data.no_members, Data.member, View.view, View.members_view}
use Rattle.serde_json.proofs.Views.{Entry}
use Rattle.filterset_json.specs.{Paths.joined, Paths.key_text, Places.After, Places.Names, Places.Place, Shape.Text}
use Rattle.filterset_json.specs.declared.refusal.{EntryRefusal.EntryRefusal, WrongValue.WrongValue as Wrongs}
use Rattle.filterset_json.specs.declared.refusal.EntryRefusal.TheVariants.{Wrong}
use Rattle.filterset_json.specs.declared.refusal.EntryRefusal.TheVariants as refusals
use Rattle.filterset_sources.specs.Refusals.{Refuses, source_refusal}
use Rattle.filterset_sources.specs.{Shape.EachMember, Shape.WrongMembers, declared.refusal.SourceRefusal.SourceRefusal}
use Rattle.filterset_sources.specs.declared.refusal.SourceRefusal.TheVariants.{NotJson, NotToml, WrongValue, OutOfMemory}

-- one more member, and one more entry
pub EachMember-push : {A : Type 0} (P : Text → Data → A → Type 0) (done : List Entry) (ys : List A) (e : Entry) (y : A) → EachMember P (members_view done) ys → P (string_bytes e.0) (view e.1) y →
    EachMember P (members_view (done ++ e ∷ [])) (ys ++ y ∷ [])
EachMember-push P [] [] e y h p = (p, tt)
EachMember-push P [] (z ∷ ys) e y h p = absurd h
EachMember-push P (d ∷ done) [] e y h p = absurd h
EachMember-push P (d ∷ done) (z ∷ ys) e y h p = (h.0, EachMember-push P done ys e y h.1 p)

-- the entry of a member
pub EachMember-at : {A : Type 0} (P : Text → Data → A → Type 0) (done : List Entry) (e : Entry) (rest : List Entry) (xs : List A) → EachMember P (members_view (done ++ e ∷ rest)) xs → (x : A) × P (string_bytes e.0) (view e.1) x
EachMember-at P [] e rest [] h = absurd h
EachMember-at P [] e rest (x ∷ xs) h = (x, h.0)
EachMember-at P (d ∷ done) e rest [] h = absurd h
EachMember-at P (d ∷ done) e rest (x ∷ xs) h = EachMember-at P done e rest xs h.1

-- the first member that is wrong
pub WrongMembers-at : {A : Type 0} (P : Text → Data → A → Type 0) (W : Text → Data → Place → Type 0) (done : List Entry) (xs : List A) (e : Entry) (rest : List Entry) (place : Place) →
    EachMember P (members_view done) xs → After (key_text (string_bytes e.0)) (W (string_bytes e.0) (view e.1)) place → WrongMembers P W (members_view (done ++ e ∷ rest)) place
WrongMembers-at P W [] xs e rest place h wrong = inl wrong
WrongMembers-at P W (d ∷ done) [] e rest place h wrong = absurd h
WrongMembers-at P W (d ∷ done) (x ∷ xs) e rest place h wrong = inr ((x, h.0), WrongMembers-at P W done xs e rest place h.1 wrong)

-- other entries of the same members
pub EachMember-zip : {A B C : Type 0} (P : Text → Data → B → Type 0) (Q : Text → Data → C → Type 0) (f : A → B) (R : A → C → Type 0) → ((key : Text) (d : Data) (x : A) (y : C) → R x y → P key d (f x) → Q key d y) →
    (ms : Members) (xs : List A) (ys : List C) → AllZip R xs ys → EachMember P ms (map f xs) → EachMember Q ms ys
EachMember-zip P Q f R step no_members [] [] zip each = tt
EachMember-zip P Q f R step no_members [] (y ∷ ys) zip each = absurd zip
EachMember-zip P Q f R step no_members (x ∷ xs) ys zip each = absurd each
EachMember-zip P Q f R step (member key d ms) [] ys zip each = absurd each
EachMember-zip P Q f R step (member key d ms) (x ∷ xs) [] zip each = absurd zip
EachMember-zip P Q f R step (member key d ms) (x ∷ xs) (y ∷ ys) zip each =
    (step key d x y zip.0 each.0, EachMember-zip P Q f R step ms xs ys zip.1 each.1)

-- a refusal by a longer path
pub Names-by : (P : Place → Type 0) (step : Text) (inner outer : EntryRefusal) → ((v w : Wrongs) → inner ≡ Wrong v → outer ≡ Wrong w → (string_bytes w.path ≡ joined step (string_bytes v.path)) × (w.expected.now ≡ v.expected.now)) →
    ((e : AllocError) (w : Wrongs) → inner ≡ refusals.OutOfMemory e → outer ≡ Wrong w → ⊥) → Names P inner → Names (After step P) outer
Names-by P step (Wrong v) outer is_wrong not_wrong h = λ w same.
    let is = is_wrong v w refl same in
    (string_bytes v.path, is.0, subst (λ (must : Text). P (string_bytes v.path, must)) (sym is.1) (h v refl))
Names-by P step (refusals.OutOfMemory e) outer is_wrong not_wrong h = λ w same. absurd (not_wrong e w refl same)

-- where one place is wrong, so is the other
pub Refuses-if : (P Q : Place → Type 0) (r : SourceRefusal) → ((place : Place) → P place → Q place) → Refuses P r → Refuses Q r
Refuses-if P Q (WrongValue w) f h = f _ h
Refuses-if P Q (OutOfMemory e) f h = tt
Refuses-if P Q (NotJson e) f h = absurd h
Refuses-if P Q (NotToml e line) f h = absurd h

-- a refusal that a `?` hands on
pub handed_on : {T : Type 0} (P Q : Place → Type 0) (r : Result T SourceRefusal) (e : SourceRefusal) → IsErrAnd r (λ y. y ≡ e) → ((place : Place) → P place → Q place) → Refuses P e → IfErr r (Refuses Q)
handed_on P Q (Ok v) e same f h = absurd same
handed_on P Q (Err y) e same f h = subst (Refuses Q) (sym same) (Refuses-if P Q e f h)

-- the refusal of an entry, as one of its file
pub Refuses-source : (P Q : Place → Type 0) (e : EntryRefusal) → ((place : Place) → P place → Q place) → Names P e → Refuses Q (source_refusal e)
Refuses-source P Q (Wrong w) f h = f _ (h w refl)
Refuses-source P Q (refusals.OutOfMemory e) f h = tt

pub entry_handed_on : {T : Type 0} (P Q : Place → Type 0) (r : Result T SourceRefusal) (e : EntryRefusal) → IsErrAnd r (λ y. y ≡ source_refusal e) → ((place : Place) → P place → Q place) → Names P e → IfErr r (Refuses Q)
entry_handed_on P Q (Ok v) e same f h = absurd same
entry_handed_on P Q (Err y) e same f h = subst (Refuses Q) (sym same) (Refuses-source P Q e f h)

-- the same of what a call returned
pub Refused-if : {T : Type 0} (P Q : Place → Type 0) (r : Result T SourceRefusal) → ((place : Place) → P place → Q place) → IfErr r (Refuses P) → IfErr r (Refuses Q)
Refused-if P Q (Ok v) f h = tt
Refused-if P Q (Err e) f h = Refuses-if P Q e f h
