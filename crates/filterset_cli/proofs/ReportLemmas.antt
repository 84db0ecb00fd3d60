-- Texts that are made piece by piece.
use Rattle.std.proofs.Common.{Result, Ok, Err, IfOk, ◌≡◌, ℕ, suc, Bool, true, false, ◌&&◌, add-zero, zero-add, arith, ◌+◌, ◌<◌, List, [], ◌∷◌, ◌++◌, length, map, take, get_or, ◌∙◌, sym, ap, subst, append_assoc, refl}
use Rattle.std.specs.List.{enumerate_from}
use Rattle.std.proofs.lemmas.List.{append-nil, FromFn.get_or-enumerate_from, FromFn.length-enumerate_from}
use Rattle.std.proofs.Math.{Bool.and_assoc, Bool.and-true, Seq.take-length}
use Rattle.filterset_json.specs.{Refusals.Refuses, Shape.Text}
use Rattle.filterset_json.specs.declared.refusal.EntryRefusal.{EntryRefusal, TheVariants.Wrong, TheVariants.OutOfMemory}
use Rattle.filterset_json.specs.declared.refusal.WrongValue.{WrongValue}
use Rattle.filterset_cli.specs.Library.{Background}
use Rattle.filterset_record.specs.Record.{BinaryRow, FiltersetRow, RecordRow}
use Rattle.filterset_cli.specs.Report.{Account, RecordReport, Section, Sections, no_sections, next_section, outcome_of}
use Rattle.filterset_cli.specs.declared.report.ReportOutcome.{ReportOutcome}
use Rattle.filterset_record.specs.declared.record.commands.Command.{Command}
use Rattle.filterset_expression.specs.declared.expression.CompiledExpr.{CompiledExpr}
use Rattle.filterset_graph.specs.declared.package.PackageMetadata.{PackageMetadata}
use Rattle.nextest_filtering.specs.declared.compile.context.KnownGroups.{KnownGroups}

-- what two clauses say together
pub both_ok : {X Y : Type 0} (r : Result X Y) (P Q R : X → Type 0) → ((x : X) → P x → Q x → R x) → IfOk r P → IfOk r Q → IfOk r R
both_ok (Ok x) P Q R more p q = more x p q
both_ok (Err e) P Q R more p q = tt

-- as many elements as there are
pub taken_all : {A B : Type 0} (f : A → B) (xs : List A) (n : ℕ) → n ≡ length xs → map f (take n xs) ≡ map f xs
taken_all f xs n e = ap (map f) (ap (λ k. take k xs) e ∙ take-length xs)

-- the section of one more filterset
pub Sections-push : (command : Command) (background : Background) (i : ℕ) (ts : List FiltersetRow) (t : FiltersetRow) (all accepted : Bool) (text added : Text) →
    Sections command background i ts all text → Section command background (i + length ts) t accepted added →
    Sections command background i (ts ++ t ∷ []) (all && accepted) (text ++ added)
Sections-push command background i ts t all accepted text added no_sections is =
    let one : Section command background i t accepted added = rw add-zero at is in
    let alone : Sections command background i (t ∷ []) (accepted && true) (added ++ []) = next_section accepted true added one no_sections in
    let texted = subst (Sections command background i (t ∷ []) (accepted && true)) (append-nil added) alone in
    subst (λ (all : Bool). Sections command background i (t ∷ []) all added) (and-true accepted) texted
Sections-push command background i ts t all accepted text added (next_section {filterset = u} {filtersets = us} {rest} first others front is_first are) is =
    let shifted : i + length (u ∷ us) ≡ suc i + length us = omega arith in
    let further : Section command background (suc i + length us) t accepted added = rw shifted at is in
    let longer = next_section first (others && accepted) front is_first (Sections-push command background (suc i) us t others accepted rest added are further) in
    let texted = subst (Sections command background i (u ∷ (us ++ t ∷ [])) (first && (others && accepted))) (sym (append_assoc front rest added)) longer in
    subst (λ (all : Bool). Sections command background i (u ∷ (us ++ t ∷ [])) all ((front ++ rest) ++ added)) (sym (and_assoc first others accepted)) texted

-- the texts of numbered texts
pub map-enumerate_from : {A B : Type 0} (f : A → B) (n : ℕ) (xs : List A) → map (λ (p : ℕ × A). f p.1) (enumerate_from n xs) ≡ map f xs
map-enumerate_from f n [] = refl
map-enumerate_from f n (x ∷ xs) = ap (λ ys. f x ∷ ys) (map-enumerate_from f (n + 1) xs)

-- the same where the numbered texts were passed on as pairs
pub map-pairs : {A B : Type 0} (f : A → B) (ps : List (ℕ × A)) (xs : List A) → map (λ (p : ℕ × A). (p.0, p.1)) ps ≡ enumerate_from 0 xs →
    map (λ (p : ℕ × A). f p.1) ps ≡ map f xs
map-pairs {A} f ps xs h = sym (passed_on ps) ∙ ap (map (λ (p : ℕ × A). f p.1)) h ∙ map-enumerate_from f 0 xs
  where
    passed_on : (qs : List (ℕ × A)) → map (λ (p : ℕ × A). f p.1) (map (λ (p : ℕ × A). (p.0, p.1)) qs) ≡ map (λ (p : ℕ × A). f p.1) qs
    passed_on [] = refl
    passed_on (q ∷ qs) = ap (λ ys. f q.1 ∷ ys) (passed_on qs)

-- each text is numbered by its position
pub number_is_position : {A : Type 0} (xs : List A) (n : ℕ) (p : ℕ × A) → n < length (enumerate_from 0 xs) → p ≡ get_or (enumerate_from 0 xs) n p → p.0 ≡ n
number_is_position xs n p lt at =
    let below : n < length xs = rw length-enumerate_from at lt in
    ap (λ q. q.0) (at ∙ get_or-enumerate_from 0 xs n p below) ∙ zero-add n

-- a report of filtersets, with the outcome that says whether all of them are accepted
as_outcome : (row : RecordRow) (text : Text) (all : Bool) → Account row text all → RecordReport row text (outcome_of all)
as_outcome row text true account = account
as_outcome row text false account = account

pub reported : (row : RecordRow) (packages : List PackageMetadata) (groups : KnownGroups) (default : CompiledExpr) (binaries : List BinaryRow) (text : Text) (outcome : ReportOutcome) (all : Bool) →
    packages ≡ row.packages → binaries ≡ row.binaries →
    ((output : Text) (all : Bool) → Sections row.command (record { packages = row.packages; groups = groups; default = default; binaries = row.binaries }) 0 row.filtersets all output → Account row output all) →
    Sections row.command (record { packages = packages; groups = groups; default = default; binaries = binaries }) 0 row.filtersets all text → outcome ≡ outcome_of all → RecordReport row text outcome
reported row packages groups default binaries text outcome all of_packages of_binaries account sections says =
    let over_packages = subst (λ (ps : List PackageMetadata). Sections row.command (record { packages = ps; groups = groups; default = default; binaries = binaries }) 0 row.filtersets all text) of_packages sections in
    let over_both = subst (λ (bs : List BinaryRow). Sections row.command (record { packages = row.packages; groups = groups; default = default; binaries = bs }) 0 row.filtersets all text) of_binaries over_packages in
    subst (RecordReport row text) (sym says) (as_outcome row text all (account text all over_both))

-- what a value is refused for as wrong does not hold
pub no_entry : {A : Type 0} (r : EntryRefusal) (w : WrongValue) → r ≡ Wrong w → Refuses A r → A → ⊥
no_entry (Wrong v) w same refuted = refuted
no_entry (OutOfMemory e) w same h = λ a. cc
