-- Texts that are compiled one after the other.
use Rattle.std.proofs.Common.{◌≡◌, ◌≢◌, ℕ, arith, ◌+◌, List, [], ◌∷◌, ◌++◌, length, ◌∙◌, sym, ap, subst, append_assoc, length-append, refl, true, false, inl, inr, string_bytes}
use Rattle.std.specs.Prelude.{Option, Some, None, is_none, option_map, option_to_list, if◌then◌else◌}
use Rattle.std.specs.List.{AllZip, cons_option, filter_map}
use Rattle.filterset_json.specs.Pieces.{no_pieces}
use Rattle.filterset_display.specs.{Columns.Text, Remarks.RemarkRow}
use Rattle.filterset_rewriting.specs.declared.reading.TextRefusal.{TextRefusal, TheVariants.Found, TheVariants.TooDeep}
use Rattle.filterset_faults.specs.declared.{error.ParseSingleError.ParseSingleError, kind.FiltersetKind.FiltersetKind}
use Rattle.filterset_graph.specs.declared.package.PackageMetadata.{PackageMetadata}
use Rattle.filterset_language.specs.Views.{tree_of}
use Rattle.nextest_filtering.specs.Compiling.{IsRefusedWith, found, rejected, banned, unmatched, packages_of}
use Rattle.nextest_filtering.specs.declared.{compile.context.KnownGroups.KnownGroups, filterset.Filterset.Filterset}
use Rattle.filterset_answers.specs.Answers.{FaultsOf, TextFaults, has_some, no_texts}
use Rattle.filterset_answers.specs.Compiled.{Compiles, HasMade, IsFilter, IsLogOf, IsMade, IsParsedAs}
use Rattle.filterset_answers.specs.declared.compiling.{Compiler.Compiler, FaultLog.FaultLog}
use Rattle.filterset_answers.proofs.AnswersLemmas.{FaultsOf-push, one_if, some_is}
use Rattle.filterset_entries.specs.Checked.{IsRefusedFor, all_remarks, HasRefusal, TextRow, text_row}
use Rattle.filterset_entries.specs.Entries.{filter_row}
use Rattle.filterset_entries.specs.declared.{setting.OverrideEntry.OverrideEntry, text.TextEntry.TextEntry}
use Rattle.filterset_entries.proofs.RowsLemmas.{AllZip-push}

-- the faults that refuse a text are some
refusal_some : (text : Text) (kind : FiltersetKind) (packages : List PackageMetadata) (groups : KnownGroups) (faults : List ParseSingleError)
    → IsRefusedWith text kind packages groups faults → faults ≢ []
refusal_some text kind packages groups faults (found unread) = unread.some
refusal_some text kind packages groups faults (rejected e reads (banned are some)) = some
refusal_some text kind packages groups faults (rejected e reads (unmatched allowed are some)) = some

refused_some : (packages : List PackageMetadata) (groups : KnownGroups) (row : TextRow) (faults : TextRefusal)
    → IsRefusedFor packages groups row faults → true ≡ has_some (all_remarks faults)
refused_some packages groups row (Found faults) refused = some_is faults.items (refusal_some _ _ _ _ faults.items refused)
refused_some packages groups row (TooDeep place) refused = refl

-- which faults a text has for a compiler
abbrev pub Refuses : Compiler → TextRow → List RemarkRow → Type 0
Refuses compiler = HasRefusal (packages_of compiler.context) compiler.groups.now

-- what is written of a text is what is written of its faults
parsed_faults : (compiler : Compiler) (number : ℕ) (row : TextRow) (made : Option Filterset) (piece : Text)
    → IsParsedAs compiler number row made piece → TextFaults (Refuses compiler) compiler.form number row (is_none made) piece
parsed_faults compiler number row (Some made) piece (none, is) =
    subst (TextFaults (Refuses compiler) compiler.form number row false) (sym none) ([], inl (tree_of made.parsed, is.accepted, refl), refl, no_pieces)
parsed_faults compiler number row None piece (faults, refused, is) =
    (all_remarks faults, inr (faults, refused, refl), refused_some _ _ row faults refused, is)

-- the faults of one more text
logged : (compiler : Compiler) (others : List TextRow) (row : TextRow) (before after : FaultLog) (made : Option Filterset) (number : ℕ) (piece : Text)
    → (log : IsLogOf compiler others before) → number ≡ before.count + 1 → string_bytes after.text ≡ string_bytes before.text ++ piece → IsParsedAs compiler number row made piece
    → FaultsOf (Refuses compiler) compiler.form 1 (others ++ row ∷ []) (log.faulty + one_if (is_none made)) (string_bytes after.text)
logged compiler others row before after made number piece log next added is =
    let at : number ≡ 1 + length others = omega (arith, next, log.counted) in
    let one = subst (λ n. TextFaults (Refuses compiler) compiler.form n row (is_none made) piece) at (parsed_faults compiler number row made piece is) in
    subst (FaultsOf (Refuses compiler) compiler.form 1 (others ++ row ∷ []) (log.faulty + one_if (is_none made))) (sym added)
    (FaultsOf-push (Refuses compiler) compiler.form 1 others row log.faulty (is_none made) (string_bytes before.text) piece log.written one)

-- how many texts there are with one more
counted : (compiler : Compiler) (others : List TextRow) (row : TextRow) (before after : FaultLog) (number : ℕ)
    → IsLogOf compiler others before → number ≡ before.count + 1 → after.count ≡ number → after.count ≡ length (others ++ row ∷ [])
counted compiler others row before after number log next is = omega (arith, next, is, log.counted, length-append others (row ∷ []))

-- one more text was compiled
pub compiles_one : (compiler : Compiler) (row : TextRow) (before after : FaultLog) (made : Option Filterset) (number : ℕ) (piece : Text)
    → number ≡ before.count + 1 → after.count ≡ number → string_bytes after.text ≡ string_bytes before.text ++ piece
    → after.has_any ≡ (if is_none made then true else before.has_any) → IsParsedAs compiler number row made piece
    → Compiles compiler (row ∷ []) before after (HasMade compiler row made)
compiles_one compiler row before after (Some made) number piece next is added kept parsed = record {
  logs = λ others log. record {
    faulty = log.faulty + 0;
    counted = counted compiler others row before after number log next is;
    written = logged compiler others row before after (Some made) number piece log next added parsed;
    some = λ any none. log.some (sym kept ∙ any) (omega (arith, none));
  };
  no_faults = λ none. sym kept ∙ none;
  makes = λ none. parsed.1;
}
compiles_one compiler row before after None number piece next is added kept parsed = record {
  logs = λ others log. record {
    faulty = log.faulty + 1;
    counted = counted compiler others row before after number log next is;
    written = logged compiler others row before after None number piece log next added parsed;
    some = λ any none. omega (arith, none);
  };
  no_faults = λ none. absurd (let e : true ≡ false = sym kept ∙ none in cc);
  makes = λ none. absurd (let e : true ≡ false = sym kept ∙ none in cc);
}

-- texts were compiled, and then others
pub compiles_both : (compiler : Compiler) (rows others : List TextRow) (before between after : FaultLog) (P Q R : Type 0)
    → Compiles compiler rows before between P → Compiles compiler others between after Q → (P → Q → R) → Compiles compiler (rows ++ others) before after R
compiles_both compiler rows others before between after P Q R one other joined = record {
  logs = λ earlier log. subst (λ all. IsLogOf compiler all after) (append_assoc earlier rows others) (other.logs (earlier ++ rows) (one.logs earlier log));
  no_faults = λ none. one.no_faults (other.no_faults none);
  makes = λ none. joined (one.makes (other.no_faults none)) (other.makes none);
}

-- the filterset of one more text
pub made_more : (compiler : Compiler) (rows : List TextRow) (row : TextRow) (old : List Filterset) (made : Option Filterset)
    → AllZip (IsMade compiler) rows old → HasMade compiler row made → AllZip (IsMade compiler) (rows ++ row ∷ []) (old ++ option_to_list made)
made_more compiler rows row old None are is = absurd is
made_more compiler rows row old (Some made) are is = AllZip-push (IsMade compiler) rows old row made are is

-- an empty log
pub empty_log : (compiler : Compiler) (log : FaultLog) → string_bytes log.text ≡ [] → log.count ≡ 0 → log.has_any ≡ false → IsLogOf compiler [] log
empty_log compiler log none no_count no_faults = record {
  faulty = 0;
  counted = no_count;
  written = subst (FaultsOf (Refuses compiler) compiler.form 1 [] 0) (sym none) no_texts;
  some = λ any. absurd (let e : true ≡ false = sym any ∙ no_faults in cc);
}

-- the filter of an override was compiled
pub compiles_filter : (compiler : Compiler) (entry : OverrideEntry) (text : TextEntry) (before after : FaultLog) (made : Option Filterset) → entry.filter ≡ Some text
    → Compiles compiler (text_row text ∷ []) before after (HasMade compiler (text_row text) made) → Compiles compiler (filter_map filter_row (entry ∷ [])) before after (IsFilter compiler entry made)
compiles_filter compiler entry text before after made e is =
    let filter_made : (f : Option Filterset) → HasMade compiler (text_row text) f → IsFilter compiler entry f = λ f. elim f as (λ f. HasMade compiler (text_row text) f → IsFilter compiler entry f) [ Some m ↦ λ one. (text, e, one) | None ↦ λ none. absurd none ] in
    subst (λ row. Compiles compiler (cons_option row []) before after (IsFilter compiler entry made)) (sym (ap (option_map text_row) e)) (record {
      logs = is.logs;
      no_faults = is.no_faults;
      makes = λ none. filter_made made (is.makes none);
    })
